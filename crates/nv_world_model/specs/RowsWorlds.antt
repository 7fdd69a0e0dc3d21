-- Worked examples: lists, queues and lanes that they start from
use Rattle.std.specs.Prelude.{ℕ, Bool, true, List, [], ◌∷◌, ◌++◌, map, replicate, slice_set, Option, Some, None}
use Rattle.nv_model.specs.declared.act.Act.TheVariants as act
use Rattle.nv_model.specs.Controller.{Controller, no_queues}
use Rattle.nv_model.specs.Queue.{new_completion, new_submission}
use Rattle.nv_model.specs.Rows.{by_prp, by_sgl, data_block, first_example, last_segment, manage, prp_entries}
use Rattle.nv_model.specs.RowsRuns.{create_completion_queue, create_submission_queue, delete_submission_queue, flush_of}
use Rattle.nv_world_model.specs.declared.event.Event.{Event}
use Rattle.nv_world_model.specs.declared.event.Event.TheVariants as event
use Rattle.nv_world_model.specs.Device.{opening_device_lane}
use Rattle.nv_world_model.specs.Rows.{behind, completed, controller_with, guest_at, holding, in_device, moves, one_command_on, set_up, world_with}
use Rattle.nv_world_model.specs.Geometry.{Geometry, Guest}
use Rattle.nv_world_model.specs.Step.{replay}
use Rattle.nv_world_model.specs.Due.{due}
use Rattle.nv_world_model.specs.World.{Ended, Flying, Free, Tag, Taken, World, opening_lane, opening_world, tag_of}

-- ---- lists

-- a command on blocks 5 and 6 whose list of these two descriptors a Last Segment at 6000h names
abbrev pub two_described : (opcode : ℕ) → (first second : List ℕ) → World
two_described opcode first second = one_command_on 0x6000 (first ++ second) (by_sgl opcode 5 1 (last_segment 0x6000 32))

-- a Read of them into 512 bytes at each of these addresses
abbrev pub read_apart : (first second : ℕ) → World
read_apart first second = two_described 0x02 (data_block first 512) (data_block second 512)

-- a command with a list in these bytes of memory, up to and with the device's taking of it
abbrev pub list_in_device : (addr len : ℕ) → List Event
list_in_device addr len = event.Take 0 1 0 ∷ event.List 0 0 addr len ∷ event.Submit 0 0 ∷ event.DevTake 0 ∷ []

-- to its end, of so many units
abbrev pub list_whole : (addr len units : ℕ) → List Event
list_whole addr len units = list_in_device addr len ++ moves units ++ completed

-- a Read of three pages at 3000h, 8000h and 9000h, whose PRP2 points to the last slot of a page
abbrev pub paged_read : World
paged_read = one_command_on 0x6ff8 (prp_entries (0x7000 ∷ 0x8000 ∷ 0x9000 ∷ [])) (by_prp 0x02 5 23 0x3000 0x6ff8)

-- a Dataset Management of these two ranges, which deallocates
abbrev pub two_ranges : (first second : List ℕ) → World
two_ranges first second = one_command_on 0x3000 (first ++ second) (manage true 1 (data_block 0x3000 32))

-- ---- queues

-- three Flushes with identifiers 1, 2 and 3, and a completion queue of two slots
abbrev pub three_flushes : World
three_flushes = world_with (holding 0x113000 (flush_of 1 ++ flush_of 2 ++ flush_of 3)) 2 3 0

-- they have ended, in tags 0, 1 and 2
abbrev pub three_ended : List Event
three_ended =
    replicate 3 (event.Take 0 1 0) ++ event.Submit 0 0 ∷ event.Submit 0 1 ∷ event.Submit 0 2 ∷ replicate 3 (event.DevTake 0)
    ++ event.DevMove 0 0 0 ∷ event.DevMove 0 1 0 ∷ event.DevMove 0 2 0 ∷ event.DevPost 0 0 ∷ event.DevPost 0 1 ∷ event.DevPost 0 2
    ∷ replicate 3 (event.Reap 0)

-- the head doorbell of the first guest's completion queue
abbrev pub head_rung : (head : ℕ) → Event
head_rung head = event.Guest 0 (act.Doorbell 0x100c head)

-- a submission queue of 128 slots of which 65 are submitted, the last of them with the first example
abbrev pub many_rung : World
many_rung =
    record (world_with (holding 0x114000 first_example) 16 0 0) {
      controllers = wide ∷ controller_with 16 0 ∷ [];
    }
  where
    wide : Controller
    wide = record (controller_with 16 0) {
      submission = slice_set no_queues 1 (Some (record (new_submission 0x13000 128 1) { tail = 65 }));
    }

-- the entry of the command in a tag
abbrev pub tag_entry : Option Tag → List ℕ
tag_entry None = []
tag_entry (Some Free) = []
tag_entry (Some (Taken command reads)) = command.entry
tag_entry (Some (Flying command plan standing)) = command.entry
tag_entry (Some (Ended command st plan)) = command.entry

abbrev pub entry_in_tag : (lane tag : ℕ) → World → List ℕ
entry_in_tag lane tag w = tag_entry (tag_of w lane tag)

-- ---- the admin queue

-- the first guest enables its controller and creates queue pair 1
abbrev pub bring_up : List Event
bring_up =
    event.Guest 0 (act.Store 0x10000 (create_completion_queue 16)) ∷ event.Guest 0 (act.Store 0x10040 create_submission_queue)
    ∷ event.Guest 0 (act.RegWrite 0x24 0x001f001f) ∷ event.Guest 0 (act.RegWrite 0x28 0x10000)
    ∷ event.Guest 0 (act.RegWrite 0x30 0x11000) ∷ event.Guest 0 (act.RegWrite 0x14 0x00460001)
    ∷ event.Guest 0 (act.Doorbell 0x1000 2) ∷ event.Admin 0 ∷ event.Admin 0 ∷ []

-- its controller after that
abbrev pub brought_up : Controller
brought_up =
    record (controller_with 16 0) {
      aqa = 0x001f001f;
      asq_low = 0x10000;
      acq_low = 0x11000;
      submission =
          Some (record (new_submission 0x10000 32 0) { head = 2; tail = 2 }) ∷ Some (new_submission 0x13000 16 1) ∷ replicate 7 None;
      completion_queues =
          Some (record (new_completion 0x11000 32 (Some 0)) { tail = 2 }) ∷ Some (new_completion 0x12000 16 None) ∷ replicate 7 None;
    }

-- a world of that set-up and one lane as it is made
abbrev pub at_start : World
at_start = opening_world (λ _. 0) (λ _ _. 0) set_up 1

-- the doorbell for the first example is written, the example is taken, and then the deletion of its submission queue is requested
abbrev pub deletion_rung : List Event
deletion_rung =
    bring_up ++ event.Guest 0 (act.Store 0x13000 first_example) ∷ event.Guest 0 (act.Doorbell 0x1008 1) ∷ event.Take 0 1 0
    ∷ event.Guest 0 (act.Store 0x10080 delete_submission_queue) ∷ event.Guest 0 (act.Doorbell 0x1000 3) ∷ []

-- the deletion begins, and the command goes to its end
abbrev pub deletion_due : List Event
deletion_due =
    deletion_rung ++ event.Admin 0 ∷ event.Submit 0 0 ∷ event.DevTake 0 ∷ event.DevMove 0 0 0 ∷ completed

-- ---- lanes

-- a world of two lanes in which the first guest has written the doorbell for this one command
abbrev pub two_lanes : (entry : List ℕ) → World
two_lanes entry =
    record (world_with (holding 0x113000 entry) 16 1 0) {
      device = opening_device_lane ∷ opening_device_lane ∷ [];
      lanes = opening_lane ∷ opening_lane ∷ [];
    }

-- a command of one unit goes by the second lane
abbrev pub by_second_lane : List Event
by_second_lane =
    event.Take 0 1 1 ∷ event.Submit 1 0 ∷ event.DevTake 1 ∷ event.DevMove 1 0 0 ∷ event.DevPost 1 0 ∷ event.Reap 1 ∷ event.Post 1 0 ∷ []

-- ---- marks

-- the marks of these blocks of the disk
abbrev pub marks_at : List ℕ → World → List Bool
marks_at blocks w = map w.kept blocks

-- ---- what is due

-- whether that event is due after these
abbrev pub due_behind : List Event → World → Event → Bool
due_behind events w e = behind events w (due set_up e)

-- ---- a map of two regions

-- the same set-up, where the first guest's memory from 10000h on lies elsewhere in the host
abbrev pub split_set_up : Geometry
split_set_up = record set_up { guests = split_guest ∷ guest_at 0x200000 2000 ∷ [] }
  where
    split_guest : Guest
    split_guest =
        record (guest_at 0x100000 1000) {
          memory_map =
              record {
                host_len = 0x1000000;
                regions =
                    record { guest = 0; host = 0x100000; len = 0x10000 } ∷ record { guest = 0x10000; host = 0x150000; len = 0x10000 } ∷ [];
              };
        }

-- its Read of block 5 into 512 bytes at this address is in the device
abbrev pub split_read : (addr : ℕ) → World
split_read addr = replay split_set_up in_device (world_with (holding 0x153000 (by_sgl 0x02 5 0 (data_block addr 512))) 16 1 0)
