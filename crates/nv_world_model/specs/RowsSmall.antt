-- Worked examples: the smallest world of two guests, in which each kind of event is contained
use Rattle.std.specs.Prelude.{ℕ, true, false, List, [], ◌∷◌, ◌++◌, replicate, Option, Some, None}
use Rattle.nv_entry.specs.Completion.{completion}
use Rattle.nv_entry.specs.StatusCode.{done_with}
use Rattle.nv_entry.specs.declared.opcode.IoOpcode.TheVariants as opcode
use Rattle.nv_entry.specs.declared.status_code.StatusCode.TheVariants.{Success}
use Rattle.nv_model.specs.Controller.{Controller, opening}
use Rattle.nv_model.specs.Judge.{ClearBlock, Work}
use Rattle.nv_model.specs.Memory.{stored}
use Rattle.nv_model.specs.Private.{block_written, marked}
use Rattle.nv_model.specs.Queue.{new_completion, new_submission}
use Rattle.nv_model.specs.Rows.{command, dword0, write_zeroes}
use Rattle.nv_model.specs.RowsRuns.{admin_entry}
use Rattle.nv_world_model.specs.declared.event.Event.{Event}
use Rattle.nv_world_model.specs.declared.event.Event.TheVariants as event
use Rattle.nv_world_model.specs.Area.{physical_entry}
use Rattle.nv_world_model.specs.Device.{Held}
use Rattle.nv_world_model.specs.Geometry.{Geometry, Guest}
use Rattle.nv_world_model.specs.Plan.{NoData}
use Rattle.nv_world_model.specs.Rows.{numbered}
use Rattle.nv_world_model.specs.Share.{Share}
use Rattle.nv_world_model.specs.Step.{replay}
use Rattle.nv_world_model.specs.World.{Answered, Command, Flying, Free, InDevice, Standing, Taken, World}

-- a guest with 512 bytes of memory from address 0 on, which lie there in the host, and two blocks from this one on
abbrev pub small_guest : (host base : ℕ) → Guest
small_guest host base =
    record {
      memory_map = record { host_len = 0x1000000; regions = record { guest = 0; host = host; len = 0x200 } ∷ [] };
      namespace = record { base = base; blocks = 2 } ∷ [];
      limit = 1;
    }

abbrev pub small_first : Guest
small_first = small_guest 0x1000 2

abbrev pub small_second : Guest
small_second = small_guest 0x2000 4

-- the mediator's area from 10000h on, a disk of eight blocks, and two guests
abbrev pub small : Geometry
small = record { mediator = 0x10000; disk_blocks = 8; guests = small_first ∷ small_second ∷ [] }

-- an enabled controller with queue pair 1 and the admin queues, of two slots each: submission slots at 40h and 100h, of which one is submitted, and
-- completion slots at c0h and 180h
abbrev pub small_controller : Controller
small_controller =
    record opening {
      cc = 0x00460001;
      ready = true;
      submission =
          Some (record (new_submission 0x100 2 0) { tail = 1 }) ∷ Some (record (new_submission 0x40 2 1) { tail = 1 }) ∷ replicate 7 None;
      completion_queues = Some (new_completion 0x180 2 (Some 0)) ∷ Some (new_completion 0xc0 2 None) ∷ replicate 7 None;
    }

-- a Write Zeroes of the first block
abbrev pub clear_one : List ℕ
clear_one = command (dword0 write_zeroes 0 0) 1 (replicate 16 0) 0 0 0

-- an Abort with identifier 3
abbrev pub abort : List ℕ
abort = admin_entry 0x08 3 0 0 0 0 0

-- a world of one lane of two tags, in which each guest has written the doorbell for a Write Zeroes, and the first for an Abort, too
abbrev pub small_world : World
small_world =
    record {
      host = stored (stored (stored (λ _. 0) 0x1040 clear_one) 0x1100 abort) 0x2040 clear_one;
      disk = numbered;
      kept = (λ _. false);
      device = record { head = 0; tail = 0; posted = 0; phase = true; held = None ∷ None ∷ [] } ∷ [];
      lanes = record { head = 0; phase = true; tags = Free ∷ Free ∷ [] } ∷ [];
      controllers = small_controller ∷ small_controller ∷ [];
    }

-- the world after these events, where the second guest's command is handed on in tag 0
abbrev pub small_behind : List Event → World
small_behind events = replay small (event.Take 1 1 0 ∷ event.Submit 0 0 ∷ events) small_world

-- what leads to each point of the first guest's command, which is in tag 1
abbrev pub taken_second : List Event
taken_second = event.Take 0 1 0 ∷ []

abbrev pub given_up_second : List Event
given_up_second = taken_second ++ event.GiveUp 0 1 ∷ []

-- the world after these events, where the second guest's command is taken in tag 0, and the first's is handed on in tag 1
abbrev pub small_handed_on : List Event → World
small_handed_on events = replay small (event.Take 1 1 0 ∷ event.Take 0 1 0 ∷ event.Submit 0 1 ∷ events) small_world

-- it is in the device
abbrev pub held_second : List Event
held_second = event.DevTake 0 ∷ []

-- its block has been cleared
abbrev pub moved_second : List Event
moved_second = held_second ++ event.DevMove 0 1 0 ∷ []

-- and the device has completed it
abbrev pub posted_second : List Event
posted_second = moved_second ++ event.DevPost 0 1 ∷ []

-- ---- written out

-- each guest's Write Zeroes
abbrev pub clear_of : (guest tag : ℕ) → Command
clear_of guest tag = record { guest = guest; queue = 1; entry = clear_one; leader = tag }

-- what the first guest's is: its first block becomes zeros
abbrev pub clear_work : Work
clear_work = record { opcode = opcode.WriteZeroes; pieces = []; ranges = []; units = ClearBlock 0 false ∷ []; fua = false }

-- its one share, which is the whole
abbrev pub clear_share : Share
clear_share = record { whole = NoData clear_work; plan = NoData clear_work; numbers = 0 ∷ [] }

-- the physical entry of the first guest's, and its physical completion
abbrev pub clear_entry : List ℕ
clear_entry = physical_entry 0x08 1 (record { prp1 = 0; prp2 = 0; list = replicate 32 0; used = 0 }) (2 ∷ 0 ∷ 0 ∷ [])

abbrev pub clear_answer : List ℕ
clear_answer = completion 0 1 1 1 true (done_with Success)

-- a controller of which one command is taken
abbrev pub small_took : Controller
small_took =
    record small_controller {
      submission =
          Some (record (new_submission 0x100 2 0) { tail = 1 }) ∷ Some (record (new_submission 0x40 2 1) { head = 1; tail = 1 }) ∷ replicate 7 None;
      taken = 0 ∷ 1 ∷ replicate 7 0;
    }

-- the world in which the first guest's command is in that position, with what the device holds, the slot that it writes next, and the host's memory
-- after the physical entry
abbrev pub small_device : (standing : Standing) (held : Option Held) (posted : ℕ) (host : (ℕ → ℕ) → ℕ → ℕ) → World
small_device standing held posted host =
    record {
      host = host (stored (stored (stored small_world.host 0x34000 []) 0x35000 []) 0x10000 clear_entry);
      disk = block_written numbered 2 (replicate 512 0);
      kept = marked (λ _. false) 2 false;
      device = record { head = 1; tail = 1; posted = posted; phase = true; held = None ∷ held ∷ [] } ∷ [];
      lanes =
          record { head = 0; phase = true; tags = Taken (clear_of 1 0) [] ∷ Flying (clear_of 0 1) clear_share standing ∷ [] } ∷ [];
      controllers = small_took ∷ small_took ∷ [];
    }

-- the world in which its block has been cleared
abbrev pub small_moved : World
small_moved =
    small_device InDevice (Some (record { entry = clear_entry; pieces = []; left = []; differed = false })) 0 (λ host. host)

-- the world in which the device has completed it
abbrev pub small_posted : World
small_posted = small_device (Answered 0) None 1 (λ host. stored host 0x12000 clear_answer)
