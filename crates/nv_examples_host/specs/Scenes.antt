-- A host's mediator, its lanes and its memory, as the examples start from them
use Rattle.std.specs.Prelude.{◌≡◌, ℕ, ◌+◌, ◌*◌, Bool, true, false, List, [], ◌∷◌, ◌++◌, map, replicate, slice_set, Some, None}
use Rattle.std.specs.List.{enumerate_from, range_with_len}
use Rattle.nv_laws_sound.specs.Side.{Side}
use Rattle.nv_entry.specs.Completion.{completion}
use Rattle.nv_entry.specs.Status.{StatusField}
use Rattle.nv_entry.specs.StatusCode.{done_with}
use Rattle.nv_entry.specs.declared.status_code.StatusCode.TheVariants.{Success}
use Rattle.nv_host.specs.Closing.{over}
use Rattle.nv_host.specs.Served.{Served, opened}
use Rattle.nv_host.specs.Work.{Scene, scene}
use Rattle.nv_laws_sound.specs.Unplaced.{unplaced_lane}
use Rattle.nv_model.specs.Controller.{Controller}
use Rattle.nv_model.specs.Memory.{byte_in}
use Rattle.nv_model.specs.Rows.{first_example}
use Rattle.nv_model.specs.declared.act.Act.TheVariants as act
use Rattle.nv_ns.specs.BlockRange.{Extent}
use Rattle.nv_world_model.specs.Device.{opening_device_lane}
use Rattle.nv_world_model.specs.Geometry.{Geometry, Guest}
use Rattle.nv_world_model.specs.Plan.{Answer, Plan}
use Rattle.nv_world_model.specs.Rows.{controller_with, guest_at, numbered, set_up}
use Rattle.nv_world_model.specs.SetUp.{SetUp}
use Rattle.nv_world_model.specs.Share.{Share}
use Rattle.nv_world_model.specs.World.{Answered, Command, Ended, Flying, Free, InDevice, Lane, Queued, Standing, Tag, Taken, World, opening_lane, opening_world}
use Rattle.nv_world_model.specs.declared.event.Event.{Event}
use Rattle.nv_world_model.specs.declared.event.Event.TheVariants as event

-- ---- tags

abbrev pub command_of : (guest queue leader : ℕ) → Command
command_of guest queue leader = record { guest = guest; queue = queue; entry = first_example; leader = leader }

-- what a tag does of its command; here it doesn't matter what
abbrev pub part : Share
part = (let plan : Plan = Answer (done_with Success) in record { whole = plan; plan = plan; numbers = [] })

abbrev pub flying : (guest queue leader : ℕ) → Standing → Tag
flying guest queue leader at = Flying (command_of guest queue leader) part at

-- three tags are the first guest's: of a command that waits for its plan, of one that was handed on, and of one that has ended; tag 3 is free; and five
-- are the second's: of a command of two tags that waits for its plan, of one of two tags that was handed on, and of one that has ended
abbrev pub nine_tags : List Tag
nine_tags =
    Taken (command_of 0 1 0) [] ∷ flying 0 2 1 InDevice ∷ Ended (command_of 0 1 2) (done_with Success) (Some part) ∷ Free
    ∷ Taken (command_of 1 1 4) [] ∷ Taken (command_of 1 1 4) [] ∷ flying 1 2 6 (Queued 3) ∷ flying 1 2 6 (Answered 2)
    ∷ Ended (command_of 1 1 8) (done_with Success) None ∷ []

abbrev pub busy_lane : Lane
busy_lane = record { head = 0; phase = true; tags = nine_tags }

-- the same lane where it reads that slot next, and wants that phase tag there
abbrev pub reading : (head : ℕ) → (phase : Bool) → Lane
reading head phase = record busy_lane { head = head; phase = phase }

-- ---- completions

-- a completion of that queue and identifier, with that phase tag
abbrev pub completion_with : (queue identifier : ℕ) → (phase : Bool) → List ℕ
completion_with queue identifier phase = completion 0 0 queue identifier phase (done_with Success)

-- the usual set-up where the mediator's area begins with the third page of the host's memory
abbrev pub low : Geometry
low = record set_up { mediator = 8192 }

-- a memory whose bytes end with the first two slots of the first lane's completion ring: an old completion and a new one
abbrev pub two_slots : List ℕ
two_slots = replicate 16384 0 ++ completion_with 1 1 false ++ completion_with 1 6 true

-- ---- guests

abbrev pub extent : (base blocks : ℕ) → Extent
extent base blocks = record { base = base; blocks = blocks }

-- a guest with two extents, and one with one
abbrev pub guest_of_two : Guest
guest_of_two = record (guest_at 0x100000 0) { namespace = extent 1000 64 ∷ extent 3000 8 ∷ [] }

abbrev pub two_guests : List Guest
two_guests = guest_of_two ∷ guest_at 0x200000 2000 ∷ []

-- so many guests of one page and eight blocks, each block an extent
abbrev pub crowd : (count : ℕ) → List Guest
crowd count = map one (range_with_len 0 count)
  where
    one : ℕ → Guest
    one number = record {
      memory_map = record { host_len = 0x1000000; regions = record { guest = 0; host = 4096 * number; len = 4096 } ∷ [] };
      namespace = map (λ at. extent (8 * number + at) 1) (range_with_len 0 8);
      limit = 1024;
    }

-- ---- set-ups

abbrev pub set_up_of : List Guest → SetUp
set_up_of guests = record { host_bytes = 0x1000000; lanes = 1; geometry = record { mediator = 0x400000; disk_blocks = 4096; guests = guests } }

-- a host of that many bytes, and a disk of that many blocks, without guests
abbrev pub host_of_size : (host_bytes disk_blocks : ℕ) → SetUp
host_of_size host_bytes disk_blocks =
    record { host_bytes = host_bytes; lanes = 1; geometry = record { mediator = 0x400000; disk_blocks = disk_blocks; guests = [] } }

-- two lanes and those two guests
abbrev pub given : SetUp
given = record { host_bytes = 0x2000000; lanes = 2; geometry = record { mediator = 0x400000; disk_blocks = 4096; guests = two_guests } }

-- ---- the mediator

abbrev pub side : (controllers : List Controller) → Side
side controllers = record { lanes = busy_lane ∷ opening_lane ∷ []; tails = 5 ∷ 7 ∷ []; controllers = controllers }

-- the second lane was closed; each guest has room for so many tags beside those of one command
abbrev pub serving : (first second : ℕ) → Served
serving first second =
    record {
      setup = given;
      side = side (controller_with 16 1 ∷ controller_with 16 0 ∷ []);
      closed = false ∷ true ∷ [];
      spare = first ∷ second ∷ [];
    }

-- a world of that side and memory
abbrev pub world_of : Side → (memory : List ℕ) → World
world_of s memory =
    record {
      host = byte_in memory;
      disk = numbered;
      kept = (λ _. false);
      device = map (λ tail. record opening_device_lane { tail = tail }) s.tails;
      lanes = s.lanes;
      controllers = s.controllers;
    }

-- the side with other tails; and where the parts that were handed on are all in the physical controller
abbrev pub with_tails : (first second : ℕ) → Side
with_tails first second = record (side []) { tails = first ∷ second ∷ [] }

abbrev pub elsewhere : Side
elsewhere = record (side []) { lanes = unplaced_lane busy_lane ∷ opening_lane ∷ [] }

-- the world at the start of the set-up, with zeros in memory
abbrev pub start : World
start = opening_world (byte_in []) numbered given.geometry given.lanes

-- the first guest writes the sizes of its admin queues
abbrev pub register_written : Event
register_written = event.Guest 0 (act.RegWrite 0x24 0x001f001f)

-- a status whose type no completion can hold
abbrev pub unfitting : StatusField
unfitting = record { sct = 8; sc = 0; dnr = false }

-- that set-up with the tags of a busy lane
abbrev pub busy : SetUp → Served
busy s = record (opened s) { side = record (opened s).side { lanes = busy_lane ∷ opening_lane ∷ [] } }

-- a set-up of one lane whose area is where the host's memory begins
abbrev pub first_area : SetUp
first_area = record { host_bytes = 0x1000000; lanes = 1; geometry = record { mediator = 0; disk_blocks = 4096; guests = [] } }

-- a side of one lane, and of one lane with one tag
abbrev pub one_lane : Lane → Side
one_lane lane = record { lanes = lane ∷ []; tails = 0 ∷ []; controllers = [] }

abbrev pub one_tag : Tag → Side
one_tag t = one_lane (record opening_lane { tags = t ∷ [] })

-- the side with a busy lane where it was closed but for the tag 7
abbrev pub closed_but_one : Side
closed_but_one = record (side []) { lanes = record busy_lane { tags = slice_set (map (λ t. over t.0 t.1) (enumerate_from 0 nine_tags)) 7 (flying 1 2 6 (Answered 2)) } ∷ opening_lane ∷ [] }

-- ---- scenes

-- a mediator of one lane that reads that slot of its completion ring next, and a memory with two completions there
abbrev pub at_slot : (head : ℕ) → Scene
at_slot head = scene (record (serving 9 9) { setup = record given { geometry = low }; side = one_lane (reading head true) }) two_slots

-- a mediator of two lanes in passes of another phase tag
abbrev pub in_two_passes : Scene
in_two_passes =
    scene (record (serving 9 9) { setup = record given { geometry = low }; side = record (side []) { lanes = reading 0 false ∷ opening_lane ∷ [] } }) two_slots

-- the next number; and two numbers before
abbrev pub one_more : Event → (old new : ℕ) → Type 0
one_more e old new = new ≡ old + 1

abbrev pub two_back : (old new : ℕ) → Type 0
two_back old new = old ≡ new + 2
