-- Worked examples: a host, a disk and two guests that they start from, and what is examined
use Rattle.std.specs.Prelude.{ℕ, ◌+◌, ◌%◌, Bool, true, false, List, [], ◌∷◌, ◌++◌, map, slice_set, None, Some}
use Rattle.std.specs.List.{range_with_len}
use Rattle.nv_entry.specs.Layout.{number_at}
use Rattle.nv_model.specs.Controller.{Controller, no_queues, opening}
use Rattle.nv_model.specs.Memory.{bytes_from, stored}
use Rattle.nv_model.specs.Queue.{new_completion, new_submission}
use Rattle.nv_model.specs.Rows.{first_example}
use Rattle.nv_model.specs.declared.reply.Reply.{Reply}
use Rattle.nv_world_model.specs.declared.event.Event.{Event}
use Rattle.nv_world_model.specs.declared.event.Event.TheVariants as event
use Rattle.nv_world_model.specs.Device.{opening_device_lane}
use Rattle.nv_world_model.specs.Geometry.{Geometry, Guest}
use Rattle.nv_world_model.specs.Step.{replay, replies}
use Rattle.nv_world_model.specs.World.{World, opening_lane}

-- ---- the set-up

-- a guest with 20000h bytes of memory from address 0 on, which lie there in the host, and 64 blocks from this one on
abbrev pub guest_at : (host base : ℕ) → Guest
guest_at host base =
    record {
      memory_map = record { host_len = 0x1000000; regions = record { guest = 0; host = host; len = 0x20000 } ∷ [] };
      namespace = record { base = base; blocks = 64 } ∷ [];
      limit = 1024;
    }

-- the mediator's area from 400000h on, a disk of 4,096 blocks, and two guests
abbrev pub set_up : Geometry
set_up =
    record { mediator = 0x400000; disk_blocks = 4096; guests = guest_at 0x100000 1000 ∷ guest_at 0x200000 2000 ∷ [] }

-- an enabled controller with queue pair 1: so many completion slots at 12000h, and 16 submission slots at 13000h, of which so many are submitted
abbrev pub controller_with : (slots rung : ℕ) → Controller
controller_with slots rung =
    record opening {
      cc = 0x00460001;
      ready = true;
      submission = slice_set no_queues 1 (Some (record (new_submission 0x13000 16 1) { tail = rung }));
      completion_queues = slice_set no_queues 1 (Some (new_completion 0x12000 slots None));
    }

-- each block of the disk holds its number in every byte, modulo 256
abbrev pub numbered : ℕ → ℕ → ℕ
numbered block offset = block % 256

-- a world of one lane with this memory, on which so many entries of each guest are submitted
abbrev pub world_with : (host : ℕ → ℕ) → (slots first second : ℕ) → World
world_with host slots first second =
    record {
      host = host;
      disk = numbered;
      kept = (λ _. false);
      device = opening_device_lane ∷ [];
      lanes = opening_lane ∷ [];
      controllers = controller_with slots first ∷ controller_with slots second ∷ [];
    }

-- memory of zeros but for these bytes
abbrev pub holding : (addr : ℕ) → List ℕ → ℕ → ℕ
holding addr bytes = stored (λ _. 0) addr bytes

-- a world in which the first guest has written the doorbell for this one command
abbrev pub one_command : (entry : List ℕ) → World
one_command entry = world_with (holding 0x113000 entry) 16 1 0

-- the same, where the guest's memory holds more bytes
abbrev pub one_command_on : (addr : ℕ) → List ℕ → (entry : List ℕ) → World
one_command_on addr bytes entry = world_with (stored (holding 0x113000 entry) (0x100000 + addr) bytes) 16 1 0

-- ---- events

-- up to and with the device's taking of a command of the first guest, in tag 0
abbrev pub in_device : List Event
in_device = event.Take 0 1 0 ∷ event.Submit 0 0 ∷ event.DevTake 0 ∷ []

-- so many units move, in order
abbrev pub moves : (units : ℕ) → List Event
moves units = map (event.DevMove 0 0) (range_with_len 0 units)

-- the completion reaches the guest
abbrev pub completed : List Event
completed = event.DevPost 0 0 ∷ event.Reap 0 ∷ event.Post 0 0 ∷ []

-- a command of so many units, from its taking to its end
abbrev pub whole : (units : ℕ) → List Event
whole units = in_device ++ moves units ++ completed

-- ---- examining

-- what is seen in the world after these events
abbrev pub behind : {A : Type 0} → List Event → World → (World → A) → A
behind events w look = look (replay set_up events w)

-- the replies to them
abbrev pub told : List Event → World → List Reply
told events w = replies set_up events w

-- bytes of the host
abbrev pub host_bytes : (addr len : ℕ) → World → List ℕ
host_bytes addr len w = bytes_from w.host addr len

-- a number of so many bytes in the host
abbrev pub host_number : (addr bytes : ℕ) → World → ℕ
host_number addr bytes w = number_at (bytes_from w.host addr bytes) 0 bytes

-- the last dword of the first completion of each guest
abbrev pub first_answers : World → ℕ × ℕ
first_answers w = (host_number 0x11200c 4 w, host_number 0x21200c 4 w)

-- the physical entry in the first slot: opcode, identifier, PRP1, PRP2, CDW10, CDW11 and CDW12
abbrev pub handed_on : World → List ℕ
handed_on w =
    host_number 0x400000 2 w ∷ host_number 0x400002 2 w ∷ host_number 0x400018 8 w ∷ host_number 0x400020 8 w
    ∷ host_number 0x400028 4 w ∷ host_number 0x40002c 4 w ∷ host_number 0x400030 4 w ∷ []

-- ---- two guests

-- a world in which both guests have written the doorbell for the first example
abbrev pub two_commands : World
two_commands = world_with (stored (holding 0x113000 first_example) 0x213000 first_example) 16 1 1

-- both are taken and handed on; the device completes the second first
abbrev pub two_at_once : List Event
two_at_once =
    event.Take 0 1 0 ∷ event.Take 1 1 0 ∷ event.Submit 0 0 ∷ event.Submit 0 1 ∷ event.DevTake 0 ∷ event.DevTake 0
    ∷ event.DevMove 0 1 0 ∷ event.DevPost 0 1 ∷ event.DevMove 0 0 0 ∷ event.DevPost 0 0
    ∷ event.Reap 0 ∷ event.Reap 0 ∷ event.Post 0 0 ∷ event.Post 0 1 ∷ []

-- ---- rings

-- the same world where both rings of its lane are at this slot, in a pass with that phase tag
abbrev pub rings_at : (slot : ℕ) → (phase : Bool) → World → World
rings_at slot phase w =
    record w {
      device = record opening_device_lane { head = slot; tail = slot; posted = slot; phase = phase } ∷ [];
      lanes = record opening_lane { head = slot; phase = phase } ∷ [];
    }

-- the slots that device and mediator come to next, and the phase tags of their passes
abbrev pub positions : World → List (ℕ × Bool)
positions w = map (λ d. (d.posted, d.phase)) w.device ++ map (λ l. (l.head, l.phase)) w.lanes
