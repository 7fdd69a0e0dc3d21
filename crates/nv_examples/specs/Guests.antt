-- The examples' set-up: a small host with two guests, and the commands that they give
use Rattle.std.specs.Prelude.{ℕ, ◌+◌, ◌*◌, ◌-◌, List, [], ◌∷◌}
use Rattle.nv_ns.specs.Extents.{Namespace}
use Rattle.nv_model.specs.Rows.{command, data_block, prps}
use Rattle.nv_model.specs.RowsRuns.{admin_entry}
use Rattle.nv_model.specs.declared.act.Act.{Act}
use Rattle.nv_world_model.specs.declared.event.Event.{Event}
use Rattle.nv_world_model.specs.declared.event.Event.TheVariants as event
use Rattle.nv_world_model.specs.Geometry.{Guest}
use Rattle.nv_world_model.specs.SetUp.{SetUp, world_at_start}
use Rattle.nv_world_model.specs.World.{World}

-- ---- the set-up

-- a guest with four pages of memory from address 0 on, which lie there in the host, and that namespace
abbrev pub guest_with : (host : ℕ) → Namespace → Guest
guest_with host ns =
    record {
      memory_map = record { host_len = 0x873000; regions = record { guest = 0; host = host; len = 0x4000 } ∷ [] };
      namespace = ns;
      limit = 8;
    }

-- the guest that the examples are of, and its neighbour: two blocks each
abbrev pub first : Guest
first = guest_with 0x10000 (record { base = 2; blocks = 2 } ∷ [])

abbrev pub neighbour : Guest
neighbour = guest_with 0x20000 (record { base = 4; blocks = 2 } ∷ [])

-- one lane, whose pages begin at 30000h, and a disk of eight blocks
abbrev pub set_up : SetUp
set_up =
    record {
      host_bytes = 0x873000;
      lanes = 1;
      geometry = record { mediator = 0x30000; disk_blocks = 8; guests = first ∷ neighbour ∷ [] };
    }

-- the world that it makes
abbrev pub opened : World
opened = world_at_start set_up

-- ---- who does it

-- an act of the first guest, and one of its neighbour
abbrev pub own : Act → Event
own a = event.Guest 0 a

abbrev pub other : Act → Event
other a = event.Guest 1 a

-- ---- commands

-- Create I/O Completion Queue 1 with so many slots at 2000h, and Create I/O Submission Queue 1 with so many at 3000h, which
-- completes to it; identifiers 1 and 2
abbrev pub create_completion_queue : (slots : ℕ) → List ℕ
create_completion_queue slots = admin_entry 0x05 1 0 0x2000 0 (0x10000 * (slots - 1) + 1) 1

abbrev pub create_submission_queue : (slots : ℕ) → List ℕ
create_submission_queue slots = admin_entry 0x01 2 0 0x3000 0 (0x10000 * (slots - 1) + 1) 0x00010001

-- Delete I/O Submission Queue 1, and Delete I/O Completion Queue 1
abbrev pub delete_submission_queue : (cid : ℕ) → List ℕ
delete_submission_queue cid = admin_entry 0x00 cid 0 0 0 1 0

abbrev pub delete_completion_queue : (cid : ℕ) → List ℕ
delete_completion_queue cid = admin_entry 0x04 cid 0 0 0 1 0

-- an I/O command of this opcode and identifier on so many blocks, NLB being counted from 0, whose buffer this SGL descriptor names
abbrev pub by_sgl : (opcode cid slba nlb : ℕ) → List ℕ → List ℕ
by_sgl opcode cid slba nlb own = command (opcode + 0x4000 + 0x10000 * cid) 1 own slba 0 nlb

-- a Write of a block from the 512 bytes at an address, and a Read of one into them
abbrev pub write : (cid slba addr : ℕ) → List ℕ
write cid slba addr = by_sgl 0x01 cid slba 0 (data_block addr 512)

abbrev pub read : (cid slba addr : ℕ) → List ℕ
read cid slba addr = by_sgl 0x02 cid slba 0 (data_block addr 512)

-- a Read of one by PRP
abbrev pub read_by_prp : (cid slba addr : ℕ) → List ℕ
read_by_prp cid slba addr = command (0x02 + 0x10000 * cid) 1 (prps addr 0) slba 0 0

-- a Flush
abbrev pub flush : (cid : ℕ) → List ℕ
flush cid = command (0x10000 * cid) 1 (prps 0 0) 0 0 0
