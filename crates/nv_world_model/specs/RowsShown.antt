-- Worked examples: what of a world is shown to a guest, the world cut down to it, and set-ups that are refused
use Rattle.std.specs.Prelude.{ℕ, ◌+◌, ◌-◌, ◌*◌, List, [], ◌∷◌, map, replicate, slice_set, true, false, Option, Some, None}
use Rattle.std.specs.List.{range_with_len}
use Rattle.nv_entry.specs.declared.opcode.IoOpcode.TheVariants as opcode
use Rattle.nv_mem.specs.declared.piece.Piece.{Piece}
use Rattle.nv_mem.specs.declared.piece.Piece.TheVariants as piece
use Rattle.nv_ns.specs.BlockRange.{Extent}
use Rattle.nv_ns.specs.Extents.{Namespace}
use Rattle.nv_model.specs.Controller.{Controller, no_queues}
use Rattle.nv_model.specs.Judge.{MoveBlock}
use Rattle.nv_model.specs.Queue.{new_submission}
use Rattle.nv_model.specs.Rows.{by_sgl, data_block, first_example}
use Rattle.nv_world_model.specs.declared.event.Event.{Event}
use Rattle.nv_world_model.specs.declared.event.Event.TheVariants as event
use Rattle.nv_world_model.specs.CutDown.{cut}
use Rattle.nv_world_model.specs.Device.{Held}
use Rattle.nv_world_model.specs.Geometry.{Guest}
use Rattle.nv_world_model.specs.Plan.{Direct, Plan}
use Rattle.nv_world_model.specs.Rows.{behind, controller_with, guest_at, one_command, set_up, two_commands}
use Rattle.nv_world_model.specs.SetUp.{Refusal, SetUp, host_refusal_of, refusal_of}
use Rattle.nv_world_model.specs.View.{SharedNumbers, Span, shown}
use Rattle.nv_world_model.specs.World.{Flying, InDevice, Tag, World}

-- ---- what is shown

-- the two guests of the set-up
abbrev pub first_guest : Guest
first_guest = guest_at 0x100000 1000

abbrev pub second_guest : Guest
second_guest = guest_at 0x200000 2000

-- bytes of the host
abbrev pub span : (addr len : ℕ) → Span
span addr len = (addr, len)

-- what is shown to the first guest after these events, and to the second
abbrev pub first_shown : List Event → World → List Span
first_shown events w = behind events w (shown 0 first_guest set_up)

abbrev pub second_shown : List Event → World → List Span
second_shown events w = behind events w (shown 1 second_guest set_up)

-- a Write of one block from an odd place
abbrev pub bounced_write : World
bounced_write = one_command (by_sgl 0x01 5 0 (data_block 0x3002 512))

-- ---- cut down

-- both guests' commands are in the device, in tags 0 and 1
abbrev pub both_in_device : World
both_in_device =
    behind (
    event.Take 0 1 0 ∷ event.Take 1 1 0 ∷ event.Submit 0 0 ∷ event.Submit 0 1 ∷ event.DevTake 0 ∷ event.DevTake 0
    ∷ event.Keep 1005 ∷ event.Keep 2005 ∷ [])
    two_commands (λ w. w)

-- that world cut down to the first guest
abbrev pub cut_to_first : World
cut_to_first = cut 0 first_guest set_up both_in_device

-- the plan of the first guest's command there, and its tag: its one share is the whole
abbrev pub first_plan : Plan
first_plan =
    Direct (record {
      opcode = opcode.Read;
      pieces = piece.Run 0x3000 512 ∷ [];
      ranges = [];
      units = MoveBlock 0 5 ∷ [];
      fua = false;
    })

abbrev pub first_flying : Tag
first_flying =
    Flying (record { guest = 0; queue = 1; entry = first_example; leader = 0 })
    (record { whole = first_plan; plan = first_plan; numbers = 0 ∷ [] }) InDevice

-- where the bytes of a command in the device lie
abbrev pub held_pieces : Option Held → List Piece
held_pieces None = []
held_pieces (Some h) = h.pieces

-- the first guest's controller there: one command is taken
abbrev pub first_took : Controller
first_took =
    record (controller_with 16 1) {
      submission = slice_set no_queues 1 (Some (record (new_submission 0x13000 16 1) { head = 1; tail = 1 }));
      taken = 0 ∷ 1 ∷ replicate 7 0;
    }

-- the numbers that all share there: two tags of a lane are not free, and two entries were taken from the ring
abbrev pub both_shared : SharedNumbers
both_shared =
    record {
      lanes = record { head = 0; phase = true; free = false ∷ false ∷ replicate 62 true } ∷ [];
      rings = record { head = 2; tail = 2; posted = 0; phase = true; slots = 64 } ∷ [];
      guests = 2;
    }

-- ---- set-ups

-- a set-up with a disk of 4,096 blocks and these sizes, and the guests as they are made for that host
abbrev pub sized : (host_bytes lanes mediator : ℕ) → List Guest → SetUp
sized host_bytes lanes mediator guests =
    record {
      host_bytes = host_bytes;
      lanes = lanes;
      geometry = record { mediator = mediator; disk_blocks = 4096; guests = map (made_for host_bytes) guests };
    }
  where
    made_for : ℕ → Guest → Guest
    made_for host_bytes guest = record guest { memory_map = record guest.memory_map { host_len = host_bytes } }

-- why it is refused, if it is
abbrev pub refused : (host_bytes lanes mediator : ℕ) → List Guest → Option Refusal
refused host_bytes lanes mediator guests = refusal_of (sized host_bytes lanes mediator guests)

-- the same of the usual host, lane and area
abbrev pub guests_refused : List Guest → Option Refusal
guests_refused guests = refused 0x1000000 1 0x400000 guests

-- so many blocks of the disk from this one on
abbrev pub extent_at : (base blocks : ℕ) → Extent
extent_at base blocks = record { base = base; blocks = blocks }

-- so many extents of a block each, every other block from this one on
abbrev pub extents_from : (base count : ℕ) → List Extent
extents_from base count = map (λ n. extent_at (base + 2 * n) 1) (range_with_len 0 count)

-- so many guests of one page and one block each, one after the other
abbrev pub small_guests : (count : ℕ) → List Guest
small_guests count =
    map (λ n. record (guest_at (0x100000 + 0x1000 * n) n) {
      memory_map = record { host_len = 0x1000000; regions = record { guest = 0; host = 0x100000 + 0x1000 * n; len = 0x1000 } ∷ [] };
      namespace = extent_at n 1 ∷ [];
    }) (range_with_len 0 count)

-- a guest of so many regions of one page each
abbrev pub guest_of_regions : (count : ℕ) → Guest
guest_of_regions count =
    record (guest_at 0x100000 1000) {
      memory_map =
          record {
            host_len = 0x1000000;
            regions = map (λ n. record { guest = 0x1000 * n; host = 0x100000 + 0x1000 * n; len = 0x1000 }) (range_with_len 0 count);
          };
    }

-- a guest of that namespace
abbrev pub guest_of : (host : ℕ) → Namespace → Guest
guest_of host ns = record (guest_at host 0) { namespace = ns }

-- a set-up whose disk has so many blocks, and one guest with these blocks
abbrev pub disk_refused : (disk_blocks base blocks : ℕ) → Option Refusal
disk_refused disk_blocks base blocks =
    refusal_of (record {
      host_bytes = 0x1000000;
      lanes = 1;
      geometry =
          record {
            mediator = 0x400000;
            disk_blocks = disk_blocks;
            guests = guest_of 0x100000 (extent_at base blocks ∷ []) ∷ [];
          };
    })

-- why a host with so many bytes and a drive of so many blocks, the last of them one guest's, is refused
abbrev pub large_refused : (host_bytes disk_blocks blocks : ℕ) → Option Refusal
large_refused host_bytes disk_blocks blocks =
    (let s = sized host_bytes 1 0x400000 (guest_of 0x100000 (extent_at (disk_blocks - blocks) blocks ∷ []) ∷ []) in
    host_refusal_of (record s { geometry = record s.geometry { disk_blocks = disk_blocks } }))

-- a guest with this limit of descriptors
abbrev pub guest_with_limit : (limit : ℕ) → Guest
guest_with_limit limit = record (guest_at 0x100000 1000) { limit = limit }

-- why a set-up whose guests' maps were made for another host is refused
abbrev pub refused_of_another_host : (map_bytes : ℕ) → Option Refusal
refused_of_another_host map_bytes =
    refusal_of (record (sized map_bytes 1 0x400000 (first_guest ∷ [])) { host_bytes = 0x1000000 })
