-- Commands at the edges: parts with lists of their own, FUA, a bucket over a join, and eight extents
use Rattle.std.specs.Prelude.{ℕ, ◌+◌, ◌*◌, Bool, List, [], ◌∷◌, ◌++◌, flat_map, map, replicate}
use Rattle.std.specs.List.{range_with_len}
use Rattle.nv_ns.specs.Extents.{Namespace}
use Rattle.nv_model.specs.Rows.{bit_bucket, by_sgl, data_block, last_segment, with_fua}
use Rattle.nv_world_model.specs.declared.event.Event.{Event}
use Rattle.nv_world_model.specs.declared.event.Event.TheVariants as event
use Rattle.nv_world_model.specs.Geometry.{Geometry}
use Rattle.nv_world_model.specs.Rows.{guest_at, host_bytes, host_number}
use Rattle.nv_world_model.specs.RowsExtents.{one_command, one_command_on}
use Rattle.nv_world_model.specs.Step.{replay}
use Rattle.nv_world_model.specs.World.{World}

-- ---- commands of the rows' guest, whose extents have 32 blocks each

-- a Read of all 64 blocks to 4200h
abbrev pub read_all : List ℕ
read_all = by_sgl 0x02 0 63 (data_block 0x4200 32768)

-- the 8 bytes of each of so many entries of a list
abbrev pub list_at : (addr count : ℕ) → World → List ℕ
list_at addr count w = map (λ i. host_number (addr + 8 * i) 8 w) (range_with_len 0 count)

-- a Write of blocks 31 and 32 with FUA
abbrev pub write_with_fua : List ℕ
write_with_fua = by_sgl 0x01 31 (with_fua 1) (data_block 0x3e00 1024)

-- whether each of these blocks of the disk is kept
abbrev pub are_kept : List ℕ → World → List Bool
are_kept blocks w = map w.kept blocks

-- a Read of blocks 31 and 32 whose middle is discarded: a quarter to 3e00h, half to a bucket over the join, and a quarter to 5000h
abbrev pub read_around : World
read_around =
    one_command_on 0x6000 (data_block 0x3e00 256 ++ bit_bucket 512 ++ data_block 0x5000 256) (by_sgl 0x02 31 1 (last_segment 0x6000 48))

-- up to and with its completion
abbrev pub reads_around : List Event
reads_around =
    event.Take 0 1 0 ∷ event.List 0 0 0x6000 48 ∷ event.Submit 0 0 ∷ event.DevTake 0 ∷ event.DevTake 0 ∷ event.DevMove 0 1 0 ∷ event.DevMove 0 0 0
    ∷ event.DevPost 0 0 ∷ event.DevPost 0 1 ∷ event.Reap 0 ∷ event.Reap 0 ∷ event.Post 0 0 ∷ []

-- the first and the last byte of both quarters, and the bytes before and after each
abbrev pub both_quarters : World → List (List ℕ)
both_quarters w =
    host_bytes 0x103dff 2 w ∷ host_bytes 0x103eff 2 w ∷ host_bytes 0x104fff 2 w ∷ host_bytes 0x1050ff 2 w ∷ []

-- ---- eight extents

-- of one block each, the last of the namespace first on the disk
abbrev pub eight : Namespace
eight = map (λ i. record { base = i; blocks = 1 }) (807 ∷ 706 ∷ 605 ∷ 504 ∷ 403 ∷ 302 ∷ 201 ∷ 100 ∷ [])

abbrev pub eight_set_up : Geometry
eight_set_up = record { mediator = 0x400000; disk_blocks = 4096; guests = record (guest_at 0x100000 1000) { namespace = eight } ∷ guest_at 0x200000 2000 ∷ [] }

-- a Read of all eight blocks
abbrev pub read_eight : World
read_eight = one_command (by_sgl 0x02 0 7 (data_block 0x4000 4096))

-- it is handed on, and the device has all parts; each is moved and ended, the last first; and it is completed
abbrev pub eight_in_device : List Event
eight_in_device = event.Take 0 1 0 ∷ event.Submit 0 0 ∷ replicate 8 (event.DevTake 0)

abbrev pub ends_of : (tag : ℕ) → List Event
ends_of tag = event.DevMove 0 tag 0 ∷ event.DevPost 0 tag ∷ event.Reap 0 ∷ []

abbrev pub eight_end : List Event
eight_end = flat_map ends_of (7 ∷ 6 ∷ 5 ∷ 4 ∷ 3 ∷ 2 ∷ 1 ∷ 0 ∷ []) ++ event.Post 0 0 ∷ []

abbrev pub behind_eight : {A : Type 0} → List Event → (World → A) → A
behind_eight events look = look (replay eight_set_up events read_eight)

-- opcode with tag, and the first block, of each physical entry
abbrev pub starts : World → List (List ℕ)
starts w = map (λ k. host_number (0x400000 + 64 * k) 4 w ∷ host_number (0x400028 + 64 * k) 4 w ∷ []) (range_with_len 0 8)

-- the first byte of each block of the buffer
abbrev pub eight_bytes : World → List ℕ
eight_bytes w = map (λ k. host_number (0x104000 + 512 * k) 1 w) (range_with_len 0 8)
