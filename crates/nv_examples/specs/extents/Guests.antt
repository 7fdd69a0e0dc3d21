-- The examples' set-up: a small host with a guest of two extents and its neighbour of three, and the commands that they give
use Rattle.std.specs.Prelude.{ℕ, ◌+◌, ◌*◌, List, [], ◌∷◌}
use Rattle.nv_model.specs.Rows.{command, data_block, prps}
use Rattle.nv_world_model.specs.Geometry.{Geometry, Guest}
use Rattle.nv_world_model.specs.World.{World, opening_world}
use Rattle.nv_examples.specs.Guests.{by_sgl, guest_with}

-- ---- the set-up

-- the guest that the examples are of: its blocks 0 and 1 are the disk's 2 and 3, its blocks 2 and 3 the disk's 9 and 10
abbrev pub first : Guest
first = guest_with 0x10000 (record { base = 2; blocks = 2 } ∷ record { base = 9; blocks = 2 } ∷ [])

-- its neighbour: blocks 0 and 1 are the disk's 4 and 5, block 2 is the disk's 7, and blocks 3 and 4 are the disk's 12 and 13
abbrev pub neighbour : Guest
neighbour =
    guest_with 0x20000 (record { base = 4; blocks = 2 } ∷ record { base = 7; blocks = 1 } ∷ record { base = 12; blocks = 2 } ∷ [])

-- one lane, whose pages begin at 30000h, and a disk of sixteen blocks
abbrev pub set_up : Geometry
set_up = record { mediator = 0x30000; disk_blocks = 16; guests = first ∷ neighbour ∷ [] }

-- the world that it makes
abbrev pub opened : World
opened = opening_world (λ _. 0) (λ _ _. 0) set_up 1

-- ---- commands

-- a Write of all four blocks of the first guest's from the 2,048 bytes at an address
abbrev pub write_all : (cid addr : ℕ) → List ℕ
write_all cid addr = by_sgl 0x01 cid 0 3 (data_block addr 2048)

-- a Write of both blocks at the join of its extents from the 1,024 bytes at an address, and a Read of them into these
abbrev pub write_over : (cid addr : ℕ) → List ℕ
write_over cid addr = by_sgl 0x01 cid 1 1 (data_block addr 1024)

abbrev pub read_over : (cid addr : ℕ) → List ℕ
read_over cid addr = by_sgl 0x02 cid 1 1 (data_block addr 1024)

-- a Write Zeroes of three blocks from block 1 on, which are in three extents of the neighbour's
abbrev pub write_zeroes_over : (cid : ℕ) → List ℕ
write_zeroes_over cid = command (0x08 + 0x10000 * cid) 1 (prps 0 0) 1 0 2

-- a Dataset Management that deallocates the two ranges at an address
abbrev pub deallocate : (cid addr : ℕ) → List ℕ
deallocate cid addr = command (0x4009 + 0x10000 * cid) 1 (data_block addr 32) 1 4 0
