-- Worked examples of one command: a small controller, and what the commands leave of it
use Rattle.std.specs.Prelude.{ℕ, true, false, List, [], ◌∷◌, ◌++◌, replicate}
use Rattle.nv_model.specs.Rows.{by_sgl, data_block, read, write}
use Rattle.nv_disk.specs.Flat.{Flat, flat}

-- two blocks of memory, of bytes 11h and 22h, and two blocks, of bytes 33h and 44h, of which the first is kept
abbrev pub small : Flat
small = flat (replicate 512 0x11 ++ replicate 512 0x22) (replicate 512 0x33 ∷ replicate 512 0x44 ∷ []) (true ∷ false ∷ [])

-- a Read of one block to the second half of the memory
abbrev pub read_to_half : (lba : ℕ) → List ℕ
read_to_half lba = by_sgl read lba 0 (data_block 0x200 512)

-- a Write of block 0 from there
abbrev pub write_from_half : List ℕ
write_from_half = by_sgl write 0 0 (data_block 0x200 512)

-- after the Read of block 1
abbrev pub block_read : Flat
block_read = flat (replicate 512 0x11 ++ replicate 512 0x44) (replicate 512 0x33 ∷ replicate 512 0x44 ∷ []) (true ∷ false ∷ [])

-- the same block, read to the first half
abbrev pub block_read_elsewhere : Flat
block_read_elsewhere = flat (replicate 512 0x44 ++ replicate 512 0x22) (replicate 512 0x33 ∷ replicate 512 0x44 ∷ []) (true ∷ false ∷ [])

-- all of it but the last byte
abbrev pub block_read_in_part : Flat
block_read_in_part = flat (replicate 512 0x11 ++ replicate 511 0x44 ++ 0x22 ∷ []) (replicate 512 0x33 ∷ replicate 512 0x44 ∷ []) (true ∷ false ∷ [])

-- after the Write, which has no FUA bit: its block is not kept
abbrev pub block_written : Flat
block_written = flat (replicate 512 0x11 ++ replicate 512 0x22) (replicate 512 0x22 ∷ replicate 512 0x44 ∷ []) (false ∷ false ∷ [])

-- the same with the mark as it was
abbrev pub block_written_and_kept : Flat
block_written_and_kept = flat (replicate 512 0x11 ++ replicate 512 0x22) (replicate 512 0x22 ∷ replicate 512 0x44 ∷ []) (true ∷ false ∷ [])
