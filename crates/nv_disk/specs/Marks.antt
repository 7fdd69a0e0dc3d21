-- Marks of blocks that are read or compared
use Rattle.std.specs.Prelude.{ℕ, zero, suc, ◌+◌, Bool, false, ◌||◌, List}
use Rattle.std.specs.List.{slice_index_or}
use Rattle.nv_model.specs.Private.{marked}

-- the mark of each block, in a list of marks
abbrev pub mark_of : List Bool → ℕ → Bool
mark_of kept lba = slice_index_or kept lba false

-- the marks after n blocks from that LBA on, which a set FUA bit makes kept
unfoldable pub raised : (fua : Bool) → (lba n : ℕ) → (ℕ → Bool) → ℕ → Bool
raised fua lba zero kept = kept
raised fua lba (suc n) kept = raised fua (lba + 1) n (marked kept lba (kept lba || fua))
