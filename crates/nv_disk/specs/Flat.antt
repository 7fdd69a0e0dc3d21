-- Memory, the bytes of blocks, and their marks, as lists, and what they mean to the private controller
use Rattle.std.specs.Prelude.{ℕ, Bool, false, List, [], slice_index}
use Rattle.std.specs.List.{flat_map, slice_index_or}
use Rattle.nv_model.specs.Memory.{byte_in}
use Rattle.nv_model.specs.Private.{Moved}

pub record Flat : Type 0 where
  pub memory : List ℕ
  pub disk : List (List ℕ)
  pub kept : List Bool

-- the byte of a block
abbrev pub byte_of_block : List (List ℕ) → (lba offset : ℕ) → ℕ
byte_of_block disk lba offset = slice_index (slice_index_or disk lba []) offset

-- memory, disk and marks as the private controller sees them, and whether a Compare has differed
unfoldable pub moved_of : Flat → (differed : Bool) → Moved
moved_of f differed =
    record {
      memory = byte_in f.memory;
      disk = byte_of_block f.disk;
      kept = (λ lba. slice_index_or f.kept lba false);
      differed = differed;
    }

-- one of this memory, these blocks and these marks
abbrev pub flat : List ℕ → List (List ℕ) → List Bool → Flat
flat memory disk kept = record { memory = memory; disk = disk; kept = kept }

-- the bytes of blocks, one after the other
abbrev pub joined : List (List ℕ) → List ℕ
joined blocks = flat_map (λ x. x) blocks
