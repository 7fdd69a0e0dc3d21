-- What is shown of a disk of so many blocks: a block's bytes and its mark, where the disk has it.
use Rattle.std.specs.Prelude.{◌≡◌, ◌<◌, ℕ, Bool, List, Option, Some, None, nat_lt, slice_index, if◌then◌else◌}
use Rattle.nv_world_model.specs.World.{World}

-- the disk has the block, and these are its bytes
pub record IsBlock (blocks : ℕ) (w : World) (block : ℕ) (bytes : List ℕ) : Type 0 where
  pub there : block < blocks
  pub each : (offset : ℕ) → slice_index bytes offset ≡ w.disk block offset

-- whether a block is kept, where the disk has it
abbrev pub mark_shown : (blocks : ℕ) → World → (block : ℕ) → Option Bool
mark_shown blocks w block = if nat_lt block blocks then Some (w.kept block) else None
