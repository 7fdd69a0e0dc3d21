-- Words of the laws on one command
use Rattle.std.specs.Prelude.{◌≡◌, ℕ, Bool, false, All, List, length}
use Rattle.nv_entry.specs.Status.{StatusField}
use Rattle.nv_model.specs.Judge.{Work, WorkUnit}
use Rattle.nv_model.specs.Limits.{block}
use Rattle.nv_model.specs.Carried.{units_moved}
use Rattle.nv_model.specs.Laws.{IsOrderOf}
use Rattle.nv_model.specs.Private.{moved_status}
use Rattle.nv_disk.specs.Flat.{Flat, moved_of}
use Rattle.nv_flat.specs.One.{IsRun}

-- each unit of a work has moved once, in some order, and the status says whether a Compare differed
pub record IsMovedInSomeOrder (old : Flat) (work : Work) (st : StatusField) (new : Flat) : Type 0 where
  pub order : List WorkUnit
  pub each_once : IsOrderOf order work.units
  pub differed : Bool
  pub moved : moved_of new differed ≡ units_moved order work (moved_of old false)
  pub status : st ≡ moved_status differed

-- some run of the command leads to a controller of the same sizes
pub record HasRun (old : Flat) (entry : List ℕ) : Type 0 where
  pub st : StatusField
  pub new : Flat
  pub run : IsRun old entry st new
  pub memory_size : length new.memory ≡ length old.memory
  pub disk_size : length new.disk ≡ length old.disk
  pub marked : length new.kept ≡ length old.kept

-- two controllers have as much memory, as many blocks, of 512 bytes each, and as many marks
pub record IsAsLarge (f g : Flat) : Type 0 where
  pub memory : length f.memory ≡ length g.memory
  pub disk : length f.disk ≡ length g.disk
  pub blocks_of_one : All (λ (bytes : List ℕ). length bytes ≡ block) f.disk
  pub blocks_of_other : All (λ (bytes : List ℕ). length bytes ≡ block) g.disk
  pub kept : length f.kept ≡ length g.kept
