-- What an access of the drive reads and changes: what the entries of commands that are in it name, and the rings (profile).
use Rattle.std.specs.Prelude.{◌≡◌, ℕ, ◌+◌, ◌<◌, true, List, [], ◌∷◌, All, slice_get, Some}
use Rattle.std.specs.List.{list_any}
use Rattle.nv_fine.specs.Drive.{DriveAccess, DriveLane, Outside, Sees, SeesEntry, Working, is_at, may_see, reading}
use Rattle.nv_laws_sound.specs.Consistent.{IsBetween}
use Rattle.nv_mem.specs.Places.{places_of}
use Rattle.nv_model.specs.Judge.{Work, WorkUnit, is_read}
use Rattle.nv_model.specs.Queue.{cqe_size, sqe_size}
use Rattle.nv_world_model.specs.Area.{completion_slot, submission_slot}
use Rattle.nv_world_model.specs.Geometry.{Geometry}
use Rattle.nv_world_model.specs.ShareArea.{unit_lba}

-- a command is in the drive, and what it does is known
pub record IsIn (o : Outside) (lane id : ℕ) (w : Working) : Type 0 where
  pub d : DriveLane
  pub on : slice_get o.lanes lane ≡ Some d
  pub is : slice_get d.working id ≡ Some (Some w)

pub record IsAtWork (o : Outside) (lane id : ℕ) (work : Work) : Type 0 where
  pub w : Working
  pub there : IsIn o lane id w
  pub known : w.work ≡ Some work

-- an address is in an entry that waits, or is list or source of a command
pub data MayRead (geometry : Geometry) (tails : List ℕ) (o : Outside) (at : ℕ) : Type 0 where
  OfEntry : (lane slot i tail : ℕ) (d : DriveLane) → slice_get o.lanes lane ≡ Some d → slice_get tails lane ≡ Some tail → IsBetween d.head tail slot
      → i < sqe_size → submission_slot geometry.mediator lane slot + i ≡ at → MayRead geometry tails o at
  OfCommand : (lane id : ℕ) (w : Working) → IsIn o lane id w → may_see (reading geometry w.entry) o.memory w.work at ≡ true → MayRead geometry tails o at

-- it is in the destination of a Read, or in the slot of the completion ring that is written next
pub data MayWrite (geometry : Geometry) (o : Outside) (at : ℕ) : Type 0 where
  ToDestination : (lane id : ℕ) (work : Work) → IsAtWork o lane id work → is_read work.opcode ≡ true → list_any (is_at at) (places_of work.pieces) ≡ true
      → MayWrite geometry o at
  ToCompletion : (lane i : ℕ) (d : DriveLane) → slice_get o.lanes lane ≡ Some d → i < cqe_size → completion_slot geometry.mediator lane d.posted + i ≡ at
      → MayWrite geometry o at

-- a block is one that a unit of a command names
pub data MayChange (o : Outside) (lba : ℕ) : Type 0 where
  ByUnit : (lane id number : ℕ) (work : Work) (unit : WorkUnit) → IsAtWork o lane id work → slice_get work.units number ≡ Some unit → unit_lba unit ≡ lba
      → MayChange o lba

-- the addresses that an access reads
abbrev pub read_by : Geometry → DriveAccess → List ℕ
read_by geometry (SeesEntry lane slot i) = (submission_slot geometry.mediator lane slot + i) ∷ []
read_by geometry (Sees lane id at) = at ∷ []
read_by geometry _ = []

-- an access leads from one state to another, and reads and changes nothing else
pub record IsForCommands (geometry : Geometry) (tails : List ℕ) (a : DriveAccess) (o p : Outside) : Type 0 where
  pub reads : All (MayRead geometry tails o) (read_by geometry a)
  pub bytes : (at : ℕ) → (MayWrite geometry o at → ⊥) → p.memory at ≡ o.memory at
  pub blocks : (lba offset : ℕ) → (MayChange o lba → ⊥) → p.disk lba offset ≡ o.disk lba offset
