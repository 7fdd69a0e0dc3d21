-- Whose an access of the drive is: what it reads and changes is one guest's, or the rings' (profile).
use Rattle.std.specs.Prelude.{◌≡◌, ℕ, ◌+◌, ◌<◌, true, false, All, slice_get, Option, Some, None}
use Rattle.nv_fine.specs.Drive.{Does, DriveAccess, DriveLane, Outside, Sees, Writes}
use Rattle.nv_fine.specs.Fine.{Fine}
use Rattle.nv_fine.specs.Owned.{IsWaiting}
use Rattle.nv_fine.specs.Reach.{IsAtWork, read_by}
use Rattle.nv_laws_sound.specs.Side.{Side}
use Rattle.nv_machine.specs.Contained.{IsOwn}
use Rattle.nv_machine.specs.Doing.{tag_at}
use Rattle.nv_model.specs.Judge.{Work, WorkUnit, has_blocks}
use Rattle.nv_model.specs.Queue.{cqe_size, sqe_size}
use Rattle.nv_world_model.specs.Area.{completion_slot, submission_slot}
use Rattle.nv_world_model.specs.Contained.{guest_of_one}
use Rattle.nv_world_model.specs.Geometry.{Geometry, Guest}
use Rattle.nv_world_model.specs.ShareArea.{unit_lba}
use Rattle.nv_world_model.specs.View.{in_extents}

-- the guest that an access is for: that of the tag by which the command goes
abbrev pub guest_by : DriveAccess → Side → Option ℕ
guest_by (Sees lane id at) s = guest_of_one (tag_at s lane id)
guest_by (Does lane id number leaves) s = guest_of_one (tag_at s lane id)
guest_by (Writes lane id at) s = guest_of_one (tag_at s lane id)
guest_by _ s = None

-- an address is to read: that guest's own, or in an entry that waits
pub data IsToRead (geometry : Geometry) (f : Fine) (a : DriveAccess) (at : ℕ) : Type 0 where
  OfOwn : (number : ℕ) → guest_by a f.side ≡ Some number → IsOwn geometry f.side number at → IsToRead geometry f a at
  OfWaiting : (lane slot i : ℕ) → IsWaiting geometry f lane slot → i < sqe_size → submission_slot geometry.mediator lane slot + i ≡ at → IsToRead geometry f a at

-- it is to write: that guest's own, or in the slot of a completion ring that is written next
pub data IsToWrite (geometry : Geometry) (f : Fine) (a : DriveAccess) (at : ℕ) : Type 0 where
  ToOwn : (number : ℕ) → guest_by a f.side ≡ Some number → IsOwn geometry f.side number at → IsToWrite geometry f a at
  ToNext : (lane i : ℕ) (d : DriveLane) → slice_get f.outside.lanes lane ≡ Some d → i < cqe_size → completion_slot geometry.mediator lane d.posted + i ≡ at
      → IsToWrite geometry f a at

-- a block is to change: in that guest's extents, or one that a command of that guest's names without SLBA and NLB, as Dataset Management does by its ranges
pub data IsToChange (geometry : Geometry) (f : Fine) (a : DriveAccess) (lba : ℕ) : Type 0 where
  InExtents : (number : ℕ) (given : Guest) → guest_by a f.side ≡ Some number → slice_get geometry.guests number ≡ Some given → in_extents given.namespace lba ≡ true
      → IsToChange geometry f a lba
  ByRanges : (lane id number : ℕ) (work : Work) (unit : WorkUnit) → guest_by a f.side ≡ guest_of_one (tag_at f.side lane id) → IsAtWork f.outside lane id work
      → has_blocks work.opcode ≡ false → slice_get work.units number ≡ Some unit → unit_lba unit ≡ lba → IsToChange geometry f a lba

-- an access leads to what is outside then, and reads and changes nothing else
pub record IsItsGuests (geometry : Geometry) (f : Fine) (a : DriveAccess) (p : Outside) : Type 0 where
  pub reads : All (IsToRead geometry f a) (read_by geometry a)
  pub bytes : (at : ℕ) → (IsToWrite geometry f a at → ⊥) → p.memory at ≡ f.outside.memory at
  pub blocks : (lba offset : ℕ) → (IsToChange geometry f a lba → ⊥) → p.disk lba offset ≡ f.outside.disk lba offset
