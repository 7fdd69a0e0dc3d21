-- What is in the drive is the mediator's: each command has an entry that the mediator made of a guest's command, and names what is that guest's alone. At the
-- start nothing is in it (profile).
use Rattle.std.specs.Prelude.{◌≡◌, ℕ, true, List, replicate, slice_get, Some, None}
use Rattle.std.specs.List.{list_any}
use Rattle.nv_entry.specs.Completion.{cid_of as completed_cid}
use Rattle.nv_fine.specs.Drive.{DriveLane, Outside, Working, is_at, may_see, reading}
use Rattle.nv_fine.specs.Fine.{Fine}
use Rattle.nv_laws_sound.specs.Phased.{AreRingsClear}
use Rattle.nv_machine.specs.Contained.{IsOwn}
use Rattle.nv_machine.specs.Doing.{tag_at}
use Rattle.nv_mem.specs.Places.{places_of}
use Rattle.nv_model.specs.Judge.{Work, WorkUnit, has_blocks}
use Rattle.nv_model.specs.Memory.{bytes_from}
use Rattle.nv_model.specs.Queue.{cqe_size, sqe_size}
use Rattle.nv_world_model.specs.Area.{completion_slot, submission_slot, tag_count}
use Rattle.nv_world_model.specs.Geometry.{Geometry, Guest}
use Rattle.nv_world_model.specs.SetUp.{SetUp}
use Rattle.nv_world_model.specs.Share.{Share}
use Rattle.nv_world_model.specs.ShareArea.{share_entry, unit_lba}
use Rattle.nv_world_model.specs.View.{in_extents}
use Rattle.nv_world_model.specs.World.{Command, Flying, Standing}

-- ---- the start

-- nothing was taken, read or posted, and the first pass has phase tag 1 (Base Specification 2.0, "Phase Tag")
abbrev pub fresh_lane : DriveLane
fresh_lane = record { head = 0; seen = (λ _. None); posted = 0; phase = true; working = replicate tag_count None }

-- so it is of each lane, and the completion rings are zero
pub record IsFresh (s : SetUp) (o : Outside) : Type 0 where
  pub lanes : o.lanes ≡ replicate s.lanes fresh_lane
  pub clear : AreRingsClear s o.memory

-- ---- what is in the drive

-- a physical entry that goes by a tag of a lane is a guest's: the tag flies with a share of a command of that guest's, of which it is the entry
pub record IsOfGuest (geometry : Geometry) (f : Fine) (lane tag : ℕ) (entry : List ℕ) : Type 0 where
  pub command : Command
  pub share : Share
  pub standing : Standing
  pub given : Guest
  pub flies : tag_at f.side lane tag ≡ Some (Flying command share standing)
  pub guest : slice_get geometry.guests command.guest ≡ Some given
  pub is : entry ≡ share_entry share given.namespace given command.entry geometry.mediator lane tag

-- a command that was taken has such an entry, by its identifier
pub record IsOwned (geometry : Geometry) (f : Fine) (lane id : ℕ) (k : Working) : Type 0 where
  pub of : IsOfGuest geometry f lane id k.entry
  -- what the drive may read for it, of list and source, and what it may write is that guest's memory, or in pages of its tags
  pub reads : (at : ℕ) → may_see (reading geometry k.entry) f.outside.memory k.work at ≡ true → IsOwn geometry f.side of.command.guest at
  pub places : (work : Work) (at : ℕ) → k.work ≡ Some work → list_any (is_at at) (places_of work.pieces) ≡ true → IsOwn geometry f.side of.command.guest at
  -- and its blocks, where it names any by SLBA and NLB, are in that guest's extents
  pub blocks : (work : Work) (number : ℕ) (unit : WorkUnit) → k.work ≡ Some work → has_blocks work.opcode ≡ true → slice_get work.units number ≡ Some unit
      → in_extents of.given.namespace (unit_lba unit) ≡ true

-- an entry that waits in a slot of the submission ring is in memory as such
pub record IsWaiting (geometry : Geometry) (f : Fine) (lane slot : ℕ) : Type 0 where
  pub tag : ℕ
  pub of : IsOfGuest geometry f lane tag (bytes_from f.outside.memory (submission_slot geometry.mediator lane slot) sqe_size)

-- and a completion that waits in a slot of the completion ring is that of a tag which flies, and which is in the drive no longer
pub record IsPosted (geometry : Geometry) (f : Fine) (lane slot : ℕ) (d : DriveLane) : Type 0 where
  pub tag : ℕ
  pub names : completed_cid (bytes_from f.outside.memory (completion_slot geometry.mediator lane slot) cqe_size) ≡ tag
  pub command : Command
  pub share : Share
  pub standing : Standing
  pub flies : tag_at f.side lane tag ≡ Some (Flying command share standing)
  pub gone : (k : Working) → slice_get d.working tag ≡ Some (Some k) → ⊥
