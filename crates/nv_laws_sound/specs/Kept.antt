-- What the mediator's side keeps whatever is in memory and whatever the physical controller does: each tag's command is a guest's, with a share of
-- its plan, and the tags of a command belong together (profile).
use Rattle.std.specs.Prelude.{◌≡◌, ℕ, ◌<◌, length, slice_get, Option, Some, None}
use Rattle.std.specs.Bool.{⊤}
use Rattle.nv_mem.specs.GuestMap.{mapped}
use Rattle.nv_model.specs.Controller.{Controller}
use Rattle.nv_model.specs.Laws.{QueuesInPlace}
use Rattle.nv_world_model.specs.Area.{ring_size, tag_count}
use Rattle.nv_world_model.specs.Device.{DeviceLane}
use Rattle.nv_world_model.specs.Geometry.{Geometry, Guest, regions_of}
use Rattle.nv_world_model.specs.Share.{Share}
use Rattle.nv_world_model.specs.World.{Command, Ended, Flying, Free, Lane, Tag, Taken, World}
use Rattle.nv_laws_sound.specs.Consistent.{IsCommand, IsPlannedOr}
use Rattle.nv_laws_sound.specs.Groups.{AreGroups}

-- the command of a tag is a guest's, and the tag's share of it is one of its plan
pub record IsGuests (geometry : Geometry) (command : Command) (share : Option Share) : Type 0 where
  pub guest : Guest
  pub is : IsCommand geometry command guest
  pub planned : IsPlannedOr guest command.entry share

abbrev pub IsKeptTag : Geometry → Tag → Type 0
IsKeptTag geometry Free = ⊤
IsKeptTag geometry (Taken command reads) = IsGuests geometry command None
IsKeptTag geometry (Flying command share at) = IsGuests geometry command (Some share)
IsKeptTag geometry (Ended command st share) = IsGuests geometry command share

-- a lane has its tags, those of each command belong together, and the slot of the completion ring that is read next is one
pub record IsKeptLane (geometry : Geometry) (l : Lane) : Type 0 where
  pub head : l.head < ring_size
  pub tags_are : length l.tags ≡ tag_count
  pub tags : (tag : ℕ) (t : Tag) → slice_get l.tags tag ≡ Some t → IsKeptTag geometry t
  pub groups : AreGroups geometry l.tags

-- so is each lane of a world; the tails of the submission rings are slots of them; and each guest has a controller, whose queues are in the guest's
-- memory
pub record IsKeptWorld (geometry : Geometry) (w : World) : Type 0 where
  pub lanes : (lane : ℕ) (l : Lane) → slice_get w.lanes lane ≡ Some l → IsKeptLane geometry l
  pub sides : length w.lanes ≡ length w.device
  pub tails : (lane : ℕ) (d : DeviceLane) → slice_get w.device lane ≡ Some d → d.tail < ring_size
  pub controllers : length w.controllers ≡ length geometry.guests
  pub queues : (number : ℕ) (guest : Guest) (c : Controller) → slice_get geometry.guests number ≡ Some guest → slice_get w.controllers number ≡ Some c
      → QueuesInPlace (mapped (regions_of guest)) c
