-- A guest's taken commands in the world, and that its controller counts them, as it does along every run of the private controller (profile).
use Rattle.std.specs.Prelude.{◌≡◌, ℕ, ◌/◌, ◌%◌, slice_get, Option, Some, None}
use Rattle.nv_model.specs.Controller.{Controller}
use Rattle.nv_model.specs.Private.{Bag, Unjudged, Taken as Member}
use Rattle.nv_model.specs.Running.{IsConsistent as IsRunningWith}
use Rattle.nv_world_model.specs.Area.{tag_count}
use Rattle.nv_world_model.specs.Geometry.{Geometry, Guest}
use Rattle.nv_world_model.specs.Seat.{member_by}
use Rattle.nv_world_model.specs.World.{Ended, Flying, Free, Tag, Taken, World, tag_of}

-- a guest's command that goes by a tag, whatever has come of it
abbrev pub command_in : Option Tag → (tag number : ℕ) → Option Member
command_in None tag number = None
command_in (Some Free) tag number = None
command_in (Some (Taken command reads)) tag number = member_by tag number command Unjudged
command_in (Some (Flying command share standing)) tag number = member_by tag number command Unjudged
command_in (Some (Ended command st share)) tag number = member_by tag number command Unjudged

-- a guest's commands by their names
unfoldable pub commands : World → (number : ℕ) → Bag
commands w number name = (let tag = name % tag_count in command_in (tag_of w (name / tag_count) tag) tag number)

-- each guest's controller counts its commands by their queues, which are I/O queues, and its parts go together
pub record IsCounted (geometry : Geometry) (w : World) : Type 0 where
  pub running : (number : ℕ) (guest : Guest) (c : Controller) → slice_get geometry.guests number ≡ Some guest
      → slice_get w.controllers number ≡ Some c → IsRunningWith c (commands w number)
