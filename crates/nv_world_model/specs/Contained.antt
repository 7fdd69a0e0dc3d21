-- What an event may change, and what it may depend on: nothing of a guest but its owner's. Isolation between guests
-- is the project's own (profile).
use Rattle.std.specs.Prelude.{◌≡◌, ◌≢◌, ℕ, Bool, true, false, ◌&&◌, ◌==◌, nat_le, nat_lt, if◌then◌else◌, List, [], ◌∷◌, length, slice_get, Option, Some, None}
use Rattle.nv_world_model.specs.declared.event.Event.{Event}
use Rattle.nv_world_model.specs.declared.event.Event.TheVariants as event
use Rattle.nv_world_model.specs.Area.{lane_start}
use Rattle.nv_world_model.specs.Device.{DeviceLane}
use Rattle.nv_world_model.specs.Geometry.{Geometry, Guest}
use Rattle.nv_world_model.specs.Step.{After, is_telling, step}
use Rattle.nv_world_model.specs.CutDown.{cut}
use Rattle.nv_world_model.specs.View.{IsAlike, IsSameView, guest_of_tag, in_extents, in_image}
use Rattle.nv_world_model.specs.World.{Answered, Flying, Lane, Queued, Standing, Tag, World, tag_of}

-- ---- the owner

-- the guest of a tag, where one is there and isn't free
abbrev pub guest_of_one : Option Tag → Option ℕ
guest_of_one None = None
guest_of_one (Some t) = guest_of_tag t

-- whether a command is in that slot of the submission ring, or of the completion ring
abbrev pub is_queued_at : (slot : ℕ) → Standing → Bool
is_queued_at slot (Queued at) = at == slot
is_queued_at slot _ = false

abbrev pub is_answered_at : (slot : ℕ) → Standing → Bool
is_answered_at slot (Answered at) = at == slot
is_answered_at slot _ = false

-- whether a tag is in such a position
abbrev pub tag_stands : (Standing → Bool) → Tag → Bool
tag_stands test (Flying command share standing) = test standing
tag_stands test _ = false

-- the guest of the first tag that is in such a position
unfoldable pub guest_standing : (Standing → Bool) → List Tag → Option ℕ
guest_standing test [] = None
guest_standing test (t ∷ tags) = if tag_stands test t then guest_of_tag t else guest_standing test tags

-- the guest whose entry the device takes next, and whose completion the mediator reads next
abbrev pub front_guest : Option Lane → Option DeviceLane → Option ℕ
front_guest None d = None
front_guest (Some lane) None = None
front_guest (Some lane) (Some d) = guest_standing (is_queued_at d.head) lane.tags

abbrev pub next_guest : Option Lane → Option ℕ
next_guest None = None
next_guest (Some lane) = guest_standing (is_answered_at lane.head) lane.tags

-- the guest that an event names or works for
abbrev pub owner : Event → World → Option ℕ
owner (event.Guest guest a) w = Some guest
owner (event.Admin guest) w = Some guest
owner (event.Take guest queue lane) w = Some guest
owner (event.List lane tag addr len) w = guest_of_one (tag_of w lane tag)
owner (event.Submit lane tag) w = guest_of_one (tag_of w lane tag)
owner (event.GiveUp lane tag) w = guest_of_one (tag_of w lane tag)
owner (event.DevTake lane) w = front_guest (slice_get w.lanes lane) (slice_get w.device lane)
owner (event.DevMove lane slot number) w = guest_of_one (tag_of w lane slot)
owner (event.DevPost lane slot) w = guest_of_one (tag_of w lane slot)
owner (event.DevFail lane slot st) w = guest_of_one (tag_of w lane slot)
owner (event.Keep block) w = None
owner (event.Reap lane) w = next_guest (slice_get w.lanes lane)
owner (event.Post lane tag) w = guest_of_one (tag_of w lane tag)

-- ---- contained

-- whether a host address lies in the mediator's area
abbrev pub in_area : Geometry → World → (at : ℕ) → Bool
in_area geometry w at = nat_le geometry.mediator at && nat_lt at (lane_start geometry.mediator (length w.lanes))

-- whether a host address is the owner's memory, and whether a block is the owner's
abbrev pub in_image_of : Option Guest → (at : ℕ) → Bool
in_image_of None at = false
in_image_of (Some guest) at = in_image guest at

abbrev pub in_extents_of : Option Guest → (at : ℕ) → Bool
in_extents_of None at = false
in_extents_of (Some guest) at = in_extents guest.namespace at

-- what the owner was given
abbrev pub given_to : Option ℕ → Geometry → Option Guest
given_to None geometry = None
given_to (Some number) geometry = slice_get geometry.guests number

-- what is left as it was: every other guest's view; each byte that is neither the owner's nor the mediator's; and each
-- block that isn't the owner's, but that its mark may rise
pub record LeavesOthers (geometry : Geometry) (whose : Option ℕ) (w z : World) : Type 0 where
  pub views : (number : ℕ) (guest : Guest) → slice_get geometry.guests number ≡ Some guest → whose ≢ Some number
      → IsSameView number guest geometry w z
  pub bytes : (at : ℕ) → in_image_of (given_to whose geometry) at ≡ false → in_area geometry w at ≡ false
      → w.host at ≡ z.host at
  pub blocks : (at offset : ℕ) → in_extents_of (given_to whose geometry) at ≡ false → w.disk at offset ≡ z.disk at offset
  pub marks : (at : ℕ) → in_extents_of (given_to whose geometry) at ≡ false → w.kept at ≡ true → z.kept at ≡ true

-- what is seen of it depends on the owner's view and the shared numbers alone: done in the world cut down to them it has the same reply, and leads
-- to a world that is alike
pub record ReadsOwn (done : World → After) (geometry : Geometry) (w : World) (number : ℕ) (guest : Guest) : Type 0 where
  pub reply : (done w).reply ≡ (done (cut number guest geometry w)).reply
  pub alike : IsAlike number guest geometry (done w).world (done (cut number guest geometry w)).world

-- one block may become kept, and nothing else changes
pub record RaisesOne (block : ℕ) (w z : World) : Type 0 where
  pub others : z ≡ record w { kept = z.kept }
  pub marks : (at : ℕ) → (at == block) ≡ false → w.kept at ≡ z.kept at
  pub rises : w.kept block ≡ true → z.kept block ≡ true

-- what is done for an event is contained: it leaves all others as they were and reads its owner's alone; a Keep raises one mark at most; and where
-- the reply reports no change there is none
pub record IsContained (done : World → After) (geometry : Geometry) (e : Event) (w : World) : Type 0 where
  pub others : LeavesOthers geometry (owner e w) w (done w).world
  pub own : (number : ℕ) (guest : Guest) → slice_get geometry.guests number ≡ Some guest → owner e w ≡ Some number
      → ReadsOwn done geometry w number guest
  pub keep : (block : ℕ) → e ≡ event.Keep block → RaisesOne block w (done w).world
  pub dull : is_telling (done w).reply ≡ false → (done w).world ≡ w

-- an event is contained
abbrev pub Contained : Geometry → Event → World → Type 0
Contained geometry e w = IsContained (step geometry e) geometry e w
