-- Words of the laws about what an event leaves: where bytes that are shown to a guest lie, and what of a world stays as it is.
use Rattle.std.specs.Prelude.{◌≡◌, ◌≢◌, ℕ, ◌+◌, ◌<◌, ◌≤◌, true, false, slice_get, Option, Some}
use Rattle.nv_world_model.specs.Area.{completion_slot, list_page, submission_slot}
use Rattle.nv_world_model.specs.Contained.{given_to, in_area, in_extents_of, in_image_of, is_answered_at, is_queued_at, tag_stands}
use Rattle.nv_world_model.specs.Geometry.{Geometry, Guest}
use Rattle.nv_world_model.specs.Seat.{held_in}
use Rattle.nv_world_model.specs.View.{is_tag_of, own_held, own_tag}
use Rattle.nv_world_model.specs.World.{Tag, World, tag_of}

-- a byte of a tag's, of that lane: in its pages, in the slot of its entry, or in the slot of its completion
pub data IsBytes (mediator lane tag : ℕ) (t : Tag) (addr : ℕ) : Type 0 where
  InPages : list_page mediator lane tag ≤ addr → addr < list_page mediator lane (tag + 1) → IsBytes mediator lane tag t addr
  InEntry : (at : ℕ) → tag_stands (is_queued_at at) t ≡ true → submission_slot mediator lane at ≤ addr
      → addr < submission_slot mediator lane (at + 1) → IsBytes mediator lane tag t addr
  InCompletion : (at : ℕ) → tag_stands (is_answered_at at) t ≡ true → completion_slot mediator lane at ≤ addr
      → addr < completion_slot mediator lane (at + 1) → IsBytes mediator lane tag t addr

-- a byte that is shown to a guest is one of a tag of its own
pub record IsShownAt (number : ℕ) (geometry : Geometry) (w : World) (addr : ℕ) : Type 0 where
  pub lane : ℕ
  pub tag : ℕ
  pub t : Tag
  pub there : tag_of w lane tag ≡ Some t
  pub own : is_tag_of number (Some t) ≡ true
  pub bytes : IsBytes geometry.mediator lane tag t addr

-- what an event of that owner leaves: bytes that are neither the owner's nor the mediator's, and those that are shown to others; blocks
-- that aren't the owner's, but that their marks may rise; others' controllers, tags, and what the device holds of them
pub record Leaves (geometry : Geometry) (whose : Option ℕ) (w z : World) : Type 0 where
  pub bytes : (at : ℕ) → in_image_of (given_to whose geometry) at ≡ false → in_area geometry w at ≡ false → w.host at ≡ z.host at
  pub area : (number : ℕ) (guest : Guest) (addr : ℕ) → slice_get geometry.guests number ≡ Some guest → whose ≢ Some number
      → IsShownAt number geometry w addr → w.host addr ≡ z.host addr
  pub blocks : (at offset : ℕ) → in_extents_of (given_to whose geometry) at ≡ false → w.disk at offset ≡ z.disk at offset
  pub marks : (at : ℕ) → in_extents_of (given_to whose geometry) at ≡ false → w.kept at ≡ true → z.kept at ≡ true
  pub controllers : (number : ℕ) → whose ≢ Some number → slice_get w.controllers number ≡ slice_get z.controllers number
  pub tags : (number lane tag : ℕ) → whose ≢ Some number → own_tag number (tag_of w lane tag) ≡ own_tag number (tag_of z lane tag)
  pub held : (number lane tag : ℕ) → whose ≢ Some number
      → own_held number (tag_of w lane tag) (held_in (slice_get w.device lane) tag)
      ≡ own_held number (tag_of z lane tag) (held_in (slice_get z.device lane) tag)
