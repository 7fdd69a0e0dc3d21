-- Marks of a guest's blocks that others raise (profile).
use Rattle.std.specs.Prelude.{◌≡◌, ℕ, ◌<◌, Bool, true, false, List, [], Some}
use Rattle.nv_model.specs.Private.{Private, Step, run_of}
use Rattle.nv_ns.specs.Extents.{Namespace, blocks_in, place_in}
use Rattle.nv_world_model.specs.Geometry.{Guest, shape_of}
use Rattle.nv_world_model.specs.World.{World}
use Rattle.nv_world_model.specs.declared.event.Event.{Event}
use Rattle.nv_world_model.specs.declared.event.Event.TheVariants as event

-- a guest's own marks are those of its blocks on the disk
abbrev pub SameMarks : Namespace → (own whole : ℕ → Bool) → Type 0
SameMarks ns own whole = (lba : ℕ) → lba < blocks_in ns → own lba ≡ whole (place_in ns lba)

-- these steps are a run of a guest's private controller that changes marks alone, and after it the controller's marks are those of the disk
pub record RunsToMarks (guest : Guest) (steps : List Step) (p : Private) (whole : ℕ → Bool) : Type 0 where
  pub marks : ℕ → Bool
  pub runs : run_of (shape_of guest) steps p ≡ Some (record { state = record p { kept = marks }; seen = [] })
  pub same : SameMarks guest.namespace marks whole

-- ---- events that change no block

-- whether an event may change blocks or marks: a unit moves, or a block becomes kept
abbrev pub touches_blocks : Event → Bool
touches_blocks (event.Guest guest a) = false
touches_blocks (event.Admin guest) = false
touches_blocks (event.Take guest queue lane) = false
touches_blocks (event.List lane tag addr len) = false
touches_blocks (event.Submit lane tag) = false
touches_blocks (event.GiveUp lane tag) = false
touches_blocks (event.DevTake lane) = false
touches_blocks (event.DevMove lane slot number) = true
touches_blocks (event.DevPost lane slot) = false
touches_blocks (event.DevFail lane slot st) = false
touches_blocks (event.Keep block) = true
touches_blocks (event.Reap lane) = false
touches_blocks (event.Post lane tag) = false

-- two worlds have the same blocks and marks
pub record HasSameDisk (w z : World) : Type 0 where
  pub bytes : z.disk ≡ w.disk
  pub marks : z.kept ≡ w.kept
