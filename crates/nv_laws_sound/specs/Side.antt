-- The mediator's side of the world, which has neither the host's memory nor the physical controller, and what it keeps whatever is in memory and
-- whatever the physical controller does (profile).
use Rattle.std.specs.Prelude.{◌≡◌, ℕ, ◌<◌, List, [], ◌∷◌, length, map, replicate, slice_get, Some}
use Rattle.nv_mem.specs.GuestMap.{mapped}
use Rattle.nv_model.specs.Controller.{Controller, opening}
use Rattle.nv_model.specs.Laws.{QueuesInPlace}
use Rattle.nv_world_model.specs.Area.{ring_size}
use Rattle.nv_world_model.specs.Device.{DeviceLane}
use Rattle.nv_world_model.specs.Geometry.{Geometry, Guest, regions_of}
use Rattle.nv_world_model.specs.World.{Lane, opening_lane}
use Rattle.nv_laws_sound.specs.Kept.{IsKeptLane}

-- lanes, the tail of each lane's submission ring, and each guest's controller
pub record Side : Type 0 where
  pub lanes : List Lane
  pub tails : List ℕ
  pub controllers : List Controller

-- the tails of the submission rings as the physical controller has them
abbrev pub tails_of : List DeviceLane → List ℕ
tails_of ds = map (λ d. d.tail) ds

-- the physical controller's side of the lanes once the doorbells were written with these tails
abbrev pub rung_with : (tails : List ℕ) → List DeviceLane → List DeviceLane
rung_with [] ds = ds
rung_with (tail ∷ tails) [] = []
rung_with (tail ∷ tails) (d ∷ ds) = record d { tail = tail } ∷ rung_with tails ds

-- the side at the start, with so many lanes
abbrev pub opening_side : Geometry → (lanes : ℕ) → Side
opening_side geometry lanes =
    record {
      lanes = replicate lanes opening_lane;
      tails = replicate lanes 0;
      controllers = replicate (length geometry.guests) opening;
    }

-- ---- what it keeps

-- each lane keeps what a lane keeps and has a tail, which is a slot of the submission ring; and each guest has a controller, whose queues are in the
-- guest's memory
pub record AreKept (geometry : Geometry) (ls : List Lane) (ts : List ℕ) (cs : List Controller) : Type 0 where
  pub lanes : (lane : ℕ) (l : Lane) → slice_get ls lane ≡ Some l → IsKeptLane geometry l
  pub many : length ts ≡ length ls
  pub slots : (lane tail : ℕ) → slice_get ts lane ≡ Some tail → tail < ring_size
  pub controllers : length cs ≡ length geometry.guests
  pub queues : (number : ℕ) (guest : Guest) (c : Controller) → slice_get geometry.guests number ≡ Some guest → slice_get cs number ≡ Some c
      → QueuesInPlace (mapped (regions_of guest)) c

abbrev pub IsKept : Geometry → Side → Type 0
IsKept geometry side = AreKept geometry side.lanes side.tails side.controllers
