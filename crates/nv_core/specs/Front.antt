-- In which worlds the mediator's side may be, and what a call comes to in each of them (profile).
use Rattle.std.specs.Prelude.{◌≡◌, ℕ, ◌<◌, List, map, slice_get, slice_index, slice_set, Some}
use Rattle.nv_laws_sound.specs.Consistent.{IsConsistent}
use Rattle.nv_laws_sound.specs.Phased.{ArePhased}
use Rattle.nv_laws_sound.specs.Side.{Side, rung_with, tails_of}
use Rattle.nv_laws_sound.specs.Unplaced.{after_unplaced, unplaced_lane}
use Rattle.nv_model.specs.Controller.{Controller}
use Rattle.nv_model.specs.Memory.{byte_in}
use Rattle.nv_model.specs.declared.reply.Reply.{Reply}
use Rattle.nv_vctl.specs.Vctl.{most_taken}
use Rattle.nv_world_model.specs.Area.{ring_size}
use Rattle.nv_world_model.specs.Geometry.{Geometry}
use Rattle.nv_world_model.specs.Seat.{completion_at}
use Rattle.nv_world_model.specs.Step.{After, reaped, step}
use Rattle.nv_world_model.specs.World.{Lane, World}
use Rattle.nv_world_model.specs.declared.event.Event.{Event}

-- a world has this side, and its host is that memory
pub record IsSideOf (side : Side) (memory : List ℕ) (w : World) : Type 0 where
  pub host : w.host ≡ byte_in memory
  pub lanes : w.lanes ≡ side.lanes
  pub controllers : w.controllers ≡ side.controllers
  pub tails : tails_of w.device ≡ side.tails

-- but for the places of parts, which are the physical controller's
pub record IsBeside (side : Side) (memory : List ℕ) (w : World) : Type 0 where
  pub host : w.host ≡ byte_in memory
  pub lanes : map unplaced_lane w.lanes ≡ map unplaced_lane side.lanes
  pub controllers : w.controllers ≡ side.controllers
  pub tails : tails_of w.device ≡ side.tails

-- an event is the definition's step of a world: it is answered so, and the world after it has that side and memory, but for the places of parts
pub record IsStepBeside (geometry : Geometry) (e : Event) (w : World) (r : Reply) (new : Side) (after : List ℕ) : Type 0 where
  pub reply : (step geometry e w).reply ≡ r
  pub world : IsBeside new after (step geometry e w).world

-- a world is as events leave it: consistent, and with the phase tags of its passes
pub record IsLive (geometry : Geometry) (w : World) : Type 0 where
  pub consistent : IsConsistent geometry w
  pub phased : ArePhased geometry w

-- the world with another side and memory, and with the doorbells written
abbrev pub with_side : Side → (memory : List ℕ) → World → World
with_side side memory w =
    record w { host = byte_in memory; device = rung_with side.tails w.device; lanes = side.lanes; controllers = side.controllers }

-- in every world that has this side and memory the event is the definition's step: it leaves that side and memory, and is answered so
abbrev pub IsSideStep : Geometry → Event → (old : Side) → (before : List ℕ) → Reply → (new : Side) → (after : List ℕ) → Type 0
IsSideStep geometry e old before r new after =
    (w : World) → IsSideOf old before w → (let a : After = record { world = with_side new after w; reply = r } in a) ≡ step geometry e w

-- in a world the event is the definition's step, but for the places of parts: it leaves that side and memory, and nothing else has changed
abbrev pub ComesTo : Geometry → Event → World → Reply → (new : Side) → (after : List ℕ) → Type 0
ComesTo geometry e w r new after =
    after_unplaced (let a : After = record { world = with_side new after w; reply = r } in a) ≡ after_unplaced (step geometry e w)

-- so it is in every world that has this side and memory but for places
abbrev pub IsStepInEach : Geometry → Event → (old : Side) → (before : List ℕ) → Reply → (new : Side) → (after : List ℕ) → Type 0
IsStepInEach geometry e old before r new after = (w : World) → IsBeside old before w → ComesTo geometry e w r new after

-- and in every such world that is as events leave it
abbrev pub IsLiveStep : Geometry → Event → (old : Side) → (before : List ℕ) → Reply → (new : Side) → (after : List ℕ) → Type 0
IsLiveStep geometry e old before r new after = (w : World) → IsBeside old before w → IsLive geometry w → ComesTo geometry e w r new after

-- a Reap in any world that has this side and memory, whatever the physical controller has posted: the next completion of the lane was read, and has
-- ended its tag
abbrev pub IsReaped : Geometry → (lane : ℕ) → (old new : Side) → (memory : List ℕ) → Type 0
IsReaped geometry lane old new memory =
    (w : World) (l : Lane) → IsSideOf old memory w → slice_get w.lanes lane ≡ Some l
    → with_side new memory w ≡ reaped lane (completion_at geometry w lane l.head) w

-- the tail of one lane's ring alone has moved
pub record HasTailMoved (lane : ℕ) (old new : List ℕ) : Type 0 where
  pub tail : ℕ
  pub fits : tail < ring_size
  pub is : new ≡ slice_set old lane tail

-- one more taken command of each queue of a guest can be counted
abbrev pub CountMore : (guest : ℕ) → List Controller → Type 0
CountMore guest controllers =
    (c : Controller) (queue : ℕ) → slice_get controllers guest ≡ Some c → slice_index c.taken queue < most_taken
