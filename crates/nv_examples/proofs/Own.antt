-- The log, the steps and the worlds of a world's own step are those of the promise
use Rattle.std.proofs.Common.{◌≡◌, List, [], ◌∷◌, ◌++◌, refl, ap}
use Rattle.nv_model.specs.Private.{Step}
use Rattle.nv_world_model.specs.Geometry.{Geometry, Guest}
use Rattle.nv_world_model.specs.PrivateSteps.{private_steps, steps_of}
use Rattle.nv_world_model.specs.Step.{replay, step}
use Rattle.nv_world_model.specs.World.{World}
use Rattle.nv_world_model.specs.declared.event.Event.{Event}
use Rattle.nv_world_model.specs.declared.logged.Logged.{Logged}
use Rattle.nv_examples.specs.Logs.{logged}
use Rattle.nv_examples.specs.Stepping.{Stepping, logged_by, replay_by, steps_by}

module _ (geometry : Geometry) where
  abbrev right : Stepping
  right e w = step geometry e w

  pub replay-own : (events : List Event) (w : World) → replay_by right events w ≡ replay geometry events w
  unfolding replay_by replay
  replay-own [] w = refl
  replay-own (e ∷ events) w = replay-own events (step geometry e w).world

  pub logged-own : (events : List Event) (w : World) → logged_by right events w ≡ logged geometry events w
  unfolding logged_by logged
  logged-own [] w = refl
  logged-own (e ∷ events) w =
      ap (λ (ls : List Logged). (record { event = e; reply = (step geometry e w).reply }) ∷ ls) (logged-own events (step geometry e w).world)

  pub steps-own : (first : Guest) (events : List Event) (w : World)
      → steps_by first right events w ≡ private_steps geometry 0 first (logged geometry events w) w
  unfolding steps_by private_steps logged
  steps-own first [] w = refl
  steps-own first (e ∷ events) w =
      ap (λ (ss : List Step). steps_of 0 first w e (step geometry e w).reply ++ ss) (steps-own first events (step geometry e w).world)
