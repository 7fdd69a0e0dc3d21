-- The promise of the first guest of a world with any step
use Rattle.std.specs.Prelude.{◌≡◌, Bool, ◌&&◌, List, [], ◌∷◌, ◌++◌, Option, Some, None}
use Rattle.nv_model.specs.Private.{Private, Run, Seen, Step, run_of, start}
use Rattle.nv_world_model.specs.Agrees.{Agrees}
use Rattle.nv_world_model.specs.Disciplined.{in_order}
use Rattle.nv_world_model.specs.Geometry.{Guest, shape_of}
use Rattle.nv_world_model.specs.PrivateSteps.{act_of, seen_by, steps_of}
use Rattle.nv_world_model.specs.Step.{After}
use Rattle.nv_world_model.specs.World.{World}
use Rattle.nv_world_model.specs.declared.event.Event.{Event}
use Rattle.nv_world_model.specs.declared.logged.Logged.{Logged}

abbrev pub Stepping : Type 0
Stepping = Event → World → After

-- ---- along events

-- the world after these events, and their log
unfoldable pub replay_by : Stepping → List Event → World → World
replay_by by [] w = w
replay_by by (e ∷ events) w = replay_by by events (by e w).world

unfoldable pub logged_by : Stepping → List Event → World → List Logged
logged_by by [] w = []
logged_by by (e ∷ events) w = (record { event = e; reply = (by e w).reply }) ∷ logged_by by events (by e w).world

-- the steps of the first guest's private controller that they represent, and whether that guest is disciplined along them
unfoldable pub steps_by : Guest → Stepping → List Event → World → List Step
steps_by first by [] w = []
steps_by first by (e ∷ events) w = steps_of 0 first w e (by e w).reply ++ steps_by first by events (by e w).world

unfoldable pub disciplined_by : Guest → Stepping → List Event → World → Bool
disciplined_by first by [] w = in_order None 0 first w
disciplined_by first by (e ∷ events) w = in_order (act_of 0 e) 0 first w && disciplined_by first by events (by e w).world

-- ---- runs

-- what the guest sees along a run, and the private controller after it
abbrev pub seen_along : Option Run → List Seen
seen_along None = []
seen_along (Some run) = run.seen

abbrev pub behind_run : Option Run → Private
behind_run None = start
behind_run (Some run) = run.state

-- the steps of the log of these events, from that world on, are a run of the first guest's private controller, in which the guest sees its acts
-- with the logged replies, and which ends in a state that agrees with the world after them
pub record IsFollowed (first : Guest) (opened : World) (by : Stepping) (events : List Event) : Type 0 where
  pub run : Run
  pub runs : run_of (shape_of first) (steps_by first by events opened) start ≡ Some run
  pub seen : run.seen ≡ seen_by 0 (logged_by by events opened)
  pub agrees : Agrees 0 first (replay_by by events opened) run.state
