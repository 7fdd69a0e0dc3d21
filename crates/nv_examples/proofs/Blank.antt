-- In a world that begins with zeros a private controller's run is one from zeros.
use Rattle.std.proofs.Common.{◌≡◌, ℕ, List, Option, Some, ap, subst}
use Rattle.nv_model.specs.Private.{Private, Run, Step, run_of, start}
use Rattle.nv_world_model.specs.declared.event.Event.{Event}
use Rattle.nv_world_model.specs.Geometry.{Geometry, Guest, shape_of}
use Rattle.nv_world_model.specs.Headline.{start_in}
use Rattle.nv_world_model.specs.PrivateSteps.{private_steps}
use Rattle.nv_world_model.specs.World.{opening_world}
use Rattle.nv_world_model.proofs.BlankStart.{start-blank}
use Rattle.nv_examples.specs.Breaches.{HasPrivateRun}
use Rattle.nv_examples.specs.Guests.{first, opened, set_up}
use Rattle.nv_examples.specs.Logs.{logged}

pub from-blank : (guest : Guest) (geometry : Geometry) (lanes : ℕ) (steps : List Step) (o : Option Run)
    → run_of (shape_of guest) steps (start_in guest (opening_world (λ _. 0) (λ _ _. 0) geometry lanes)) ≡ o → run_of (shape_of guest) steps start ≡ o
from-blank guest geometry lanes steps o is = subst (λ (p : Private). run_of (shape_of guest) steps p ≡ o) (start-blank guest geometry lanes) is

pub to-blank : (guest : Guest) (geometry : Geometry) (lanes : ℕ) (steps : List Step)
    → run_of (shape_of guest) steps (start_in guest (opening_world (λ _. 0) (λ _ _. 0) geometry lanes)) ≡ run_of (shape_of guest) steps start
to-blank guest geometry lanes steps = ap (λ (p : Private). run_of (shape_of guest) steps p) (start-blank guest geometry lanes)

-- so is the one that is promised of these events
pub own-run : (events : List Event) (f : HasPrivateRun events)
    → run_of (shape_of first) (private_steps set_up.geometry 0 first (logged set_up.geometry events opened) opened) start ≡ Some f.run
own-run events f =
    from-blank first set_up.geometry set_up.lanes (private_steps set_up.geometry 0 first (logged set_up.geometry events opened) opened) (Some f.run) f.runs
