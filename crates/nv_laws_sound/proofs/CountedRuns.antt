-- What each guest's controller counts, from the start and behind any events.
use Rattle.std.proofs.Common.{◌≡◌, ℕ, ◌/◌, ◌%◌, List, [], ◌∷◌, length, replicate, slice_get, Option, Some, None, refl, sym, ap, subst}
use mathlib.Core.Path.{fun_ext}
use Rattle.nv_model.specs.Controller.{opening}
use Rattle.nv_model.specs.Private.{no_commands}
use Rattle.nv_model.specs.Running.{IsConsistent as IsRunningWith}
use Rattle.nv_model.proofs.Running.{start-running}
use Rattle.nv_world_model.specs.declared.event.Event.{Event}
use Rattle.nv_world_model.specs.Area.{tag_count}
use Rattle.nv_world_model.specs.Geometry.{Geometry}
use Rattle.nv_world_model.specs.Step.{replay, step}
use Rattle.nv_world_model.specs.World.{Free, Lane, Tag, World, opening_lane, opening_world, tag_in}
use Rattle.nv_laws_sound.specs.Consistent.{IsConsistent}
use Rattle.nv_laws_sound.specs.Counted.{IsCounted, command_in, commands}
use Rattle.nv_laws_sound.specs.LaidOut.{IsLaidOut}
use Rattle.nv_laws_sound.proofs.CountedSteps.{step-counted}
use Rattle.nv_laws_sound.proofs.Lists.{slice_get-replicate}
use Rattle.nv_laws_sound.proofs.ManyLanes.{lanes-kept}
use Rattle.nv_laws_sound.proofs.Steps.{step-consistent}

-- no command is there where tags are free
free-none : (o : Option Tag) (tag number : ℕ) → ((t : Tag) → o ≡ Some t → Free ≡ t) → command_in o tag number ≡ None
free-none None tag number each = refl
free-none (Some t) tag number each = sym (ap (λ x. command_in (Some x) tag number) (each t refl))

lane-none : (o : Option Lane) (tag number : ℕ) → ((l : Lane) → o ≡ Some l → opening_lane ≡ l) → command_in (tag_in o tag) tag number ≡ None
lane-none None tag number each = refl
lane-none (Some l) tag number each =
    subst (λ x. command_in (slice_get x.tags tag) tag number ≡ None) (each l refl)
    (free-none (slice_get (replicate tag_count Free) tag) tag number (λ t at. slice_get-replicate tag_count tag Free t at))

opening-none : (host : ℕ → ℕ) (disk : ℕ → ℕ → ℕ) (geometry : Geometry) (lanes number : ℕ) → commands (opening_world host disk geometry lanes) number ≡ no_commands
unfolding commands opening_world
opening-none host disk geometry lanes number =
    fun_ext (λ name. lane-none (slice_get (replicate lanes opening_lane) (name / tag_count)) (name % tag_count) number
    (λ l at. slice_get-replicate lanes (name / tag_count) opening_lane l at))

opening-runs : IsRunningWith opening no_commands
opening-runs = start-running (λ _. 0) (λ _ _. 0)

-- at the start nothing is counted
pub opening-counted : (host : ℕ → ℕ) (disk : ℕ → ℕ → ℕ) (geometry : Geometry) (lanes : ℕ) → IsCounted geometry (opening_world host disk geometry lanes)
unfolding opening_world
opening-counted host disk geometry lanes =
    record {
      running = (λ number guest c given at.
          subst (λ x. IsRunningWith x (commands (opening_world host disk geometry lanes) number)) (slice_get-replicate (length geometry.guests) number opening c at)
          (subst (IsRunningWith opening) (sym (opening-none host disk geometry lanes number)) opening-runs));
    }

-- and behind any events what is taken
pub replay-counted : (host_bytes : ℕ) (geometry : Geometry) (events : List Event) (w : World) → IsLaidOut host_bytes (length w.lanes) geometry
    → IsConsistent geometry w → IsCounted geometry w → IsCounted geometry (replay geometry events w)
unfolding replay
replay-counted host_bytes geometry [] w laid fine is = is
replay-counted host_bytes geometry (e ∷ events) w laid fine is =
    replay-counted host_bytes geometry events (step geometry e w).world
    (subst (λ n. IsLaidOut host_bytes n geometry) (sym (lanes-kept geometry w e)) laid) (step-consistent host_bytes geometry e w laid fine)
    (step-counted host_bytes geometry e w laid fine is)
