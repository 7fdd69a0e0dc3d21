-- The promise as a whole, of a world at its start, the log of all events with their replies, and the world after it: what a disciplined guest has seen, its
-- memory and its namespace are those of a run of its own commands on a private controller; and no event reads or changes what is not its guest's,
-- no matter which guests are disciplined (profile).
use Rattle.std.specs.Prelude.{◌≡◌, ℕ, ⊤, Bool, true, false, not, ◌&&◌, List, [], ◌∷◌, slice_get, Some}
use Rattle.nv_model.specs.Memory.{image}
use Rattle.nv_model.specs.Private.{Private, Run, run_of, start_with}
use Rattle.nv_ns.specs.Extents.{place_in}
use Rattle.nv_world_model.specs.declared.event.Event.{Event}
use Rattle.nv_world_model.specs.declared.event.Event.TheVariants as event
use Rattle.nv_world_model.specs.declared.logged.Logged.{Logged}
use Rattle.nv_world_model.specs.Agrees.{Agrees}
use Rattle.nv_world_model.specs.Contained.{Contained, owner}
use Rattle.nv_world_model.specs.Disciplined.{is_disciplined}
use Rattle.nv_world_model.specs.Geometry.{Geometry, Guest, regions_of, shape_of}
use Rattle.nv_world_model.specs.Log.{IsReplay}
use Rattle.nv_world_model.specs.PrivateSteps.{private_steps, seen_by}
use Rattle.nv_world_model.specs.Step.{is_done, step}
use Rattle.nv_world_model.specs.World.{World, is_that}

-- ---- no command of a guest failed

-- whether the physical controller fails a physical command by this event
abbrev pub is_failure : Event → Bool
is_failure (event.DevFail lane slot st) = true
is_failure _ = false

-- whether an event of the log fails a physical command of that guest's
abbrev pub fails : (number : ℕ) → Logged → World → Bool
fails number l w = is_failure l.event && is_done l.reply && is_that number (owner l.event w)

-- along a log, from that world on, the physical controller fails no physical command of that guest's; others' may fail
unfoldable pub none_failed : Geometry → (number : ℕ) → List Logged → World → Bool
none_failed geometry number [] w = true
none_failed geometry number (l ∷ log) w =
    not (fails number l w) && none_failed geometry number log (step geometry l.event w).world

-- ---- the promise

-- the guest's private controller at its start, with the bytes that the guest's memory and namespace have in the world w
abbrev pub start_in : Guest → World → Private
start_in guest w = start_with (image (regions_of guest) w.host) (λ lba. w.disk (place_in guest.namespace lba))

-- the log's steps are a run of it, in which the guest sees its acts with the logged replies, and which ends in a state that
-- agrees with the world z
pub record IsPrivateRun (geometry : Geometry) (number : ℕ) (guest : Guest) (log : List Logged) (w z : World) : Type 0 where
  pub run : Run
  pub runs : run_of (shape_of guest) (private_steps geometry number guest log w) (start_in guest w) ≡ Some run
  pub seen : run.seen ≡ seen_by number log
  pub agrees : Agrees number guest z run.state

-- each event along a log, from that world on, is contained
unfoldable pub AreContained : Geometry → List Logged → World → Type 0
AreContained geometry [] w = ⊤
AreContained geometry (l ∷ log) w =
    Contained geometry l.event w × AreContained geometry log (step geometry l.event w).world

-- a log that leads from the world w at its start to the world z
pub record Headline (geometry : Geometry) (w : World) (log : List Logged) (z : World) : Type 0 where
  pub replay : IsReplay geometry w log z
  pub private : (number : ℕ) (guest : Guest) → slice_get geometry.guests number ≡ Some guest
      → none_failed geometry number log w ≡ true → is_disciplined geometry number guest log w ≡ true
      → IsPrivateRun geometry number guest log w z
  pub contained : AreContained geometry log w
