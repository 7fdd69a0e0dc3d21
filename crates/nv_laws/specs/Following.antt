-- A guest's private controller goes along with the world: what is asked of each event, and what of a whole log follows from it (profile).
use Rattle.std.specs.Prelude.{◌≡◌, ℕ, ◌&&◌, Bool, true, false, List, [], length, slice_get, Some, None}
use Rattle.nv_model.specs.Private.{Private, Run, run_of}
use Rattle.nv_world_model.specs.declared.event.Event.{Event}
use Rattle.nv_world_model.specs.declared.event.Event.TheVariants as event
use Rattle.nv_world_model.specs.declared.logged.Logged.{Logged}
use Rattle.nv_world_model.specs.Contained.{owner}
use Rattle.nv_world_model.specs.Disciplined.{in_order}
use Rattle.nv_world_model.specs.Geometry.{Geometry, Guest, shape_of}
use Rattle.nv_world_model.specs.Headline.{is_failure}
use Rattle.nv_world_model.specs.PrivateSteps.{act_of, private_steps, seen_by, steps_of, with_act}
use Rattle.nv_world_model.specs.Step.{After, is_done, step}
use Rattle.nv_world_model.specs.World.{World, is_that}
use Rattle.nv_laws_sound.specs.Consistent.{IsConsistent}
use Rattle.nv_laws_sound.specs.Counted.{IsCounted}
use Rattle.nv_laws_sound.specs.LaidOut.{IsLaidOut}
use Rattle.nv_laws.specs.Related.{Related}

-- a world that events have led to
pub record IsReached (host_bytes : ℕ) (geometry : Geometry) (w : World) : Type 0 where
  pub laid : IsLaidOut host_bytes (length w.lanes) geometry
  pub consistent : IsConsistent geometry w
  pub counted : IsCounted geometry w

-- whether the physical controller fails a command of a guest's by this event
abbrev pub fails_one : Geometry → (number : ℕ) → Event → World → Bool
fails_one geometry number e w = is_failure e && is_done (step geometry e w).reply && is_that number (owner e w)

-- a guest that is disciplined before an event and after it, and none of whose commands the event fails
pub record IsDisciplinedAt (geometry : Geometry) (number : ℕ) (guest : Guest) (e : Event) (w : World) : Type 0 where
  pub given : slice_get geometry.guests number ≡ Some guest
  pub before : in_order (act_of number e) number guest w ≡ true
  pub behind : in_order None number guest (step geometry e w).world ≡ true
  pub not_failed : fails_one geometry number e w ≡ false

-- the private controller makes the steps that an event with this reply represents: the guest sees the reply where the event is its act, and both
-- correspond to each other after it
pub record GoesAlong (geometry : Geometry) (number : ℕ) (guest : Guest) (e : Event) (w : World) (p : Private) (done : After) : Type 0 where
  pub run : Run
  pub runs : run_of (shape_of guest) (steps_of number guest w e done.reply) p ≡ Some run
  pub seen : run.seen ≡ with_act (act_of number e) done.reply []
  pub related : Related geometry number guest done.world run.state

-- so it is with each event of a disciplined guest, wherever events have led to
abbrev pub EachEventIsFollowed : Geometry → (host_bytes number : ℕ) → Guest → Type 0
EachEventIsFollowed geometry host_bytes number guest =
    (e : Event) (w : World) (p : Private) → IsReached host_bytes geometry w → IsDisciplinedAt geometry number guest e w
    → Related geometry number guest w p → GoesAlong geometry number guest e w p (step geometry e w)

-- and with a log that leads from the world w to the world z
pub record LogIsFollowed (geometry : Geometry) (number : ℕ) (guest : Guest) (log : List Logged) (w z : World) (p : Private) : Type 0 where
  pub run : Run
  pub runs : run_of (shape_of guest) (private_steps geometry number guest log w) p ≡ Some run
  pub seen : run.seen ≡ seen_by number log
  pub related : Related geometry number guest z run.state

-- ---- what is left to show

-- an event that is a disciplined guest's own is followed
abbrev pub IsFollowed : Geometry → (host_bytes number : ℕ) → Guest → Event → Type 0
IsFollowed geometry host_bytes number guest e =
    (w : World) (p : Private) → IsReached host_bytes geometry w → IsDisciplinedAt geometry number guest e w → Related geometry number guest w p
    → owner e w ≡ Some number → GoesAlong geometry number guest e w p (step geometry e w)

-- so are the events of which no law of this crate says it: admin steps, plans that are carried out, what the device does,
-- and completions that are posted
pub record AreRestFollowed (geometry : Geometry) (host_bytes number : ℕ) (guest : Guest) : Type 0 where
  pub admins : IsFollowed geometry host_bytes number guest (event.Admin number)
  pub submits : (lane tag : ℕ) → IsFollowed geometry host_bytes number guest (event.Submit lane tag)
  pub device_takes : (lane : ℕ) → IsFollowed geometry host_bytes number guest (event.DevTake lane)
  pub device_moves : (lane slot unit : ℕ) → IsFollowed geometry host_bytes number guest (event.DevMove lane slot unit)
  pub device_posts : (lane slot : ℕ) → IsFollowed geometry host_bytes number guest (event.DevPost lane slot)
  pub posts : (lane tag : ℕ) → IsFollowed geometry host_bytes number guest (event.Post lane tag)
