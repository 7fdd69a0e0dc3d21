-- What the contracts of the mediator's code say of calls in a row (profile).
use Rattle.std.specs.Prelude.{◌≡◌, ℕ, List, [], ◌∷◌, Some, slice_get}
use Rattle.std.specs.Bool.{⊤}
use Rattle.nv_core.specs.Front.{IsBeside, IsReaped, IsStepBeside}
use Rattle.nv_core.specs.Reaping.{answer_of}
use Rattle.nv_laws_machine.specs.Made.{IsClosing, Made}
use Rattle.nv_laws_sound.specs.Mediators.{IsMediators}
use Rattle.nv_laws_sound.specs.Side.{Side}
use Rattle.nv_machine.specs.InWorld.{IsNoReap}
use Rattle.nv_model.specs.declared.reply.Reply.{Reply}
use Rattle.nv_model.specs.declared.reply.Reply.TheVariants as reply
use Rattle.nv_world_model.specs.Geometry.{Geometry}
use Rattle.nv_world_model.specs.World.{World}
use Rattle.nv_world_model.specs.declared.event.Event.TheVariants as event

-- a call is the definition's step of each world that has this side, but for the places of parts, and this memory; or it is a Reap, which is answered by
-- the slot that is read next: where it is Done that completion has ended its tag, and else nothing has changed; or it has closed a lane
pub data IsCall (geometry : Geometry) (old : Side) (made : Made) : Type 0 where
  Steps : (r : Reply) → IsMediators made.event → IsNoReap made.event → made.reply ≡ Some r
      → ((w : World) → IsBeside old made.before w → IsStepBeside geometry made.event w r made.side made.after) → IsCall geometry old made
  Reaps : (lane : ℕ) → made.event ≡ event.Reap lane → made.reply ≡ answer_of geometry lane (slice_get old.lanes lane) made.before
      → (made.reply ≡ Some reply.Done → IsReaped geometry lane old made.side made.before) → ((made.reply ≡ Some reply.Done → ⊥) → made.side ≡ old)
      → made.side.tails ≡ old.tails → made.after ≡ made.before → IsCall geometry old made
  Shuts : IsClosing geometry old made.side → IsCall geometry old made

-- and so each of several. Between two calls guests and the physical controller leave in memory what they like
unfoldable pub AreCalls : Geometry → List Made → Side → Type 0
AreCalls geometry [] s = ⊤
AreCalls geometry (made ∷ more) s = IsCall geometry s made × AreCalls geometry more made.side
