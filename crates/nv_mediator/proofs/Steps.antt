-- A step of the state: what is kept of a mediator, and what its callers see.
use Rattle.std.proofs.Common.{◌≡◌, ℕ, [], ◌∷◌, ◌++◌, length, Option, Some, None, refl, sym, subst, ap, ◌∙◌}
use Rattle.std.specs.Prelude.{Err, IfOk, IfSome, Ok, OnErr, Result}
use Rattle.nv_core.specs.State.{IsSameSize, IsStep, State, world_of}
use Rattle.nv_laws.proofs.headline.Each.{promise-kept}
use Rattle.nv_laws.specs.Alike.{HasFittingStatus}
use Rattle.nv_laws_sound.proofs.CountedSteps.{step-counted}
use Rattle.nv_laws_sound.proofs.LaidOuts.{script-accepted}
use Rattle.nv_laws_sound.proofs.ManyLanes.{lanes-kept}
use Rattle.nv_laws_sound.proofs.Steps.{step-consistent}
use Rattle.nv_laws_sound.proofs.phases.Steps.{step-phased}
use Rattle.nv_laws_sound.specs.Consistent.{IsConsistent}
use Rattle.nv_laws_sound.specs.Counted.{IsCounted}
use Rattle.nv_laws_sound.specs.LaidOut.{IsLaidOut}
use Rattle.nv_laws_sound.specs.Phased.{ArePhased}
use Rattle.nv_mediator.proofs.Logs.{log-more, log-same}
use Rattle.nv_mediator.specs.Hosted.{HasLog, Hosted, IsHosted, IsMade, IsPromised, IsSame, IsUnchanged, setup_of}
use Rattle.nv_model.specs.declared.reply.Reply.{Reply}
use Rattle.nv_world_model.specs.declared.event.Event.{Event}
use Rattle.nv_world_model.specs.SetUp.{SetUp, refusal_of}
use Rattle.nv_world_model.specs.Step.{After, step}
use Rattle.nv_world_model.specs.World.{World}

-- what the code holds behind a change of the state
abbrev pub hosting : Hosted → State → Hosted
hosting h new = record { geometry = h.geometry; state = new }

module _ (h : Hosted) (new : State) (hosted : IsHosted h) (size : IsSameSize h.state new) (lanes : length new.lanes ≡ length h.state.lanes) where
  setup-same : setup_of (hosting h new) ≡ setup_of h
  setup-same =
      ap (λ (n : ℕ). let t : SetUp = record { host_bytes = n; lanes = length new.lanes; geometry = h.geometry } in t) size.host
      ∙ ap (λ (n : ℕ). let t : SetUp = record { host_bytes = length h.state.host; lanes = n; geometry = h.geometry } in t) lanes

  -- parts of the same size, and a world that is consistent, phased, counted and led to
  still-hosted : IsConsistent h.geometry (world_of new) → ArePhased h.geometry (world_of new) → IsCounted h.geometry (world_of new)
      → HasLog (hosting h new) → IsHosted (hosting h new)
  still-hosted consistent phased counted led =
      record {
        accepted = ap refusal_of setup-same ∙ hosted.accepted;
        of = record {
          mediator = size.mediator ∙ hosted.of.mediator;
          blocks = size.blocks ∙ hosted.of.blocks;
          laid_out =
              subst (λ (n : ℕ). IsLaidOut n (length new.lanes) h.geometry) (sym size.host)
              (subst (λ (n : ℕ). IsLaidOut (length h.state.host) n h.geometry) (sym lanes) hosted.of.laid_out);
          consistent = consistent;
          phased = phased;
        };
        counted = counted;
        led = led;
      }

-- nothing has changed
module _ (h : Hosted) (new : State) (hosted : IsHosted h) (is : IsUnchanged h.state new) where
  lanes-unchanged : length new.lanes ≡ length h.state.lanes
  lanes-unchanged = ap (λ (w : World). length w.lanes) is.world

  pub unchanged-same : IsSame h (hosting h new)
  unchanged-same = record { world = is.world; setup = setup-same h new hosted is.size lanes-unchanged }

  pub unchanged-hosted : IsHosted (hosting h new)
  unchanged-hosted =
      still-hosted h new hosted is.size lanes-unchanged (subst (IsConsistent h.geometry) (sym is.world) hosted.of.consistent)
      (subst (ArePhased h.geometry) (sym is.world) hosted.of.phased)
      (subst (IsCounted h.geometry) (sym is.world) hosted.counted)
      (record { log = hosted.led.log; leads = log-same h (hosting h new) hosted.led.log hosted.led.leads unchanged-same })

-- an event was carried out
module _ (h : Hosted) (new : State) (e : Event) (r : Reply) (hosted : IsHosted h) (is : IsStep h.geometry e h.state r new) (fits : HasFittingStatus e) where
  world-is : world_of new ≡ (step h.geometry e (world_of h.state)).world
  world-is = ap (λ (a : After). a.world) is.after

  lanes-same : length new.lanes ≡ length h.state.lanes
  lanes-same = ap (λ (w : World). length w.lanes) world-is ∙ lanes-kept h.geometry (world_of h.state) e

  pub step-made : IsMade e h r (hosting h new)
  step-made = record { after = is.after; setup = setup-same h new hosted is.size lanes-same; fitting = fits }

  pub step-hosted : IsHosted (hosting h new)
  step-hosted =
      still-hosted h new hosted is.size lanes-same
      (subst (IsConsistent h.geometry) (sym world-is)
      (step-consistent (length h.state.host) h.geometry e (world_of h.state) hosted.of.laid_out hosted.of.consistent))
      (subst (ArePhased h.geometry) (sym world-is)
      (step-phased (length h.state.host) h.geometry e (world_of h.state) hosted.of.laid_out hosted.of.consistent hosted.of.phased))
      (subst (IsCounted h.geometry) (sym world-is)
      (step-counted (length h.state.host) h.geometry e (world_of h.state) hosted.of.laid_out hosted.of.consistent hosted.counted))
      (record {
        log = hosted.led.log ++ record { event = e; reply = r } ∷ [];
        leads = log-more h (hosting h new) hosted.led.log hosted.led.leads (record { event = e; reply = r }) step-made;
      })

-- an event was carried out, or nothing has changed
module _ {T E : Type 0} (h : Hosted) (new : State) (e : Event) (reply_of : T → Reply) (Failed : Type 0) (hosted : IsHosted h) (fits : HasFittingStatus e) where
  pub either-hosted : (result : Result T E) → IfOk result (λ t. IsStep h.geometry e h.state (reply_of t) new) → OnErr result Failed
      → (Failed → IsUnchanged h.state new) → IsHosted (hosting h new)
  either-hosted (Ok t) is failed same = step-hosted h new e (reply_of t) hosted is fits
  either-hosted (Err x) is failed same = unchanged-hosted h new hosted (same failed)

  pub either-made : (result : Result T E) → IfOk result (λ t. IsStep h.geometry e h.state (reply_of t) new)
      → IfOk result (λ t. IsMade e h (reply_of t) (hosting h new))
  either-made (Ok t) is = step-made h new e (reply_of t) hosted is fits
  either-made (Err x) is = tt

-- a state that is the same one
pub same-unchanged : (old new : State) → new ≡ old → IsUnchanged old new
same-unchanged old new same =
    subst (IsUnchanged old) (sym same) (record { world = refl; size = record { host = refl; mediator = refl; blocks = refl } })

-- a plan was carried out, or nothing has changed
module _ (h : Hosted) (new : State) (e : Event) (Current : Type 0) (hosted : IsHosted h) (fits : HasFittingStatus e) where
  pub plan-hosted : (result : Option Reply) → IfSome result (λ r. Current × IsStep h.geometry e h.state r new)
      → (result ≡ None → (new ≡ h.state) × (Current → ⊥)) → IsHosted (hosting h new)
  plan-hosted (Some r) is none = step-hosted h new e r hosted is.1 fits
  plan-hosted None is none = unchanged-hosted h new hosted (same-unchanged h.state new (none refl).0)

  pub plan-made : (result : Option Reply) → IfSome result (λ r. Current × IsStep h.geometry e h.state r new)
      → IfSome result (λ r. Current × IsMade e h r (hosting h new))
  plan-made (Some r) is = (is.0, step-made h new e r hosted is.1 fits)
  plan-made None is = tt

-- every log that leads to it keeps the whole promise
pub hosted-promised : (h : Hosted) → IsHosted h → IsPromised h
hosted-promised h is log leads =
    promise-kept (setup_of h) (λ _. 0) (λ _ _. 0) log (world_of h.state) (script-accepted (setup_of h) is.accepted) (λ number guest at. (is.of.laid_out.given number guest at).sound) leads.fitting leads.replayed
