-- A Reap of a mediator that is served.
use Rattle.std.proofs.Common.{◌≡◌, ℕ, ◌<◌, List, length, slice_get, Some, arith, refl, sym, subst, ap, ◌∙◌}
use Rattle.std.specs.Prelude.{Err, IfOk, Ok, OnErr, Result}
use Rattle.nv_core.proofs.FrontLaws.{comes-beside, reaped-lent}
use Rattle.nv_core.proofs.Sides.{own-side, own-world}
use Rattle.nv_core.specs.Front.{IsBeside, IsLive, IsLiveStep, IsReaped, IsStepBeside, with_side}
use Rattle.nv_laws_sound.specs.Side.{Side}
use Rattle.nv_core.specs.Held.{held_in}
use Rattle.nv_core.specs.Kept.{IsLent}
use Rattle.nv_host.proofs.Accepted.{leads-live}
use Rattle.nv_host.proofs.Calls.{same-served, served-lent, serving}
use Rattle.nv_host.proofs.Runs.{lead-step}
use Rattle.nv_host.specs.Closing.{Reads}
use Rattle.nv_host.specs.Ending.{IsRun}
use Rattle.nv_host.proofs.HeldEvents.{reaped-fewer}
use Rattle.nv_host.proofs.HoldNotes.{held-same, reap-still}
use Rattle.nv_host.specs.Holds.{AreHeld}
use Rattle.nv_host.specs.Served.{AreGiven, IsNext, IsServed, IsUnreached, Served}
use Rattle.nv_host.specs.declared.holds.Holds.{Holds}
use Rattle.nv_laws_front.proofs.Reached.{call-reached}
use Rattle.nv_laws_sound.proofs.CountedActs.{still-counted}
use Rattle.nv_laws_sound.proofs.CountedEvents.{reaped-counted}
use Rattle.nv_laws_sound.proofs.Lists.{slice_get-there}
use Rattle.nv_laws_sound.specs.Counted.{IsCounted}
use Rattle.nv_laws_sound.specs.LaidOut.{IsLaidOut}
use Rattle.nv_model.specs.declared.reply.Reply.{Reply}
use Rattle.nv_model.specs.declared.reply.Reply.TheVariants as reply
use Rattle.nv_world_model.specs.Geometry.{Geometry}
use Rattle.nv_world_model.specs.Seat.{completion_at}
use Rattle.nv_world_model.specs.World.{Lane, World}
use Rattle.nv_world_model.specs.declared.event.Event.{Event}
use Rattle.nv_world_model.specs.declared.event.Event.TheVariants as event

-- a completion was read
module _ (h : Served) (is : IsServed h) (lane : ℕ) (new : Side) (memory : List ℕ) (lent : IsLent h.setup.geometry h.side memory)
    (below : lane < length h.side.lanes) (read : IsReaped h.setup.geometry lane h.side new memory) (tails : new.tails ≡ h.side.tails) where
  abbrev own : World
  own = own-world h.side memory

  there : (l : Lane) × (slice_get h.side.lanes lane ≡ Some l)
  there = slice_get-there h.side.lanes lane below

  lent-after : IsLent h.setup.geometry new memory
  lent-after = reaped-lent h.setup.geometry lane there.0 h.side new memory there.1 read tails lent

  counted-own : IsCounted h.setup.geometry (with_side new memory own)
  counted-own =
      subst (IsCounted h.setup.geometry) (sym (read own there.0 (own-side h.side memory) there.1))
      (reaped-counted h.setup.geometry own lane (completion_at h.setup.geometry own lane there.0.head) there.0 there.1
      (is.counted memory own (own-side h.side memory)))

  -- no guest has more tags then
  read-given : AreGiven (event.Reap lane) h (serving h new)
  read-given guest a =
      let fewer = reaped-fewer h.setup.geometry own lane (completion_at h.setup.geometry own lane there.0.head) guest a in
      let same = ap (λ (w : World). held_in guest (slice_get w.lanes a)) (read own there.0 (own-side h.side memory) there.1) in
      omega (arith, fewer, same)

  pub read-served : IsServed (serving h new)
  read-served =
      record {
        accepted = is.accepted;
        sound = is.sound;
        lanes = sym lent-after.kept.many ∙ ap (λ (ts : List ℕ). length ts) tails ∙ is.kept.many ∙ is.lanes;
        closed = is.closed;
        shares = is.shares;
        kept = lent-after.kept;
        counted = (λ at w on. still-counted h.setup.geometry (with_side new memory own) w on.lanes on.controllers counted-own);
      }

same-given : (e : Event) (h : Served) (new : Side) → new ≡ h.side → AreGiven e h (serving h new)
same-given e h new same guest a =
    let held = ap (λ (x : Side). held_in guest (slice_get x.lanes a)) same in
    omega (arith, held)

-- a completion was read, or not
reap-either : {E : Type 0} (P : Type 0) (result : Result Reply E) → (◌≡◌ {A = Result Reply E} result (Ok reply.Done) → P)
    → ((◌≡◌ {A = Result Reply E} result (Ok reply.Done) → ⊥) → P) → P
reap-either P (Ok reply.Done) read not = read refl
reap-either P (Ok (reply.Bytes bytes)) read not = not (λ e. cc)
reap-either P (Ok reply.Idle) read not = not (λ e. cc)
reap-either P (Ok reply.Busy) read not = not (λ e. cc)
reap-either P (Ok reply.Held) read not = not (λ e. cc)
reap-either P (Ok reply.Stale) read not = not (λ e. cc)
reap-either P (Ok reply.Unmapped) read not = not (λ e. cc)
reap-either P (Ok reply.Ignored) read not = not (λ e. cc)
reap-either P (Ok reply.NoMemory) read not = not (λ e. cc)
reap-either P (Err x) read not = not (λ e. cc)

-- one was, or nothing has changed
module _ {E : Type 0} (h o : Served) (view : h ≡ o) (is : IsServed h) (lane : ℕ) (new : Side) (memory : List ℕ) (sized : length memory ≡ o.setup.host_bytes)
    (tails : new.tails ≡ h.side.tails) where
  pub reap-served : (result : Result Reply E) → (◌≡◌ {A = Result Reply E} result (Ok reply.Done) → lane < length h.side.lanes)
      → (◌≡◌ {A = Result Reply E} result (Ok reply.Done) → IsReaped h.setup.geometry lane h.side new memory)
      → ((◌≡◌ {A = Result Reply E} result (Ok reply.Done) → ⊥) → new ≡ h.side) → IsServed (serving h new)
  reap-served result below read same =
      reap-either (IsServed (serving h new)) result
      (λ done. read-served h is lane new memory (served-lent h o view is memory sized) (below done) (read done) tails)
      (λ not. same-served h new is (same not))

  pub reap-held : (holds : Holds) → AreHeld h.side holds → (result : Result Reply E) → (◌≡◌ {A = Result Reply E} result (Ok reply.Done) → lane < length h.side.lanes)
      → (◌≡◌ {A = Result Reply E} result (Ok reply.Done) → IsReaped h.setup.geometry lane h.side new memory)
      → ((◌≡◌ {A = Result Reply E} result (Ok reply.Done) → ⊥) → new ≡ h.side) → AreHeld new holds
  reap-held holds are result below read same =
      reap-either (AreHeld new holds) result
      (λ done. (let there = slice_get-there h.side.lanes lane (below done) in reap-still h holds are lane new memory there.0 there.1 (read done)))
      (λ not. held-same h.side new holds (same not) are)

  pub reap-given : (result : Result Reply E) → (◌≡◌ {A = Result Reply E} result (Ok reply.Done) → lane < length h.side.lanes)
      → (◌≡◌ {A = Result Reply E} result (Ok reply.Done) → IsReaped h.setup.geometry lane h.side new memory)
      → ((◌≡◌ {A = Result Reply E} result (Ok reply.Done) → ⊥) → new ≡ h.side) → AreGiven (event.Reap lane) h (serving h new)
  reap-given result below read same =
      reap-either (AreGiven (event.Reap lane) h (serving h new)) result
      (λ done. read-given h is lane new memory (served-lent h o view is memory sized) (below done) (read done) tails)
      (λ not. same-given (event.Reap lane) h new (same not))

  -- it is the next event of each log that leads there
  pub reap-next : AreGiven (event.Reap lane) h (serving h new) → (result : Result Reply E) → IfOk result (λ r. (w : World) → IsBeside h.side memory w → IsLive h.setup.geometry w
      → IsStepBeside h.setup.geometry (event.Reap lane) w r new memory)
      → IfOk result (λ r. IsNext (event.Reap lane) o memory r (serving h new) memory)
  reap-next given (Ok r) made =
      subst (λ (x : Served). IsNext (event.Reap lane) x memory r (serving h new) memory) view
      (record {
        setup = refl;
        closed = refl;
        spare = refl;
        tags = given;
        logs = (λ first log z leads.
            let on = made z leads.beside (leads-live h.setup is.accepted is.sound first h.side memory log z leads) in
            (on.reply, call-reached h.setup first (event.Reap lane) h.side new memory memory r log z tt leads on));
      })
  reap-next given (Err x) made = tt

  -- or there is none
  pub reap-stray : (result : Result Reply E) → OnErr result ((w : World) → IsBeside h.side memory w → IsLive h.setup.geometry w → ⊥)
      → OnErr result (IsUnreached o memory)
  reap-stray (Ok r) never = tt
  reap-stray (Err x) never =
      subst (λ (y : Served). IsUnreached y memory) view
      (λ first log z leads. never z leads.beside (leads-live h.setup is.accepted is.sound first h.side memory log z leads))

-- in each world
pub live-beside : {E : Type 0} (geometry : Geometry) (lane : ℕ) (old new : Side) (memory : List ℕ) (result : Result Reply E) → new.tails ≡ old.tails
    → IfOk result (λ r. IsLiveStep geometry (event.Reap lane) old memory r new memory)
    → IfOk result (λ r. (w : World) → IsBeside old memory w → IsLive geometry w → IsStepBeside geometry (event.Reap lane) w r new memory)
live-beside geometry lane old new memory (Ok r) tails made = λ w on live.
    comes-beside geometry (event.Reap lane) old new memory memory r w (made w on live) (ap (λ (ts : List ℕ). length ts) tails) on
live-beside geometry lane old new memory (Err x) tails made = tt

-- ---- as a run of a lane that is closed

module _ {E : Type 0} (geometry : Geometry) (lane : ℕ) (old new : Side) (memory : List ℕ) (result : Result Reply E) where
  pub read-run : (host_bytes : ℕ) → IsLaidOut host_bytes (length old.lanes) geometry
      → IfOk result (λ r. (w : World) → IsBeside old memory w → IsLive geometry w → IsStepBeside geometry (event.Reap lane) w r new memory)
      → ◌≡◌ {A = Result Reply E} result (Ok reply.Done) → IsRun geometry lane old memory new memory
  read-run host_bytes laid made done w on live =
      lead-step host_bytes geometry lane old memory laid w on live (event.Reap lane) new memory (Reads refl)
      (subst (λ (x : Result Reply E). IfOk x (λ r. (w : World) → IsBeside old memory w → IsLive geometry w
      → IsStepBeside geometry (event.Reap lane) w r new memory)) done made w on live).world
