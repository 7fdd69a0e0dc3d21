-- A call of a mediator that is served: what it needs, what its type keeps after it, and what its callers see.
use Rattle.std.proofs.Common.{◌≡◌, ℕ, ◌≤◌, [], true, false, List, length, Option, Some, None, arith, refl, sym, subst, ap, ◌∙◌}
use Rattle.std.specs.Prelude.{Err, IfOk, IfSome, Ok, OnErr, Result}
use Rattle.std.proofs.lemmas.List.{ext_get_or}
use Rattle.nv_core.proofs.Alike.{counted-alike}
use Rattle.nv_core.proofs.Besides.{beside-of}
use Rattle.nv_core.proofs.Delegated.{tails-rung}
use Rattle.nv_core.proofs.FrontLaws.{comes-beside, each-lent, in-beside, own-kept}
use Rattle.nv_laws_sound.proofs.Tails.{length-tails}
use Rattle.nv_core.proofs.Sides.{own-side, own-world}
use Rattle.nv_core.specs.Front.{ComesTo, CountMore, HasTailMoved, IsSideStep, IsStepInEach, with_side}
use Rattle.nv_laws_sound.specs.Side.{Side, tails_of}
use Rattle.nv_core.specs.Kept.{IsLent}
use Rattle.nv_host.proofs.Accepted.{few-lanes, lies-out}
use Rattle.nv_host.proofs.HeldEvents.{step-given as world-given}
use Rattle.nv_host.proofs.HeldLanes.{held-alike}
use Rattle.nv_host.specs.Served.{AreGiven, IsDone, IsServed, Served}
use Rattle.nv_laws_front.proofs.Reached.{call-reached}
use Rattle.nv_laws_sound.proofs.CountedActs.{still-counted}
use Rattle.nv_laws_sound.proofs.CountedEvents.{kept-whole}
use Rattle.nv_laws_sound.proofs.CountedSteps.{side-counted}
use Rattle.nv_laws_sound.proofs.Lists.{length-set}
use Rattle.nv_laws_sound.specs.Counted.{IsCounted}
use Rattle.nv_laws_sound.specs.LaidOut.{IsLaidOut}
use Rattle.nv_laws_sound.specs.Mediators.{IsMediators}
use Rattle.nv_mediator.proofs.Counts.{counts-few}
use Rattle.nv_model.specs.Controller.{Controller}
use Rattle.nv_model.specs.Memory.{byte_in}
use Rattle.nv_model.specs.declared.reply.Reply.{Reply}
use Rattle.nv_model.specs.declared.reply.Reply.TheVariants as reply
use Rattle.nv_world_model.proofs.Replies.{step-answers}
use Rattle.nv_world_model.specs.SetUp.{most_lanes}
use Rattle.nv_world_model.specs.Step.{After, is_telling, step}
use Rattle.nv_world_model.specs.World.{Lane, World}
use Rattle.nv_world_model.specs.declared.event.Event.{Event}

-- the same set-up with another side
abbrev pub serving : Served → Side → Served
serving h new = record { setup = h.setup; side = new; closed = h.closed; spare = h.spare }

-- ---- what calls need

module _ (h o : Served) (view : h ≡ o) (is : IsServed h) where
  pub served-lent : (memory : List ℕ) → length memory ≡ o.setup.host_bytes → IsLent h.setup.geometry h.side memory
  served-lent memory sized =
      record {
        laid_out =
            subst (λ n. IsLaidOut n (length h.side.lanes) h.setup.geometry) (ap (λ (x : Served). x.setup.host_bytes) view ∙ sym sized)
            (subst (λ n. IsLaidOut h.setup.host_bytes n h.setup.geometry) (sym is.lanes) (lies-out h.setup is.accepted is.sound));
        kept = is.kept;
      }

  -- one more taken command of a guest can be counted
  pub served-more : (guest : ℕ) → CountMore guest h.side.controllers
  served-more guest =
      counts-few h.setup.geometry (own-world h.side []) guest (subst (λ n. n ≤ most_lanes) (sym is.lanes) (few-lanes h.setup is.accepted))
      is.kept.controllers (is.counted [] (own-world h.side []) (own-side h.side []))

-- ---- two memories that have the same bytes

bytes-same : (before after : List ℕ) → length after ≡ length before → byte_in after ≡ byte_in before → after ≡ before
unfolding byte_in
bytes-same before after sized same = ext_get_or 0 after before sized (λ i below. ap (λ (f : ℕ → ℕ). f i) same)

-- ---- what a call comes to

-- a call whose step is the definition's places and all
module _ (h : Served) (e : Event) (new : Side) (before after : List ℕ) (r : Reply)
    (made : IsSideStep h.setup.geometry e h.side before r new after) (many : length new.tails ≡ length h.side.tails) where
  abbrev own : World
  own = own-world h.side before

  made-own : (let a : After = record { world = with_side new after own; reply = r } in a) ≡ step h.setup.geometry e own
  made-own = made own (own-side h.side before)

  still : is_telling r ≡ false → with_side new after own ≡ own
  still quiet =
      ap (λ (a : After). a.world) made-own
      ∙ (step-answers h.setup.geometry e own).dull (ap (λ (a : After). is_telling a.reply) (sym made-own) ∙ quiet)

  tails-are : tails_of (with_side new after own).device ≡ new.tails
  tails-are =
      tails-rung own.device new.tails
      (many ∙ ap (λ (ts : List ℕ). length ts) (sym (own-side h.side before).tails) ∙ length-tails own.device)

  -- where the reply reports nothing, nothing has changed
  pub side-dull : is_telling r ≡ false → new ≡ h.side
  side-dull quiet =
      ap (λ (ls : List Lane). let x : Side = record { lanes = ls; tails = new.tails; controllers = new.controllers } in x) (ap (λ (w : World). w.lanes) (still quiet))
      ∙ ap (λ (ts : List ℕ). let x : Side = record { lanes = h.side.lanes; tails = ts; controllers = new.controllers } in x)
      (sym tails-are ∙ ap (λ (w : World). tails_of w.device) (still quiet) ∙ (own-side h.side before).tails)
      ∙ ap (λ (cs : List Controller). let x : Side = record { lanes = h.side.lanes; tails = h.side.tails; controllers = cs } in x)
      (ap (λ (w : World). w.controllers) (still quiet))

module _ (h : Served) (is : IsServed h) (e : Event) (mine : IsMediators e) (new : Side) (before after : List ℕ) (r : Reply)
    (made : IsStepInEach h.setup.geometry e h.side before r new after) (dull : is_telling r ≡ false → new ≡ h.side)
    (many : length new.tails ≡ length h.side.tails) where
  abbrev mine_own : World
  mine_own = own-world h.side before

  abbrev next_own : World
  next_own = (step h.setup.geometry e mine_own).world

  comes : ComesTo h.setup.geometry e mine_own r new after
  comes = made mine_own (beside-of h.side before mine_own (own-side h.side before))

  host-dull : is_telling r ≡ false → byte_in after ≡ byte_in before
  host-dull quiet =
      ap (λ (a : After). a.world.host) comes
      ∙ ap (λ (w : World). w.host)
      ((step-answers h.setup.geometry e mine_own).dull (ap (λ (a : After). is_telling a.reply) (sym comes) ∙ quiet))

  laid : IsLaidOut h.setup.host_bytes (length h.side.lanes) h.setup.geometry
  laid =
      subst (λ n. IsLaidOut h.setup.host_bytes n h.setup.geometry) (sym is.lanes) (lies-out h.setup is.accepted is.sound)

  -- tags are given as in the own world
  step-given : AreGiven e h (serving h new)
  step-given guest lane =
      let moved =
      world-given h.setup.geometry h.setup.host_bytes mine_own laid (kept-whole h.setup.geometry mine_own (own-kept h.setup.geometry h.side before is.kept))
      e mine guest lane in
      let same = held-alike guest lane new.lanes next_own.lanes (ap (λ (a : After). a.world.lanes) comes) in
      omega (arith, moved, same)

  pub step-done : length after ≡ length before → IsDone e h before r (serving h new) after
  step-done sized =
      record {
        next = record {
          setup = refl;
          closed = refl;
          spare = refl;
          tags = step-given;
          logs = (λ first log z leads.
              let on = comes-beside h.setup.geometry e h.side new before after r z (made z leads.beside) many leads.beside in
              (on.reply, call-reached h.setup first e h.side new before after r log z mine leads on));
        };
        worlds = (λ w on. comes-beside h.setup.geometry e h.side new before after r w (made w on) many on);
        dull = (λ quiet. (ap (serving h) (dull quiet), bytes-same before after sized (host-dull quiet)));
      }

  module _ (lent : IsLent h.setup.geometry h.side before) (sized : length after ≡ length before) where
    lent-after : IsLent h.setup.geometry new after
    lent-after = each-lent h.setup.geometry e mine h.side new before after r made many sized lent

    counted-own : IsCounted h.setup.geometry (with_side new after mine_own)
    counted-own =
        counted-alike h.setup.geometry next_own (with_side new after mine_own) (ap (λ (a : After). a.world.lanes) comes)
        (ap (λ (a : After). a.world.controllers) comes)
        (side-counted (length before) h.setup.geometry e mine_own lent.laid_out (own-kept h.setup.geometry h.side before is.kept)
        (is.counted before mine_own (own-side h.side before)))

    pub step-served : IsServed (serving h new)
    step-served =
        record {
          accepted = is.accepted;
          sound = is.sound;
          lanes = sym lent-after.kept.many ∙ many ∙ is.kept.many ∙ is.lanes;
          closed = is.closed;
          shares = is.shares;
          kept = lent-after.kept;
          counted = (λ memory w on. still-counted h.setup.geometry (with_side new after mine_own) w on.lanes on.controllers counted-own);
        }

-- ---- calls as the code makes them

-- as many tails as before
pub many-same : (old new : Side) → new.tails ≡ old.tails → length new.tails ≡ length old.tails
many-same old new same = ap (λ (ts : List ℕ). length ts) same

pub many-moved : (lane : ℕ) (old new : Side) → HasTailMoved lane old.tails new.tails → length new.tails ≡ length old.tails
many-moved lane old new moved = ap (λ (ts : List ℕ). length ts) moved.is ∙ length-set old.tails lane moved.tail

-- a call whose view is the one that its caller has
module _ (h o : Served) (view : h ≡ o) (is : IsServed h) (e : Event) (mine : IsMediators e) (new : Side) (before after : List ℕ) (r : Reply)
    (many : length new.tails ≡ length h.side.tails) (sized : length after ≡ length before) where
  module _ (made : IsStepInEach h.setup.geometry e h.side before r new after) (dull : is_telling r ≡ false → new ≡ h.side) where
    each-done : IsDone e o before r (serving h new) after
    each-done = subst (λ (x : Served). IsDone e x before r (serving h new) after) view (step-done h is e mine new before after r made dull many sized)

    each-served : length before ≡ o.setup.host_bytes → IsServed (serving h new)
    each-served lent = step-served h is e mine new before after r made dull many (served-lent h o view is before lent) sized

module _ (h o : Served) (view : h ≡ o) (is : IsServed h) (e : Event) (mine : IsMediators e) (new : Side) (before after : List ℕ) (r : Reply)
    (made : IsSideStep h.setup.geometry e h.side before r new after) (many : length new.tails ≡ length h.side.tails)
    (sized : length after ≡ length before) where
  pub call-done : IsDone e o before r (serving h new) after
  call-done =
      each-done h o view is e mine new before after r many sized (in-beside h.setup.geometry e mine h.side new before after r made)
      (side-dull h e new before after r made many)

  pub call-served : length before ≡ o.setup.host_bytes → IsServed (serving h new)
  call-served =
      each-served h o view is e mine new before after r many sized (in-beside h.setup.geometry e mine h.side new before after r made)
      (side-dull h e new before after r made many)

-- nothing has changed
pub same-served : (h : Served) (new : Side) → IsServed h → new ≡ h.side → IsServed (serving h new)
same-served h new is same = subst (λ (side : Side). IsServed (serving h side)) (sym same) is

-- an event was carried out, or nothing has changed
module _ {T E : Type 0} (h o : Served) (view : h ≡ o) (is : IsServed h) (e : Event) (mine : IsMediators e) (new : Side) (before after : List ℕ) (reply_of : T → Reply)
    (Failed : Type 0) (many : length new.tails ≡ length h.side.tails) (sized : length after ≡ length before) where
  pub either-done : (result : Result T E) → IfOk result (λ t. IsSideStep h.setup.geometry e h.side before (reply_of t) new after)
      → IfOk result (λ t. IsDone e o before (reply_of t) (serving h new) after)
  either-done (Ok t) made = call-done h o view is e mine new before after (reply_of t) made many sized
  either-done (Err x) made = tt

  pub either-served : (result : Result T E) → IfOk result (λ t. IsSideStep h.setup.geometry e h.side before (reply_of t) new after)
      → OnErr result Failed → (Failed → new ≡ h.side) → length before ≡ o.setup.host_bytes → IsServed (serving h new)
  either-served (Ok t) made failed same lent = call-served h o view is e mine new before after (reply_of t) made many sized lent
  either-served (Err x) made failed same lent = same-served h new is (same failed)

-- where nothing is reported, nothing was done
dull-undone : (r : Reply) → is_telling r ≡ false → r ≡ reply.Done → ⊥
dull-undone r quiet same = (let bad : true ≡ false = ap is_telling (sym same) ∙ quiet in cc)

-- a command was handed on, or nothing has changed
module _ {E : Type 0} (h o : Served) (view : h ≡ o) (is : IsServed h) (e : Event) (mine : IsMediators e) (new : Side) (before after : List ℕ)
    (Failed : Type 0) (many : length new.tails ≡ length h.side.tails) (sized : length after ≡ length before) where
  pub handed-done : (result : Result Reply E) → IfOk result (λ r. IsStepInEach h.setup.geometry e h.side before r new after)
      → IfOk result (λ r. (r ≡ reply.Done → ⊥) → new ≡ h.side) → IfOk result (λ r. IsDone e o before r (serving h new) after)
  handed-done (Ok r) made same =
      each-done h o view is e mine new before after r many sized made (λ quiet. same (dull-undone r quiet))
  handed-done (Err x) made same = tt

  pub handed-served : (result : Result Reply E) → IfOk result (λ r. IsStepInEach h.setup.geometry e h.side before r new after)
      → IfOk result (λ r. (r ≡ reply.Done → ⊥) → new ≡ h.side) → OnErr result Failed → (Failed → new ≡ h.side) → length before ≡ o.setup.host_bytes
      → IsServed (serving h new)
  handed-served (Ok r) made same failed stays lent =
      each-served h o view is e mine new before after r many sized made (λ quiet. same (dull-undone r quiet)) lent
  handed-served (Err x) made same failed stays lent = same-served h new is (stays failed)

-- a plan was carried out, or nothing has changed
module _ (h o : Served) (view : h ≡ o) (is : IsServed h) (e : Event) (mine : IsMediators e) (new : Side) (before after : List ℕ)
    (Current Rest : Type 0) (many : length new.tails ≡ length h.side.tails) (sized : length after ≡ length before) where
  pub plan-done : (result : Option Reply) → IfSome result (λ r. Current × IsStepInEach h.setup.geometry e h.side before r new after)
      → IfSome result (λ r. r ≡ reply.Done) → IfSome result (λ r. Current × IsDone e o before r (serving h new) after)
  plan-done (Some r) made done =
      (made.0, each-done h o view is e mine new before after r many sized made.1 (λ quiet. absurd (dull-undone r quiet done)))
  plan-done None made done = tt

  pub plan-served : (result : Option Reply) → IfSome result (λ r. Current × IsStepInEach h.setup.geometry e h.side before r new after)
      → IfSome result (λ r. r ≡ reply.Done) → (result ≡ None → (new ≡ h.side) × Rest) → length before ≡ o.setup.host_bytes → IsServed (serving h new)
  plan-served (Some r) made done none lent =
      each-served h o view is e mine new before after r many sized made.1 (λ quiet. absurd (dull-undone r quiet done)) lent
  plan-served None made done none lent = same-served h new is (none refl).0
