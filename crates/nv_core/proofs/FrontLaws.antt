-- What a call of a front comes to in the worlds that have its side, and what its side keeps.
use Rattle.std.proofs.Common.{◌≡◌, ℕ, List, [], length, slice_get, Some, refl, sym, ap, ◌∙◌, subst}
use Rattle.nv_core.proofs.Alike.{kept-alike}
use Rattle.nv_core.proofs.Besides.{beside-of}
use Rattle.nv_core.proofs.Delegated.{tails-opening, tails-rung}
use Rattle.nv_laws_sound.proofs.KeptWorlds.{kept-consistent, kept-world}
use Rattle.nv_laws_sound.proofs.Tails.{length-tails, tail-of}
use Rattle.nv_core.proofs.Sides.{in-each, own-side, own-world}
use Rattle.nv_core.specs.Front.{ComesTo, IsBeside, IsReaped, IsSideOf, IsSideStep, IsStepBeside, IsStepInEach, with_side}
use Rattle.nv_laws_sound.specs.Side.{Side, opening_side, rung_with, tails_of, AreKept, IsKept}
use Rattle.nv_core.specs.Kept.{IsLent}
use Rattle.nv_laws_sound.proofs.ControllersSide.{side-alone}
use Rattle.nv_laws_sound.proofs.KeptEvents.{reaped-kept, step-kept}
use Rattle.nv_laws_sound.proofs.Openings.{opening-consistent}
use Rattle.nv_laws_sound.specs.Kept.{IsKeptWorld}
use Rattle.nv_laws_sound.specs.LaidOut.{IsLaidOut}
use Rattle.nv_laws_sound.specs.Mediators.{IsMediators}
use Rattle.nv_laws_sound.specs.Unplaced.{IsControllers, after_unplaced}
use Rattle.nv_model.specs.Controller.{Controller}
use Rattle.nv_model.specs.Memory.{byte_in}
use Rattle.nv_model.specs.declared.reply.Reply.{Reply}
use Rattle.nv_world_model.specs.Device.{DeviceLane}
use Rattle.nv_world_model.specs.Geometry.{Geometry}
use Rattle.nv_world_model.specs.Seat.{completion_at}
use Rattle.nv_world_model.specs.Step.{After, step}
use Rattle.nv_world_model.specs.World.{Lane, World, opening_world}
use Rattle.nv_world_model.specs.declared.event.Event.{Event}

-- as many tails as the physical controller has lanes
tails-new : (ts : List ℕ) (ds : List DeviceLane) → length ts ≡ length (tails_of ds) → tails_of (rung_with ts ds) ≡ ts
tails-new ts ds many = tails-rung ds ts (many ∙ length-tails ds)

-- what a call comes to in a world that has its side but for the places of parts
pub comes-beside : (geometry : Geometry) (e : Event) (old new : Side) (before after : List ℕ) (r : Reply) (w : World) → ComesTo geometry e w r new after
    → length new.tails ≡ length old.tails → IsBeside old before w → IsStepBeside geometry e w r new after
comes-beside geometry e old new before after r w comes many on =
    record {
      reply = sym (ap (λ (a : After). a.reply) comes);
      world = record {
        host = sym (ap (λ (a : After). a.world.host) comes);
        lanes = sym (ap (λ (a : After). a.world.lanes) comes);
        controllers = sym (ap (λ (a : After). a.world.controllers) comes);
        tails =
            sym (ap (λ (a : After). tails_of a.world.device) comes)
            ∙ tails-new new.tails w.device (many ∙ ap (λ (ts : List ℕ). length ts) (sym on.tails));
      };
    }

-- a call is a step of each world that has its side but for the places of parts
pub in-beside : (geometry : Geometry) (e : Event) → IsMediators e → (old new : Side) (before after : List ℕ) (r : Reply)
    → IsSideStep geometry e old before r new after → IsStepInEach geometry e old before r new after
in-beside geometry e mine old new before after r is = in-each geometry e old new before after r mine (λ w on. ap after_unplaced (is w on))

pub step-beside : (geometry : Geometry) (e : Event) → IsMediators e → (old new : Side) (before after : List ℕ) (r : Reply)
    → IsSideStep geometry e old before r new after → length new.tails ≡ length old.tails → (w : World) → IsBeside old before w
    → IsStepBeside geometry e w r new after
step-beside geometry e mine old new before after r is many w on =
    comes-beside geometry e old new before after r w (in-beside geometry e mine old new before after r is w on) many on

-- what a world with this side keeps is what the side keeps
pub own-kept : (geometry : Geometry) (side : Side) (memory : List ℕ) → IsKept geometry side → IsKeptWorld geometry (own-world side memory)
own-kept geometry side memory kept =
    let tails = (own-side side memory).tails in
    let w : World = own-world side memory in
    record {
      lanes = kept.lanes;
      sides = sym kept.many ∙ ap (λ (ts : List ℕ). length ts) (sym tails) ∙ length-tails w.device;
      tails = (λ lane d there. kept.slots lane d.tail (ap (λ (ts : List ℕ). slice_get ts lane) (sym tails) ∙ tail-of w.device lane d there));
      controllers = kept.controllers;
      queues = kept.queues;
    }

-- and the other way round
side-kept : (geometry : Geometry) (old new : Side) (before after : List ℕ) → length new.tails ≡ length old.tails
    → IsKeptWorld geometry (with_side new after (own-world old before)) → IsKept geometry new
side-kept geometry old new before after many is =
    let w : World = own-world old before in
    let tails = tails-new new.tails w.device (many ∙ ap (λ (ts : List ℕ). length ts) (sym (own-side old before).tails)) in
    subst (λ (ts : List ℕ). AreKept geometry new.lanes ts new.controllers) tails (kept-world geometry (with_side new after w) is)

lent-new : (geometry : Geometry) (old new : Side) (before after : List ℕ) → length new.tails ≡ length old.tails → length after ≡ length before
    → IsLent geometry old before → IsKept geometry new → IsLent geometry new after
lent-new geometry old new before after many sized lent kept =
    record {
      laid_out =
          subst (λ n. IsLaidOut n (length new.lanes) geometry) (sym sized)
          (subst (λ n. IsLaidOut (length before) n geometry) (sym lent.kept.many ∙ sym many ∙ kept.many) lent.laid_out);
      kept = kept;
    }

-- what a side keeps after a call
pub each-lent : (geometry : Geometry) (e : Event) → IsMediators e → (old new : Side) (before after : List ℕ) (r : Reply)
    → IsStepInEach geometry e old before r new after → length new.tails ≡ length old.tails → length after ≡ length before
    → IsLent geometry old before → IsLent geometry new after
each-lent geometry e mine old new before after r is many sized lent =
    let w : World = own-world old before in
    let on = own-side old before in
    let now : World = (step geometry e w).world in
    let comes = is w (beside-of old before w on) in
    let kept = kept-world geometry now (step-kept (length before) geometry e w mine lent.laid_out (own-kept geometry old before lent.kept)) in
    let tails : tails_of now.device ≡ new.tails =
    sym (ap (λ (a : After). tails_of a.world.device) comes) ∙ tails-new new.tails w.device (many ∙ ap (λ (ts : List ℕ). length ts) (sym on.tails)) in
    lent-new geometry old new before after many sized lent
    (subst (λ (cs : List Controller). AreKept geometry new.lanes new.tails cs) (sym (ap (λ (a : After). a.world.controllers) comes))
    (subst (λ (ts : List ℕ). AreKept geometry new.lanes ts now.controllers) tails
    (kept-alike geometry new.lanes now.lanes (tails_of now.device) now.controllers (ap (λ (a : After). a.world.lanes) comes) kept)))

pub step-lent : (geometry : Geometry) (e : Event) → IsMediators e → (old new : Side) (before after : List ℕ) (r : Reply)
    → IsSideStep geometry e old before r new after → length new.tails ≡ length old.tails → length after ≡ length before
    → IsLent geometry old before → IsLent geometry new after
step-lent geometry e mine old new before after r is many sized lent =
    each-lent geometry e mine old new before after r (in-beside geometry e mine old new before after r is) many sized lent

pub reaped-lent : (geometry : Geometry) (lane : ℕ) (l : Lane) (old new : Side) (memory : List ℕ) → slice_get old.lanes lane ≡ Some l
    → IsReaped geometry lane old new memory → new.tails ≡ old.tails → IsLent geometry old memory → IsLent geometry new memory
reaped-lent geometry lane l old new memory found is tails lent =
    let w : World = own-world old memory in
    let made = is w l (own-side old memory) found in
    let many = ap (λ (ts : List ℕ). length ts) tails in
    lent-new geometry old new memory memory many refl lent
    (side-kept geometry old new memory memory many
    (subst (IsKeptWorld geometry) (sym made) (reaped-kept geometry lane (completion_at geometry w lane l.head) w (own-kept geometry old memory lent.kept))))

-- the physical controller does something
pub controller-beside : (geometry : Geometry) (e : Event) → IsControllers e → (side : Side) (before after : List ℕ) (w : World) → IsBeside side before w
    → (step geometry e w).world.host ≡ byte_in after → IsBeside side after (step geometry e w).world
controller-beside geometry e his side before after w on host =
    let alone = side-alone w geometry e his in
    record { host = host; lanes = alone.lanes ∙ on.lanes; controllers = alone.controllers ∙ on.controllers; tails = alone.tails ∙ on.tails }

-- the start
pub start-side : (memory : List ℕ) (disk : ℕ → ℕ → ℕ) (geometry : Geometry) (lanes : ℕ)
    → IsSideOf (opening_side geometry lanes) memory (opening_world (byte_in memory) disk geometry lanes)
unfolding opening_world
start-side memory disk geometry lanes = record { host = refl; lanes = refl; controllers = refl; tails = tails-opening lanes }

pub start-kept : (geometry : Geometry) (lanes : ℕ) → IsKept geometry (opening_side geometry lanes)
start-kept geometry lanes =
    let blank : ℕ → ℕ → ℕ = (λ _ _. 0) in
    let is = start-side [] blank geometry lanes in
    let w : World = opening_world (byte_in []) blank geometry lanes in
    subst (λ (ls : List Lane). AreKept geometry ls (opening_side geometry lanes).tails (opening_side geometry lanes).controllers) is.lanes
    (subst (λ (ts : List ℕ). AreKept geometry w.lanes ts (opening_side geometry lanes).controllers) is.tails
    (subst (λ (cs : List Controller). AreKept geometry w.lanes (tails_of w.device) cs) is.controllers
    (kept-world geometry w (kept-consistent geometry w (opening-consistent (byte_in []) blank geometry lanes)))))
