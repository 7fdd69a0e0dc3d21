-- A world that has the mediator's side, as a state with a device on lists: what an event comes to there, it comes to in that world.
use Rattle.std.proofs.Common.{◌≡◌, ℕ, zero, suc, Bool, false, ◌&&◌, List, [], ◌∷◌, map, replicate, set, slice_get, Option, Some, None, lit<, refl, sym, ap, ◌∙◌, subst, length}
use Rattle.std.proofs.lemmas.List.{length-replicate}
use Rattle.nv_core.proofs.KeptStates.{IsKeptOf}
use Rattle.nv_laws_sound.proofs.Tails.{rung-one, rung-same, tail-of}
use Rattle.nv_core.specs.Front.{ComesTo, HasTailMoved, IsLive, IsSideOf, IsStepInEach, with_side}
use Rattle.nv_laws_sound.specs.Side.{Side, rung_with, tails_of, AreKept, IsKept}
use Rattle.nv_core.specs.Kept.{IsLent}
use Rattle.nv_core.specs.State.{IsOf, IsStep, State, world_of}
use Rattle.nv_device.specs.Physical.{no_lane, with_lane}
use Rattle.nv_disk.specs.Flat.{byte_of_block}
use Rattle.nv_disk.specs.Marks.{mark_of}
use Rattle.nv_laws_sound.proofs.Lists.{set-same, some-same}
use Rattle.nv_core.proofs.Submits.{IsStepBut}
use Rattle.nv_laws_sound.proofs.Mediators.{left-alone}
use Rattle.nv_laws_sound.proofs.Unplaced.{placed-alike}
use Rattle.nv_laws_sound.specs.Consistent.{IsConsistent}
use Rattle.nv_laws_sound.specs.Counted.{IsCounted, commands}
use Rattle.nv_laws_sound.specs.LaidOut.{IsLaidOut}
use Rattle.nv_laws_sound.specs.Phased.{ArePhased}
use Rattle.nv_laws_sound.specs.Unplaced.{after_unplaced, unplaced}
use Rattle.nv_laws_sound.specs.Mediators.{IsMediators, after_on, on_disk}
use Rattle.nv_model.specs.Controller.{Controller}
use Rattle.nv_model.specs.Memory.{byte_in}
use Rattle.nv_model.specs.declared.reply.Reply.{Reply}
use Rattle.nv_world_model.specs.Device.{DeviceLane}
use Rattle.nv_world_model.specs.Geometry.{Geometry}
use Rattle.nv_world_model.specs.Due.{due, is_due_kind}
use Rattle.nv_world_model.specs.Seat.{completion_at}
use Rattle.nv_world_model.specs.Step.{After, is_done, reaped, step}
use Rattle.nv_world_model.specs.World.{Lane, World}
use Rattle.nv_world_model.specs.declared.event.Event.{Event}

-- what is consistent is so beside another disk
consistent-on : (geometry : Geometry) (w : World) (disk : ℕ → ℕ → ℕ) (kept : ℕ → Bool) → IsConsistent geometry w → IsConsistent geometry (on_disk disk kept w)
consistent-on geometry w disk kept is =
    record {
      of_tags = record { sides = is.of_tags.sides; controllers = is.of_tags.controllers; lanes = is.of_tags.lanes; queues = is.of_tags.queues };
      groups = is.groups;
    }

-- a lane of the physical controller with that tail
abbrev with_tail : ℕ → DeviceLane
with_tail tail = record no_lane { tail = tail }

tails-with : (tails : List ℕ) → tails_of (map with_tail tails) ≡ tails
tails-with [] = refl
tails-with (tail ∷ tails) = ap (λ (ts : List ℕ). tail ∷ ts) (tails-with tails)

-- a world that has this side, whatever the side is
abbrev pub own-world : Side → (memory : List ℕ) → World
own-world side memory =
    record {
      host = byte_in memory;
      disk = (λ at offset. 0);
      kept = (λ at. false);
      device = map with_tail side.tails;
      lanes = side.lanes;
      controllers = side.controllers;
    }

pub own-side : (side : Side) (memory : List ℕ) → IsSideOf side memory (own-world side memory)
own-side side memory = record { host = refl; lanes = refl; controllers = refl; tails = tails-with side.tails }

-- a tail that is where it was
pub tail-stays : (geometry : Geometry) (side : Side) (lane : ℕ) → IsKept geometry side → HasTailMoved lane side.tails side.tails
tail-stays geometry side lane kept = by (slice_get side.tails lane) refl
  where
    set-past : (ts : List ℕ) (n tail : ℕ) → slice_get ts n ≡ None → set ts n tail ≡ ts
    set-past [] n tail none = refl
    set-past (t ∷ ts) zero tail none = cc
    set-past (t ∷ ts) (suc n) tail none = ap (λ (us : List ℕ). t ∷ us) (set-past ts n tail none)

    by : (o : Option ℕ) → slice_get side.tails lane ≡ o → HasTailMoved lane side.tails side.tails
    by None none = record { tail = 0; fits = lit< tt; is = sym (set-past side.tails lane 0 none) }
    by (Some tail) there = record { tail = tail; fits = kept.slots lane tail there; is = sym (set-same side.tails lane tail there) }

module _ (geometry : Geometry) (side : Side) (memory : List ℕ) (w : World) (is : IsSideOf side memory w) where
  -- the state
  abbrev pub state_in : State
  state_in =
      record {
        host = memory;
        device = record { mediator = geometry.mediator; disk = replicate geometry.disk_blocks []; kept = []; lanes = w.device };
        lanes = side.lanes;
        controllers = side.controllers;
      }

  -- the world, by the side's parts
  abbrev pub own : World
  own = record w { host = byte_in memory; lanes = side.lanes; controllers = side.controllers }

  own-is : own ≡ w
  own-is =
      ap (λ (h : ℕ → ℕ). let v : World = record w { host = h; lanes = side.lanes; controllers = side.controllers } in v) (sym is.host)
      ∙ ap (λ (ls : List Lane). let v : World = record w { lanes = ls; controllers = side.controllers } in v) (sym is.lanes)
      ∙ ap (λ (cs : List Controller). let v : World = record w { controllers = cs } in v) (sym is.controllers)

  pub kept-side : IsKept geometry side → AreKept geometry state_in.lanes (tails_of state_in.device.lanes) state_in.controllers
  kept-side kept = subst (λ (ts : List ℕ). AreKept geometry side.lanes ts side.controllers) (sym is.tails) kept

  pub of-side : IsLent geometry side memory → IsKeptOf geometry state_in
  of-side lent = record { mediator = refl; laid_out = lent.laid_out; kept = kept-side lent.kept }

  -- where the world is as events leave it
  pub of-live : IsLaidOut (length memory) (length side.lanes) geometry → IsLive geometry w → IsOf geometry state_in
  of-live laid live =
      record {
        mediator = refl;
        blocks = length-replicate {A = List ℕ} geometry.disk_blocks [];
        laid_out = laid;
        consistent = consistent-on geometry own _ _ (subst (IsConsistent geometry) (sym own-is) live.consistent);
        phased = subst (ArePhased geometry) (sym own-is) live.phased;
      }

  -- an event of guests or of the mediator
  pub made-in : (e : Event) → IsMediators e → (r : Reply) (new : State) → IsStep geometry e state_in r new
      → (let a : After = record { world = on_disk w.disk w.kept (world_of new); reply = r } in a) ≡ step geometry e w
  made-in e mine r new made =
      ap (after_on w.disk w.kept) made.after
      ∙ sym (left-alone w.disk w.kept geometry e (world_of state_in) mine)
      ∙ ap (step geometry e) own-is

  -- one that rings no doorbell
  pub quiet-in : (e : Event) → IsMediators e → (r : Reply) (new : Side) (after : List ℕ) → new.tails ≡ side.tails
      → IsStep geometry e state_in r (record state_in { host = after; lanes = new.lanes; controllers = new.controllers })
      → (let a : After = record { world = with_side new after w; reply = r } in a) ≡ step geometry e w
  quiet-in e mine r new after same made =
      ap (λ (ds : List DeviceLane). let a : After = record { world = record w { host = byte_in after; device = ds; lanes = new.lanes; controllers = new.controllers }; reply = r } in a)
      (ap (λ (ts : List ℕ). rung_with ts w.device) (same ∙ sym is.tails) ∙ rung-same w.device)
      ∙ made-in e mine r _ made

  -- where the next completion of a lane was read, and has ended its tag
  pub reaped-in : (lane i : ℕ) (l l_new k : Lane) → i ≡ lane → slice_get w.lanes lane ≡ Some k → slice_get side.lanes lane ≡ Some l
      → (let v : World = record own { lanes = set side.lanes lane l_new } in v) ≡ reaped lane (completion_at geometry own lane l.head) own
      → with_side (record { lanes = set side.lanes i l_new; tails = side.tails; controllers = side.controllers }) memory w
      ≡ reaped lane (completion_at geometry w lane k.head) w
  reaped-in lane i l l_new k at found there e =
      ap (λ (ds : List DeviceLane). let v : World = record own { device = ds; lanes = set side.lanes i l_new } in v)
      (ap (λ (ts : List ℕ). rung_with ts w.device) (sym is.tails) ∙ rung-same w.device)
      ∙ ap (λ (n : ℕ). let v : World = record own { lanes = set side.lanes n l_new } in v) at
      ∙ e
      ∙ ap (λ (v : World). reaped lane (completion_at geometry v lane l.head) v) own-is
      ∙ ap (λ (x : Lane). reaped lane (completion_at geometry w lane x.head) w)
      (some-same l k (sym there ∙ ap (λ (ls : List Lane). slice_get ls lane) (sym is.lanes) ∙ found))

  -- controllers count their commands there
  pub counted-side : IsCounted geometry w → IsCounted geometry (world_of state_in)
  unfolding commands
  counted-side counted = (let own_counted = subst (IsCounted geometry) (sym own-is) counted in record { running = own_counted.running })

  -- what is due there is due in the world
  pub due-side : (e : Event) → IsMediators e → due geometry e (world_of state_in) ≡ due geometry e w
  unfolding due
  due-side e mine =
      ap (λ (a : After). is_due_kind e && is_done a.reply) (left-alone (byte_of_block (replicate geometry.disk_blocks [])) (mark_of []) geometry e own mine)
      ∙ ap (λ (v : World). is_due_kind e && is_done (step geometry e v).reply) own-is

  -- each tail is that of the device
  pub tail-there : (lane : ℕ) (d : DeviceLane) → slice_get w.device lane ≡ Some d → slice_get side.tails lane ≡ Some d.tail
  tail-there lane d there = ap (λ (ts : List ℕ). slice_get ts lane) (sym is.tails) ∙ tail-of w.device lane d there

  -- an event that hands parts on, and rings the doorbell of one lane
  pub rung-in : (e : Event) → IsMediators e → (r : Reply) (new : Side) (after : List ℕ) (lane tail : ℕ) (d : DeviceLane) → slice_get w.device lane ≡ Some d
      → new.tails ≡ set side.tails lane tail
      → IsStepBut geometry e state_in r
      (record state_in { host = after; device = with_lane lane (record d { tail = tail }) state_in.device; lanes = new.lanes; controllers = new.controllers })
      → ComesTo geometry e w r new after
  rung-in e mine r new after lane tail d there moved made =
      ap (λ (ds : List DeviceLane). after_unplaced
      (let a : After = record { world = record w { host = byte_in after; device = ds; lanes = new.lanes; controllers = new.controllers }; reply = r } in a))
      (ap (λ (ts : List ℕ). rung_with ts w.device) (moved ∙ ap (λ (ts : List ℕ). set ts lane tail) (sym is.tails)) ∙ rung-one w.device lane tail d there)
      ∙ ap (after_on w.disk w.kept) made
      ∙ sym (ap after_unplaced (left-alone w.disk w.kept geometry e (world_of state_in) mine))
      ∙ ap (λ (v : World). after_unplaced (step geometry e v)) own-is

-- what a call comes to in each world that has the side, it comes to in each that has it but for places
pub in-each : (geometry : Geometry) (e : Event) (old new : Side) (before after : List ℕ) (r : Reply) → IsMediators e
    → ((w : World) → IsSideOf old before w → ComesTo geometry e w r new after) → IsStepInEach geometry e old before r new after
in-each geometry e old new before after r mine made w on =
    let v : World = record w { lanes = old.lanes } in
    let left : unplaced v ≡ unplaced w = ap (λ (ls : List Lane). let u : World = record w { lanes = ls } in u) (sym on.lanes) in
    made v (record { host = on.host; lanes = refl; controllers = on.controllers; tails = on.tails })
    ∙ sym (placed-alike geometry e v mine) ∙ ap (λ (u : World). after_unplaced (step geometry e u)) left ∙ placed-alike geometry e w mine
