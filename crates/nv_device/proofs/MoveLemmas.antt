-- The device behind a unit that moved
use Rattle.std.proofs.Common.{◌≡◌, ℕ, ◌<◌, ◌≤◌, ◌^◌, ◌==◌, Bool, true, false, cond, not, List, []}
use Rattle.std.proofs.Common.{◌∷◌, length, Option, Some, None, refl, sym, ap, subst, ◌∙◌, arith, set, get_or, inl, inr}
use Rattle.std.specs.Prelude.{All, IfSome, slice_set}
use Rattle.std.specs.List.{slice_index_or}
use Rattle.std.proofs.lemmas.Bool.{cases_lt}
use Rattle.std.proofs.lemmas.List.{get_or_past, length-set}
use Rattle.std.proofs.lemmas.List.Elements.{All-cons, All-head, All-nil, All-tail}
use Rattle.nv_model.specs.Private.{Moved, others}
use Rattle.nv_disk.specs.Flat.{flat, moved_of}
use Rattle.nv_world_model.specs.Area.{lane_start}
use Rattle.nv_world_model.specs.Device.{DeviceLane, Held, unit_gone, with_held}
use Rattle.nv_device.specs.Moving.{IsMoved, unit_of}
use Rattle.nv_device.specs.Physical.{AreHeld, IsHeld, IsWhole, lane_of}
use Rattle.nv_device.specs.State.{Physical}
use Rattle.nv_device.proofs.LaneLemmas.{lane-changed}
use Rattle.nv_device.proofs.TakeLemmas.{lanes-held}
use Rattle.nv_device.proofs.UnitLemmas.{differed-of}

-- what the device keeps of a command that is there
pub held-kept : (blocks : ℕ) (lanes : List DeviceLane) (i : ℕ) (d : DeviceLane) (slot : ℕ) (h : Held) → All (AreHeld blocks) lanes → i < length lanes
    → d ≡ get_or lanes i d → slice_index_or d.held slot None ≡ Some h → IsHeld blocks h
held-kept blocks lanes i d slot h all within is there =
    let P : DeviceLane → Type 0 = AreHeld blocks in
    let H : Option Held → Type 0 = λ o. IfSome o (IsHeld blocks) in
    let kept : AreHeld blocks d = subst P (sym is) (all i d within) in
    elim (cases_lt slot (length d.held)) [
      | inl below ↦ subst H there (kept slot None below)
      | inr past ↦ let none : slice_index_or d.held slot None ≡ None = get_or_past d.held slot None past in absurd (cc)
    ]

-- numbers below an end are so without one of them
others-below : (n end : ℕ) (ks : List ℕ) → All (λ k. k < end) ks → All (λ k. k < end) (others n ks)
others-below n end [] all = All-nil (λ (k : ℕ). k < end)
others-below n end (k ∷ ks) all =
    by_head (not (k == n)) (All-head (λ (j : ℕ). j < end) k ks all) (others-below n end ks (All-tail (λ (j : ℕ). j < end) k ks all))
  where
    by_head : (b : Bool) → k < end → All (λ k. k < end) (others n ks) → All (λ k. k < end) (cond b (k ∷ others n ks) (others n ks))
    by_head true here rest = All-cons (λ (j : ℕ). j < end) k (others n ks) here rest
    by_head false here rest = rest

-- it holds without one of the units, too
pub gone-held : (blocks number : ℕ) (differed : Bool) (h : Held) → IsHeld blocks h → IsHeld blocks (unit_gone number differed h)
gone-held blocks number differed h kept = record { blocks = kept.blocks; places = kept.places; units = others-below number _ h.left kept.units }

-- the parts of the device fit behind it
pub moved-whole : (mediator : ℕ) (disk new_disk : List (List ℕ)) (kept new_kept : List Bool) (lanes : List DeviceLane) (i slot number : ℕ) (d new : DeviceLane)
    (h : Held) (differed : Bool) → IsWhole mediator disk kept lanes → length new_disk ≡ length disk → length new_kept ≡ length kept → i < length lanes
    → d ≡ get_or lanes i d → slice_index_or d.held slot None ≡ Some h → new ≡ with_held slot (Some (unit_gone number differed h)) d
    → IsWhole mediator new_disk new_kept (slice_set lanes i new)
moved-whole mediator disk new_disk kept new_kept lanes i slot number d new h differed whole disk_size kept_size within is there changed =
    let size : length (set lanes i new) ≡ length lanes = length-set lanes i new in
    let A : ℕ → Type 0 = λ n. lane_start mediator n ≤ 2 ^ 64 in
    let B : ℕ → Type 0 = λ n. All (AreHeld n) (slice_set lanes i new) in
    let few = whole.few in
    record {
      area = subst A (sym size) whole.area;
      few = omega arith;
      marked = kept_size ∙ whole.marked ∙ sym disk_size;
      held = subst B (sym disk_size) (lanes-held (length disk) lanes i d new slot (Some (unit_gone number differed h)) whole.held within is
          (ap (λ (l : DeviceLane). l.held) changed)
          (gone-held (length disk) number differed h (held-kept (length disk) lanes i d slot h whole.held within is there)));
    }

-- and it is the device behind the unit
pub moved-device : (lane slot number i : ℕ) (h : Held) (host new_host : List ℕ) (p : Physical) (disk : List (List ℕ)) (kept : List Bool) (d new : DeviceLane)
    (differed : Bool) → i ≡ lane → lane < length p.lanes → d ≡ get_or p.lanes i d
    → moved_of (flat new_host disk kept) differed ≡ unit_of number h host p.disk p.kept
    → new ≡ with_held slot (Some (unit_gone number differed h)) d
    → IsMoved lane slot number h host p new_host (record { mediator = p.mediator; disk = disk; kept = kept; lanes = set p.lanes i new })
moved-device lane slot number i h host new_host p disk kept d new differed same within is moved changed =
    let told : differed ≡ (unit_of number h host p.disk p.kept).differed =
    sym (differed-of new_host disk kept differed) ∙ ap (λ (m : Moved). m.differed) moved in
    record {
      moved = ap (moved_of (flat new_host disk kept)) (sym told) ∙ moved;
      lanes = ap (λ (q : Physical). q.lanes) (lane-changed p lane i d new (with_held slot (Some (unit_gone number differed h))) same within is changed)
          ∙ ap (λ (b : Bool). (let q : Physical = record p { lanes = set p.lanes lane (with_held slot (Some (unit_gone number b h)) (lane_of p lane)) } in q).lanes) told;
      mediator = refl;
    }
