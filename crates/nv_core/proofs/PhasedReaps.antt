-- A Reap by phase tag: the slot that is read next has the phase tag that is wanted exactly where a completion waits.
use Rattle.std.proofs.Common.{◌≡◌, ℕ, ◌<◌, ◌≤◌, ◌⊎◌, inl, inr, Bool, true, false, not, ◌==◌, eq-eqb, List, length, get_or, slice_get, Some, arith, refl, sym, ap, ◌∙◌, subst}
use Rattle.std.proofs.lemmas.Bool.{cases_eq, cases_lt, ne_eqb}
use Rattle.std.specs.Prelude.{◌↔◌, IsTrue, ◌≢◌}
use Rattle.nv_core.specs.Front.{IsLive, IsSideOf}
use Rattle.nv_laws_sound.specs.Side.{Side}
use Rattle.nv_core.proofs.GroupWorlds.{looked-up}
use Rattle.nv_core.proofs.Reaps.{slice_get-or}
use Rattle.nv_device.specs.Physical.{no_lane}
use Rattle.nv_entry.specs.Status.{bit}
use Rattle.nv_laws_sound.proofs.phases.Rounds.{wanted-before, wanted-same}
use Rattle.nv_laws_sound.specs.Phased.{IsPhased, phase_at}
use Rattle.nv_model.specs.Memory.{byte_in}
use Rattle.nv_world_model.specs.Area.{ring_size}
use Rattle.nv_world_model.specs.Device.{DeviceLane}
use Rattle.nv_world_model.specs.Geometry.{Geometry}
use Rattle.nv_world_model.specs.World.{Lane, World}
use Rattle.std.specs.List.{slice_index_or}
use mathlib.Core.Bool.{beq}

-- a tag as the code reads it
read-as : (p : Bool) (n : ℕ) (b : Bool) → (IsTrue p ↔ (n ≡ 1)) → n ≡ bit b → p ≡ b
read-as true n true iff e = refl
read-as true n false iff e = (let one : n ≡ 1 = iff.0 refl in absurd (omega (arith, one, e)))
read-as false n true iff e = (let never = iff.1 e in cc)
read-as false n false iff e = refl

-- as the code compares two
pub alike : (p q : Bool) → not (beq p q) ≡ false → p ≡ q
alike true true e = refl
alike true false e = cc
alike false true e = cc
alike false false e = refl

pub unlike : (p q : Bool) → not (beq p q) ≡ true → p ≡ q → ⊥
unlike true true e same = cc
unlike true false e same = cc
unlike false true e same = cc
unlike false false e same = cc

not-self : (b : Bool) → not b ≡ b → ⊥
not-self true e = cc
not-self false e = cc

-- the slot that is read next
module _ (geometry : Geometry) (host : ℕ → ℕ) (lane head : ℕ) (wanted : Bool) (posted : ℕ) (phase : Bool) (low : head < ring_size)
    (is : IsPhased geometry host lane head wanted posted phase) where
  none-waits : head ≡ posted → phase_at geometry host lane head ≡ bit (not wanted)
  none-waits same =
      is.earlier head (omega (arith, same)) low ∙ ap (λ (b : Bool). bit (not b)) (sym (is.wants ∙ wanted-same head posted phase (omega (arith, same))))

  one-waits : (head ≡ posted → ⊥) → phase_at geometry host lane head ≡ bit wanted
  one-waits differ = by (cases_eq head posted) (cases_lt posted head)
    where
      by : (head ≡ posted) ⊎ (head ≢ posted) → (posted < head) ⊎ (head ≤ posted) → phase_at geometry host lane head ≡ bit wanted
      by (inl same) h = absurd (differ same)
      by (inr other) (inr least) = is.written head (omega (arith, least, other)) ∙ ap bit (sym (is.wants ∙ wanted-same head posted phase least))
      by (inr other) (inl most) = is.earlier head (omega (arith, most)) low ∙ ap bit (sym (is.wants ∙ wanted-before head posted phase most))

  module _ (p q : Bool) (n : ℕ) (reads : n ≡ phase_at geometry host lane head) (iff : IsTrue p ↔ (n ≡ 1)) (wants : q ≡ wanted) where
    pub must-wait : p ≡ q → head ≡ posted → ⊥
    must-wait same equal = not-self wanted (sym (read-as p n (not wanted) iff (reads ∙ none-waits equal)) ∙ same ∙ wants)

    pub must-idle : (p ≡ q → ⊥) → head ≡ posted
    must-idle differ = by (cases_eq head posted)
      where
        by : (head ≡ posted) ⊎ (head ≢ posted) → head ≡ posted
        by (inl same) = same
        by (inr other) = absurd (differ (read-as p n wanted iff (reads ∙ one-waits other) ∙ sym wants))

    -- what the code compares is whether one waits
    pub shows : beq p q ≡ not (head == posted)
    shows = by (cases_eq head posted)
      where
        differs : (a b : Bool) → (a ≡ b → ⊥) → beq a b ≡ false
        differs true true apart = absurd (apart refl)
        differs true false apart = refl
        differs false true apart = refl
        differs false false apart = absurd (apart refl)

        equals : (a b : Bool) → a ≡ b → beq a b ≡ true
        equals true true same = refl
        equals true false same = cc
        equals false true same = cc
        equals false false same = refl

        by : (head ≡ posted) ⊎ (head ≢ posted) → beq p q ≡ not (head == posted)
        by (inl same) = differs p q (λ alike. must-wait alike same) ∙ ap not (sym (eq-eqb head posted same))
        by (inr other) = equals p q (read-as p n wanted iff (reads ∙ one-waits other) ∙ sym wants) ∙ ap not (sym (ne_eqb head posted other))

-- a lane of a world with this side
module _ (geometry : Geometry) (side : Side) (memory : List ℕ) (w : World) (is : IsSideOf side memory w) (live : IsLive geometry w) (lane i : ℕ) (l : Lane)
    (at : i ≡ lane) (below : i < length side.lanes) (has : l ≡ get_or side.lanes i l) where
  abbrev pub d : DeviceLane
  d = slice_index_or w.device lane no_lane

  found : slice_get w.lanes lane ≡ Some l
  found = ap (λ (ls : List Lane). slice_get ls lane) is.lanes ∙ looked-up side.lanes lane i l at below has

  there : slice_get w.device lane ≡ Some d
  there =
      slice_get-or w.device lane no_lane
      (let sides = live.consistent.of_tags.sides in let many : length w.lanes ≡ length side.lanes = ap (λ (ls : List Lane). length ls) is.lanes in omega (arith, sides, many, at, below))

  pub phased : IsPhased geometry (byte_in memory) lane l.head l.phase d.posted d.phase
  phased = subst (λ (h : ℕ → ℕ). IsPhased geometry h lane l.head l.phase d.posted d.phase) is.host (live.phased lane l d found there)

  pub low : l.head < ring_size
  low = (live.consistent.of_tags.lanes lane l d found there).positions.read
