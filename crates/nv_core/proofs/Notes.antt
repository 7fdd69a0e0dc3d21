-- The notes of the guests that something may be due of, as controllers change
use Rattle.std.proofs.Common.{◌≡◌, ℕ, ◌^◌, ◌%◌, ◌*◌, ◌-◌, ◌<◌, ◌==◌, ◌≤◌, Bool, false, zero, suc, inl, inr, List, replicate, set, slice_get, Some, None, arith, refl, sym, ap, ◌∙◌, subst}
use Rattle.std.specs.Int.{bit_at, w16}
use Rattle.std.specs.Prelude.{bit_and, bit_or}
use Rattle.std.proofs.lemmas.Bool.{cases_eq, cond-false, cond-true, eq-eqb, ne_eqb}
use Rattle.std.proofs.lemmas.Nat.Bits.{bit_at_clear_other, bit_at_clear_same, bit_at_set_other, bit_at_set_same}
use Rattle.nv_core.proofs.TagLists.{get-other}
use Rattle.nv_core.specs.Noted.{AreNoted, IsNoted, IsQuiet, IsSettled}
use Rattle.nv_laws_sound.proofs.Lists.{some-same}
use Rattle.nv_entry.specs.Layout.{bits}
use Rattle.nv_admin.specs.Event.{is_stepped}
use Rattle.nv_model.specs.Admin.{admin}
use Rattle.nv_model.specs.Controller.{Controller, front, opening}

-- ---- bits

pub noted-is : (notes guest : ℕ) → guest < 16 → IsNoted notes guest (bit_or notes (1 * 2 ^ guest % 65536))
noted-is notes guest below g there = (elim (cases_eq g guest) [
  | inl same ↦
      ap (bit_at (bit_or notes (1 * 2 ^ guest % 65536))) same ∙ bit_at_set_same w16 notes guest below
      ∙ sym (cond-true (g == guest) 1 (bit_at notes g) (eq-eqb g guest same))
  | inr other ↦ bit_at_set_other w16 notes guest below g other ∙ sym (cond-false (g == guest) 1 (bit_at notes g) (ne_eqb g guest other))
])

pub settled-is : (notes guest : ℕ) → guest < 16 → IsSettled notes guest (bit_and notes (65535 - 1 * 2 ^ guest % 65536))
settled-is notes guest below g there = (elim (cases_eq g guest) [
  | inl same ↦
      ap (bit_at (bit_and notes (65535 - 1 * 2 ^ guest % 65536))) same ∙ bit_at_clear_same w16 notes guest below
      ∙ sym (cond-true (g == guest) 0 (bit_at notes g) (eq-eqb g guest same))
  | inr other ↦ bit_at_clear_other w16 notes guest below g there other ∙ sym (cond-false (g == guest) 0 (bit_at notes g) (ne_eqb g guest other))
])

-- a guest that there may not be
pub noted-past : (notes guest : ℕ) → 16 ≤ guest → IsNoted notes guest notes
noted-past notes guest past g there = sym (cond-false (g == guest) 1 (bit_at notes g) (ne_eqb g guest (λ same. omega (arith, same, past, there))))

pub settled-past : (notes guest : ℕ) → 16 ≤ guest → IsSettled notes guest notes
settled-past notes guest past g there = sym (cond-false (g == guest) 0 (bit_at notes g) (ne_eqb g guest (λ same. omega (arith, same, past, there))))

-- ---- what is noted

-- the controller of a guest has changed, and the guest is noted
pub noted-set : (cs : List Controller) (notes guest now : ℕ) (c : Controller) → AreNoted cs notes → IsNoted notes guest now → AreNoted (set cs guest c) now
noted-set cs notes guest now c are is g d below there clear = (elim (cases_eq g guest) [
  | inl same ↦
      (let one : 1 ≡ 0 = sym (is g below ∙ cond-true (g == guest) 1 (bit_at notes g) (eq-eqb g guest same)) ∙ clear in absurd (omega (arith, one)))
  | inr other ↦
      are g d below (sym (get-other cs guest g c other) ∙ there)
      (sym (is g below ∙ cond-false (g == guest) 1 (bit_at notes g) (ne_eqb g guest other)) ∙ clear)
])

-- the guest is noted, and nothing has changed
pub noted-more : (cs : List Controller) (notes guest now : ℕ) → AreNoted cs notes → IsNoted notes guest now → AreNoted cs now
noted-more cs notes guest now are is g d below there clear = (elim (cases_eq g guest) [
  | inl same ↦
      (let one : 1 ≡ 0 = sym (is g below ∙ cond-true (g == guest) 1 (bit_at notes g) (eq-eqb g guest same)) ∙ clear in absurd (omega (arith, one)))
  | inr other ↦
      are g d below there (sym (is g below ∙ cond-false (g == guest) 1 (bit_at notes g) (ne_eqb g guest other)) ∙ clear)
])

-- nothing is due of a guest, which is not noted any more
pub noted-less : (cs : List Controller) (notes guest now : ℕ) (c : Controller) → AreNoted cs notes → IsSettled notes guest now → slice_get cs guest ≡ Some c
    → IsQuiet c → AreNoted cs now
noted-less cs notes guest now c are is found quiet g d below there clear = (elim (cases_eq g guest) [
  | inl same ↦ subst IsQuiet (some-same c d (sym found ∙ sym (ap (slice_get cs) same) ∙ there)) quiet
  | inr other ↦
      are g d below there (sym (is g below ∙ cond-false (g == guest) 0 (bit_at notes g) (ne_eqb g guest other)) ∙ clear)
])

-- ---- at the start

replicated : (count i : ℕ) (c d : Controller) → slice_get (replicate count d) i ≡ Some c → c ≡ d
replicated zero i c d there = cc
replicated (suc count) zero c d there = sym (some-same d c there)
replicated (suc count) (suc i) c d there = replicated count i c d there

opening-admin : (test : ℕ → Bool) (blocks : ℕ) (memory : ℕ → ℕ) → is_stepped (admin test blocks opening memory) ≡ false
unfolding admin opening bits
opening-admin test blocks memory = refl

opening-front : (queue : ℕ) → front opening queue ≡ None
unfolding front opening bits
opening-front queue = refl

pub noted-start : (count : ℕ) (cs : List Controller) → cs ≡ replicate count opening → AreNoted cs 0
noted-start count cs all g c below there clear =
    subst IsQuiet (sym (replicated count g c opening (sym (ap (λ (xs : List Controller). slice_get xs g) all) ∙ there)))
    (record { admin = opening-admin; queues = λ queue io. opening-front queue })
