-- Fields of registers, and sums of counts.
use Rattle.std.proofs.Common.{◌≡◌, ℕ, zero, suc, ◌/◌, ◌%◌, ◌^◌, ◌≤◌, Bool, true, false, not}
use Rattle.std.proofs.Common.{◌==◌, List, [], ◌∷◌, sum, bit_and, IsTrue, ◌↔◌, arith, refl, sym, ap, ◌∙◌}
use Rattle.std.proofs.Math.Nat.{div-one}
use Rattle.std.proofs.lemmas.Nat.{and_mask}
use Rattle.std.proofs.lemmas.List.Sums.{sum_by-cons}
use Rattle.std.proofs.lemmas.Bool.Decides.{nat_tests}
use Rattle.std.specs.List.{list_any}
use Rattle.nv_model.proofs.TakenSums.{sum-is-some}
use Rattle.nv_model.specs.Controller.{size_fits}
use Rattle.nv_ring.specs.Ring.{FitsRing}
use Rattle.nv_entry.specs.Layout.{bits}

-- the lowest bit of a number
pub low-bit : (n : ℕ) → bit_and n 1 ≡ bits n 0 0
unfolding bits
low-bit n = and_mask n 1 ∙ ap (λ (m : ℕ). m % 2) (sym (div-one n))

-- its twelve lowest bits
pub low-bits : (n : ℕ) → bit_and n 4095 ≡ bits n 11 0
unfolding bits
low-bits n = and_mask n 12 ∙ ap (λ (m : ℕ). m % 4096) (sym (div-one n))

-- those of its upper half
pub high-bits : (n : ℕ) → bits (n / 2 ^ 16) 11 0 ≡ bits n 27 16
unfolding bits
high-bits n = ap (λ (m : ℕ). m % 4096) (div-one (n / 2 ^ 16))

-- its sixteen lowest bits
pub low-half : (n : ℕ) → bit_and n 65535 ≡ bits n 15 0
unfolding bits
low-half n = and_mask n 16 ∙ ap (λ (m : ℕ). m % 65536) (sym (div-one n))

-- some number is not 0 exactly where the sum is not
pub any-sum : (xs : List ℕ) → list_any (λ n. not (n == 0)) xs ≡ not (sum xs == 0)
any-sum [] = refl
any-sum (zero ∷ xs) = any-sum xs ∙ ap (λ (n : ℕ). not (n == 0)) (omega (arith, sum_by-cons (λ (n : ℕ). n) 0 xs))
any-sum (suc x ∷ xs) =
    let some : (suc x == 0) ≡ false = grind (arith, nat_tests) in
    let whole = sum_by-cons (λ (n : ℕ). n) (suc x) xs in
    rw some (sym (sum-is-some (suc x ∷ xs) (omega arith)))

-- ---- sizes

-- a ring of a size that a queue may have
pub size_fits-ring : (size : ℕ) → size_fits size ≡ true → FitsRing size
size_fits-ring size fits = (grind (arith, nat_tests), grind (arith, nat_tests))

-- and the other way round
pub ring-size_fits : (b : Bool) (size : ℕ) → IsTrue b ↔ FitsRing size → b ≡ size_fits size
ring-size_fits b size is = by_cases b (size_fits size) is refl
  where
    by_cases : (b fits : Bool) → IsTrue b ↔ FitsRing size → size_fits size ≡ fits → b ≡ fits
    by_cases true true is same = refl
    by_cases false false is same = refl
    by_cases true false is same =
        let fits : FitsRing size = is.0 refl in
        let low : 2 ≤ size = fits.0 in
        let high : size ≤ 1024 = fits.1 in
        grind (arith, nat_tests)
    by_cases false true is same = is.1 (size_fits-ring size same)
