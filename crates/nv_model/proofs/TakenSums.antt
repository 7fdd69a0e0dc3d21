-- How many commands are taken, over all queues and of each queue.
use Rattle.std.proofs.Common.{◌≡◌, ℕ, zero, suc, ◌+◌, ◌-◌, ◌<◌, ◌≤◌, inl, inr, true, false}
use Rattle.std.proofs.Common.{not, ◌==◌, List, [], ◌∷◌, slice_index, set, sum, arith, refl, subst, eqb-true}
use Rattle.std.proofs.lemmas.Bool.{cases_lt}
use Rattle.std.proofs.lemmas.Bool.Decides.{nat_tests}
use Rattle.std.proofs.lemmas.List.Sums.{sum_by-cons}

-- a list's sum, from the front
sum-cons : (x : ℕ) (xs : List ℕ) → sum (x ∷ xs) ≡ x + sum xs
sum-cons x xs = sum_by-cons (λ n. n) x xs

-- each number is within the sum
pub index-sum : (xs : List ℕ) (y : ℕ) → slice_index xs y ≤ sum xs
index-sum [] y = omega arith
index-sum (x ∷ xs) zero = let whole = sum-cons x xs in omega arith
index-sum (x ∷ xs) (suc y) = let whole = sum-cons x xs in let rest = index-sum xs y in omega arith

-- a place with a number that is not zero
pub record HasSome (xs : List ℕ) : Type 0 where
  pub place : ℕ
  pub some : 0 < slice_index xs place

-- where the sum is not zero, there is one
pub sum-some : (xs : List ℕ) → 0 < sum xs → HasSome xs
sum-some [] more = absurd (omega arith)
sum-some (zero ∷ xs) more =
    let whole = sum-cons 0 xs in
    let behind = sum-some xs (omega arith) in
    record { place = suc behind.place; some = behind.some }
sum-some (suc x ∷ xs) more = record { place = 0; some = omega arith }

-- what a test of the sum says
pub sum-is-some : (xs : List ℕ) → 0 < sum xs → not (sum xs == 0) ≡ true
sum-is-some xs more = let e : (sum xs == 0) ≡ false = grind (arith, nat_tests) in rw e refl

pub sum-not-zero : (n : ℕ) → not (n == 0) ≡ true → 0 < n
sum-not-zero n some =
    elim (cases_lt 0 n) [
      | inl more ↦ more
      | inr none ↦ let same : n ≡ 0 = omega arith in let zero_is : not (0 == 0) ≡ true = subst (λ (m : ℕ). not (m == 0) ≡ true) same some in cc
    ]

-- where it is zero, so is each number
pub sum-zero : (xs : List ℕ) (y : ℕ) → (sum xs == 0) ≡ true → slice_index xs y ≡ 0
sum-zero xs y none = let all = index-sum xs y in let zero_is = eqb-true (sum xs) 0 none in omega arith

-- ---- a number that changes

-- where one number rises, the others that are not zero were not
pub index-of-more : (P : ℕ → Type 0) (xs : List ℕ) (at y : ℕ) → P at → (0 < slice_index xs y → P y)
    → 0 < slice_index (set xs at (slice_index xs at + 1)) y → P y
index-of-more P [] at y here there some = there some
index-of-more P (x ∷ xs) zero zero here there some = here
index-of-more P (x ∷ xs) zero (suc y) here there some = there some
index-of-more P (x ∷ xs) (suc at) zero here there some = there some
index-of-more P (x ∷ xs) (suc at) (suc y) here there some = index-of-more (λ n. P (suc n)) xs at y here there some

-- where one falls, those that are not zero were not
pub index-of-less : (xs : List ℕ) (at y : ℕ) → 0 < slice_index (set xs at (slice_index xs at - 1)) y
    → 0 < slice_index xs y
index-of-less [] at y some = some
index-of-less (x ∷ xs) zero zero some = omega arith
index-of-less (x ∷ xs) zero (suc y) some = some
index-of-less (x ∷ xs) (suc at) zero some = some
index-of-less (x ∷ xs) (suc at) (suc y) some = index-of-less xs at y some
