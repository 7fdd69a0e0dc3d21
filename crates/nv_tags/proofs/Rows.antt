-- The numbers in a row of which a test holds, in order
use Rattle.std.proofs.Common.{◌≡◌, ℕ, zero, suc, ◌+◌, ◌<◌, ◌≤◌, ◌==◌, ◌||◌, ◌&&◌, ◌⊎◌, cond, Bool, true, false, inl, inr, List, [], ◌∷◌, length, take, arith}
use Rattle.std.proofs.Common.{refl, sym, ap, ◌∙◌, subst}
use Rattle.std.specs.List.{All, filter, list_any, range_with_len}
use Rattle.std.proofs.lemmas.Bool.{cases_eq, eq-eqb, ne_eqb}
use Rattle.std.proofs.lemmas.List.Elements.{All-cons, All-nil, All-take}

-- those among `count` numbers from `from` on
abbrev pub holding : (ℕ → Bool) → (from count : ℕ) → List ℕ
holding test from count = filter test (range_with_len from count)

-- one number in front
one : (test : ℕ → Bool) (from count : ℕ) (b : Bool) → test from ≡ b
    → holding test from (suc count) ≡ cond b (from ∷ holding test (from + 1) count) (holding test (from + 1) count)
one test from count b is = ap (λ (x : Bool). cond x (from ∷ holding test (from + 1) count) (holding test (from + 1) count)) is

-- two tests that agree there
pub holding-same : (test other : ℕ → Bool) (from count : ℕ)
    → ((i : ℕ) → from ≤ i → i < from + count → test i ≡ other i) → holding test from count ≡ holding other from count
holding-same test other from zero same = refl
holding-same test other from (suc count) same =
    one test from count (other from) (same from (omega arith) (omega arith))
    ∙ ap (λ (xs : List ℕ). cond (other from) (from ∷ xs) xs)
    (holding-same test other (from + 1) count (λ i low high. same i (omega arith) (omega arith)))

-- a test that holds nowhere
pub holding-none : (test : ℕ → Bool) (from count : ℕ)
    → ((i : ℕ) → from ≤ i → i < from + count → test i ≡ false) → holding test from count ≡ []
holding-none test from zero none = refl
holding-none test from (suc count) none =
    one test from count false (none from (omega arith) (omega arith))
    ∙ holding-none test (from + 1) count (λ i low high. none i (omega arith) (omega arith))

-- the lowest of them, and the others
pub holding-lowest : (test other : ℕ → Bool) (from count at : ℕ) → from ≤ at → at < from + count → test at ≡ true
    → ((i : ℕ) → from ≤ i → i < at → test i ≡ false)
    → ((i : ℕ) → from ≤ i → i < from + count → other i ≡ cond (i == at) false (test i))
    → holding test from count ≡ at ∷ holding other from count
holding-lowest test other from zero at low high here before others = absurd (omega arith)
holding-lowest test other from (suc count) at low high here before others =
    (elim (cases_eq from at) [
      | inl first ↦
          one test from count true (ap test first ∙ here)
          ∙ ap (λ (xs : List ℕ). from ∷ xs)
          (holding-same test other (from + 1) count (λ i past below.
          sym (others i (omega arith) (omega arith)
          ∙ ap (λ (b : Bool). cond b false (test i)) (ne_eqb i at (λ same. absurd (omega arith))))))
          ∙ ap (λ (n : ℕ). n ∷ holding other (from + 1) count) first
          ∙ ap (λ (xs : List ℕ). at ∷ xs)
          (sym (one other from count false (others from (omega arith) (omega arith)
          ∙ ap (λ (b : Bool). cond b false (test from)) (eq-eqb from at first))))
      | inr later ↦
          (let past : from < at = omega arith in
          let no : test from ≡ false = before from (omega arith) past in
          one test from count false no
          ∙ holding-lowest test other (from + 1) count at (omega arith) (omega arith) here
          (λ i above below. before i (omega arith) below) (λ i above below. others i (omega arith) (omega arith))
          ∙ ap (λ (xs : List ℕ). at ∷ xs)
          (sym (one other from count false (others from (omega arith) (omega arith)
          ∙ ap (λ (b : Bool). cond b false (test from)) (ne_eqb from at later) ∙ no))))
    ])

-- two rows of one length, of whose numbers tests say the same
pub length-holding : (test other : ℕ → Bool) (from at count : ℕ) → ((i : ℕ) → i < count → test (from + i) ≡ other (at + i))
    → length (holding test from count) ≡ length (holding other at count)
length-holding test other from at zero same = refl
length-holding test other from at (suc count) same =
    let first : from ≡ from + 0 = omega arith in
    let second : at + 0 ≡ at = omega arith in
    let here : test from ≡ other at = ap test first ∙ same 0 (omega arith) ∙ ap other second in
    let rest : length (holding test (from + 1) count) ≡ length (holding other (at + 1) count) =
    length-holding test other (from + 1) (at + 1) count (λ i below.
    (let one_more : from + 1 + i ≡ from + suc i = omega arith in
    let too : at + suc i ≡ at + 1 + i = omega arith in
    ap test one_more ∙ same (suc i) (omega arith) ∙ ap other too)) in
    ap length (one test from count (other at) here)
    ∙ by_test (other at) (holding test (from + 1) count) (holding other (at + 1) count) rest
    ∙ sym (ap length (one other at count (other at) refl))
  where
    by_test : (b : Bool) (xs ys : List ℕ) → length xs ≡ length ys → length (cond b (from ∷ xs) xs) ≡ length (cond b (at ∷ ys) ys)
    by_test true xs ys as_many = ap suc as_many
    by_test false xs ys as_many = as_many

-- those of which another test holds, too
pub holding-filter : (test p : ℕ → Bool) (from count : ℕ) → filter p (holding test from count) ≡ holding (λ i. test i && p i) from count
holding-filter test p from zero = refl
holding-filter test p from (suc count) = by (holding-filter test p (from + 1) count) (test from) refl (p from) refl
  where
    by : filter p (holding test (from + 1) count) ≡ holding (λ i. test i && p i) (from + 1) count → (b : Bool) → test from ≡ b → (c : Bool) → p from ≡ c
        → filter p (holding test from (suc count)) ≡ holding (λ i. test i && p i) from (suc count)
    by rest true is c too =
        ap (filter p) (one test from count true is)
        ∙ ap (λ (x : Bool). cond x (from ∷ filter p (holding test (from + 1) count)) (filter p (holding test (from + 1) count))) too
        ∙ ap (λ (xs : List ℕ). cond c (from ∷ xs) xs) rest
        ∙ sym (one (λ i. test i && p i) from count c (ap (λ (x : Bool). x && p from) is ∙ too))
    by rest false is c too =
        ap (filter p) (one test from count false is) ∙ rest
        ∙ sym (one (λ i. test i && p i) from count false (ap (λ (x : Bool). x && p from) is))

-- each lies there
pub holding-low : (test : ℕ → Bool) (from count : ℕ) → All (λ i. from ≤ i) (holding test from count)
holding-low test from zero = All-nil (λ i. from ≤ i)
holding-low test from (suc count) =
    by_test (test from) refl (λ k d within. (let above = holding-low test (from + 1) count k d within in omega arith))
  where
    by_test : (b : Bool) → test from ≡ b → All (λ i. from ≤ i) (holding test (from + 1) count)
        → All (λ i. from ≤ i) (holding test from (suc count))
    by_test true is behind =
        subst (All (λ i. from ≤ i)) (sym (one test from count true is))
        (All-cons (λ i. from ≤ i) from (holding test (from + 1) count) (omega arith) behind)
    by_test false is behind = subst (All (λ i. from ≤ i)) (sym (one test from count false is)) behind

pub holding-high : (test : ℕ → Bool) (from count : ℕ) → All (λ i. i < from + count) (holding test from count)
holding-high test from zero = All-nil (λ i. i < from + 0)
holding-high test from (suc count) =
    by_test (test from) refl (λ k d within. (let below = holding-high test (from + 1) count k d within in omega arith))
  where
    by_test : (b : Bool) → test from ≡ b → All (λ i. i < from + suc count) (holding test (from + 1) count)
        → All (λ i. i < from + suc count) (holding test from (suc count))
    by_test true is behind =
        subst (All (λ i. i < from + suc count)) (sym (one test from count true is))
        (All-cons (λ i. i < from + suc count) from (holding test (from + 1) count) (omega arith) behind)
    by_test false is behind = subst (All (λ i. i < from + suc count)) (sym (one test from count false is)) behind

-- ---- which are among some

-- whether a number is one of these
abbrev pub is_among : List ℕ → ℕ → Bool
is_among xs i = list_any (λ x. x == i) xs

-- a number is below another, or not
pub less-or-past : (i past : ℕ) → (i < past) ⊎ (past ≤ i)
less-or-past i zero = inr (omega arith)
less-or-past zero (suc past) = inl (omega arith)
less-or-past (suc i) (suc past) = (elim (less-or-past i past) [ inl less ↦ inl (omega (arith, less)) | inr not ↦ inr (omega (arith, not)) ])

-- none is below the first
among-below : (xs : List ℕ) (from i : ℕ) → All (λ x. from ≤ x) xs → i < from → is_among xs i ≡ false
among-below [] from i above below = refl
among-below (x ∷ xs) from i above below =
    let first = above 0 0 (omega arith) in
    ap (λ (b : Bool). b || is_among xs i) (ne_eqb x i (λ same. absurd (omega arith)))
    ∙ among-below xs from i (λ k d within. above (suc k) d (omega arith)) below

-- nor above the last
pub among-above : (xs : List ℕ) (past i : ℕ) → All (λ x. x < past) xs → past ≤ i → is_among xs i ≡ false
among-above [] past i below above = refl
among-above (x ∷ xs) past i below above =
    let first = below 0 0 (omega arith) in
    ap (λ (b : Bool). b || is_among xs i) (ne_eqb x i (λ same. absurd (omega arith)))
    ∙ among-above xs past i (λ k d within. below (suc k) d (omega arith)) above

-- by what the test says of the first
by_test-here : (test : ℕ → Bool) (from count i : ℕ) → from ≡ i → (b : Bool) → test from ≡ b
    → is_among (holding test from (suc count)) i ≡ test i
by_test-here test from count i here true is =
    ap (λ (xs : List ℕ). is_among xs i) (one test from count true is)
    ∙ ap (λ (b : Bool). b || is_among (holding test (from + 1) count) i) (eq-eqb from i here)
    ∙ sym is ∙ ap test here
by_test-here test from count i here false is =
    ap (λ (xs : List ℕ). is_among xs i) (one test from count false is)
    ∙ among-below (holding test (from + 1) count) (from + 1) i (holding-low test (from + 1) count) (omega arith)
    ∙ sym is ∙ ap test here

by_test-past : (test : ℕ → Bool) (from count i : ℕ) → (from ≡ i → ⊥) → is_among (holding test (from + 1) count) i ≡ test i
    → (b : Bool) → test from ≡ b → is_among (holding test from (suc count)) i ≡ test i
by_test-past test from count i past behind true is =
    ap (λ (xs : List ℕ). is_among xs i) (one test from count true is)
    ∙ ap (λ (b : Bool). b || is_among (holding test (from + 1) count) i) (ne_eqb from i past)
    ∙ behind
by_test-past test from count i past behind false is =
    ap (λ (xs : List ℕ). is_among xs i) (one test from count false is) ∙ behind

-- those of which the test holds
pub among-holding : (test : ℕ → Bool) (from count i : ℕ) → from ≤ i → i < from + count → is_among (holding test from count) i ≡ test i
among-holding test from zero i low high = absurd (omega arith)
among-holding test from (suc count) i low high =
    (elim (cases_eq from i) [
      | inl here ↦ by_test-here test from count i here (test from) refl
      | inr past ↦
          by_test-past test from count i past (among-holding test (from + 1) count i (omega arith) (omega arith)) (test from) refl
    ])

-- some of them from the front are those that are among these
take-one : (test : ℕ → Bool) (from count : ℕ) (b : Bool) → test from ≡ b
    → ((k : ℕ) → take k (holding test (from + 1) count) ≡ holding (is_among (take k (holding test (from + 1) count))) (from + 1) count)
    → (k : ℕ) → take k (holding test from (suc count)) ≡ holding (is_among (take k (holding test from (suc count)))) from (suc count)
take-one test from count true is behind zero = sym (holding-none (λ i. false) from (suc count) (λ i above below. refl))
take-one test from count true is behind (suc k) =
    let rest : List ℕ = take k (holding test (from + 1) count) in
    let front : take (suc k) (holding test from (suc count)) ≡ from ∷ rest = ap (take (suc k)) (one test from count true is) in
    front
    ∙ ap (λ (xs : List ℕ). from ∷ xs)
    (behind k
    ∙ holding-same (is_among rest) (is_among (from ∷ rest)) (from + 1) count
    (λ i above below. sym (ap (λ (b : Bool). b || is_among rest i) (ne_eqb from i (λ same. absurd (omega arith))))))
    ∙ sym (one (is_among (from ∷ rest)) from count true (ap (λ (b : Bool). b || is_among rest from) (eq-eqb from from refl)))
    ∙ ap (λ (xs : List ℕ). holding (is_among xs) from (suc count)) (sym front)
take-one test from count false is behind k =
    let rest : List ℕ = take k (holding test (from + 1) count) in
    let none : take k (holding test from (suc count)) ≡ rest = ap (take k) (one test from count false is) in
    let low : All (λ i. from + 1 ≤ i) rest =
    All-take (λ i. from + 1 ≤ i) k (holding test (from + 1) count) (holding-low test (from + 1) count) in
    none ∙ behind k
    ∙ sym (one (is_among rest) from count false (among-below rest (from + 1) from low (omega arith)))
    ∙ ap (λ (xs : List ℕ). holding (is_among xs) from (suc count)) (sym none)

pub take-holding : (test : ℕ → Bool) (from count n : ℕ)
    → take n (holding test from count) ≡ holding (is_among (take n (holding test from count))) from count
take-holding test from zero zero = refl
take-holding test from zero (suc n) = refl
take-holding test from (suc count) n = take-one test from count (test from) refl (λ k. take-holding test (from + 1) count k) n
