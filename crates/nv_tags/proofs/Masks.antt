-- Tags as the bits of a number
use Rattle.std.proofs.Common.{◌≡◌, ℕ, zero, suc, ◌+◌, ◌*◌, ◌-◌, ◌/◌, ◌%◌, ◌^◌, ◌<◌, ◌≤◌, ◌==◌, cond, Bool, true, false, ◌⊎◌, inl, inr, List, [], ◌∷◌}
use Rattle.std.proofs.Common.{count_ones, length, pow-suc, arith, refl, sym, ap, ◌∙◌}
use lib.Count.{ones_step}
use Rattle.std.specs.Int.{bit_at, trailing_zeros, w64}
use Rattle.std.specs.Prelude.{bit_and, bit_or}
use Rattle.std.proofs.lemmas.Bool.{cases_eq, cond-false, cond-true, eq-eqb, ne_eqb}
use Rattle.std.proofs.lemmas.Nat.Bits.{bit_at-lt, bit_at-suc, bit_at-trailing_zeros, bit_at-zero, bit_at_clear_other, bit_at_clear_same, bit_at_lowest, bit_at_set_other, bit_at_set_same}
use Rattle.std.proofs.lemmas.Nat.{ones-le}
use Rattle.nv_tags.specs.Kept.{IsWith, IsWithout, tags_in}
use Rattle.nv_tags.proofs.Rows.{among-above, among-holding, holding, holding-high, holding-lowest, holding-none, is_among, length-holding}

-- whether a tag's bit is set
abbrev pub is_set : (mask tag : ℕ) → Bool
is_set mask tag = bit_at mask tag == 1

-- a bit that is set, or cleared
pub with-is : (mask tag : ℕ) → tag < 64 → IsWith mask tag (bit_or mask (1 * 2 ^ tag % 18446744073709551616))
with-is mask tag below t there = by_eq (cases_eq t tag)
  where
    by_eq : (t ≡ tag) ⊎ (t ≡ tag → ⊥)
        → bit_at (bit_or mask (1 * 2 ^ tag % 18446744073709551616)) t ≡ cond (t == tag) 1 (bit_at mask t)
    by_eq (inl same) =
        ap (bit_at (bit_or mask (1 * 2 ^ tag % 18446744073709551616))) same ∙ bit_at_set_same w64 mask tag below
        ∙ sym (cond-true (t == tag) 1 (bit_at mask t) (eq-eqb t tag same))
    by_eq (inr other) =
        bit_at_set_other w64 mask tag below t other ∙ sym (cond-false (t == tag) 1 (bit_at mask t) (ne_eqb t tag other))

pub without-is : (mask tag : ℕ) → tag < 64
    → IsWithout mask tag (bit_and mask (18446744073709551615 - 1 * 2 ^ tag % 18446744073709551616))
without-is mask tag below t there = by_eq (cases_eq t tag)
  where
    by_eq : (t ≡ tag) ⊎ (t ≡ tag → ⊥)
        → bit_at (bit_and mask (18446744073709551615 - 1 * 2 ^ tag % 18446744073709551616)) t
        ≡ cond (t == tag) 0 (bit_at mask t)
    by_eq (inl same) =
        ap (bit_at (bit_and mask (18446744073709551615 - 1 * 2 ^ tag % 18446744073709551616))) same
        ∙ bit_at_clear_same w64 mask tag below ∙ sym (cond-true (t == tag) 0 (bit_at mask t) (eq-eqb t tag same))
    by_eq (inr other) =
        bit_at_clear_other w64 mask tag below t there other
        ∙ sym (cond-false (t == tag) 0 (bit_at mask t) (ne_eqb t tag other))

-- no bit is set in 0
pub tags_in-zero : (mask : ℕ) → mask ≡ 0 → [] ≡ tags_in mask
unfolding tags_in
tags_in-zero mask none =
    sym (holding-none (is_set mask) 0 64 (λ i low high. ap (λ (n : ℕ). is_set n i) none ∙ ap (λ (n : ℕ). n == 1) (bit_at-zero i)))

-- the lowest tag, and the others
pub tags_in-lowest : (mask rest : ℕ) → 0 < mask → mask < 2 ^ 64 → IsWithout mask (trailing_zeros w64 mask) rest
    → tags_in mask ≡ trailing_zeros w64 mask ∷ tags_in rest
unfolding tags_in
tags_in-lowest mask rest some fits without =
    let lowest = bit_at-trailing_zeros w64 mask some fits in
    holding-lowest (is_set mask) (is_set rest) 0 64 (trailing_zeros w64 mask) (omega arith) (lowest.0)
    (ap (λ (n : ℕ). n == 1) lowest.1)
    (λ i low before. ap (λ (n : ℕ). n == 1) (lowest.2 i before))
    (λ i low there. ap (λ (n : ℕ). n == 1) (without i there) ∙ apart (i == trailing_zeros w64 mask) (bit_at mask i))
  where
    apart : (b : Bool) (n : ℕ) → cond b 0 n == 1 ≡ cond b false (n == 1)
    apart true n = refl
    apart false n = refl

-- which tags these are
pub among-tags_in : (mask tag : ℕ) → tag < 64 → is_among (tags_in mask) tag ≡ is_set mask tag
unfolding tags_in
among-tags_in mask tag there = among-holding (is_set mask) 0 64 tag (omega arith) there

-- none from 64 on
pub among-past : (mask tag : ℕ) → 64 ≤ tag → is_among (tags_in mask) tag ≡ false
unfolding tags_in
among-past mask tag past = among-above (tags_in mask) 64 tag (holding-high (is_set mask) 0 64) past

-- ---- how many they are

-- one number in front, by its bit
bit-more : (n : ℕ) (x : ℕ) (xs : List ℕ) → n < 2 → length (cond (n == 1) (x ∷ xs) xs) ≡ n + length xs
bit-more zero x xs low = omega arith
bit-more (suc zero) x xs low = omega arith
bit-more (suc (suc n)) x xs low = absurd (omega arith)

ones-holding : (k mask : ℕ) → mask < 2 ^ k → length (holding (is_set mask) 0 k) ≡ count_ones mask
ones-holding zero mask fits = (let none = ones-le 0 mask fits in omega arith)
ones-holding (suc k) mask fits =
    let half = ones-holding k (mask / 2) (omega (arith, pow-suc 2 k)) in
    let rest : length (holding (is_set mask) 1 k) ≡ length (holding (is_set (mask / 2)) 0 k) =
    length-holding (is_set mask) (is_set (mask / 2)) 1 0 k (λ i below.
    (let next : 1 + i ≡ suc i = omega arith in
    let same : i ≡ 0 + i = omega arith in
    ap (is_set mask) next ∙ ap (λ (n : ℕ). n == 1) (bit_at-suc mask i) ∙ ap (is_set (mask / 2)) same)) in
    let step = ones_step mask in
    bit-more (bit_at mask 0) 0 (holding (is_set mask) 1 k) (bit_at-lt mask 0)
    ∙ (let low = bit_at_lowest mask in omega arith)

-- as many as bits are set
pub ones-tags_in : (mask : ℕ) → mask < 2 ^ 64 → count_ones mask ≡ length (tags_in mask)
unfolding tags_in
ones-tags_in mask fits = sym (ones-holding 64 mask fits)

-- one tag alone
pub only-is : (tag mask t : ℕ) → IsWith 0 tag mask → t < 64 → is_set mask t ≡ (t == tag)
only-is tag mask t with below =
    ap (λ (n : ℕ). n == 1) (with t below ∙ ap (λ (n : ℕ). cond (t == tag) 1 n) (bit_at-zero t)) ∙ told (t == tag)
  where
    told : (b : Bool) → cond b 1 0 == 1 ≡ b
    told true = refl
    told false = refl
