-- Bytes as the lanes of a vector, and their digits
use Rattle.std.proofs.Common.{◌≡◌, ℕ, ◌+◌, ◌*◌, ◌/◌, ◌%◌, ◌^◌, ◌-◌, ◌<◌, ◌≤◌, true}
use Rattle.std.proofs.Common.{cond, eqb, ltb, List, [], ◌∷◌, ◌++◌, bit_and, drop, get_or, length, map, replicate}
use Rattle.std.proofs.Common.{slice_index, take, Fits, w8, refl, sym, ap, ap₂, ◌∙◌, arith}
use Rattle.std.proofs.lemmas.Bool.{agree_below_at, eqb-true}
use Rattle.std.proofs.lemmas.List.{append-nil, drop_all, length-drop, drop-take, take-append-drop, take-take, take_all}
use Rattle.std.proofs.lemmas.Nat.{and_le_r}
use Rattle.std.proofs.lemmas.Simd.{Each1-all, Each1-weaker, Each1-zip2, Each2-splat, below_from_Fits, length-chunk, length-zip2, take_more_put_chunk, swz_l, SwzOk, SwzOk-from_below}
use Rattle.hex.proofs.HexLemmas.{length-encode_with}
use Rattle.hex.specs.Hex.{encode_lower, encode_with, lower_digits}
use Rattle.nv_print.proofs.Growing.{encode_with-append}
use borrow.Rule.Slice.PartMut.{put_mid}
use mir.Val.{zeroes}
use lib.Lanes.{Each1, chunk, pick_l, put_chunk, top, zip2}

-- the digit that a lane makes of a value below 16
abbrev digit : ℕ → ℕ
digit value = (value + cond (top 7 (cond (ltb 9 value) 255 0)) 87 48) % 256

-- the lanes' values: the high halves of all bytes, and then the low ones
abbrev halves : ℕ → List ℕ → List ℕ
halves n v = zip2 (λ a b. a / 2 ^ b) v (replicate n 4) ++ zip2 bit_and v (replicate n 15)

-- the two digits of a byte, in front of others
two_digits : (b : ℕ) (xs ys : List ℕ) → Fits w8 b → xs ≡ ys
    → digit (b / 2 ^ 4) ∷ digit (bit_and b 15) ∷ xs ≡ slice_index lower_digits (b / 16) ∷ slice_index lower_digits (b % 16) ∷ ys
two_digits b xs ys fits same =
    let high = eqb-true _ _ (agree_below_at (λ x. eqb (digit (x / 2 ^ 4)) (slice_index lower_digits (x / 16))) (λ _. true) 256 b refl fits.fits) in
    let low = eqb-true _ _ (agree_below_at (λ x. eqb (digit (bit_and x 15)) (slice_index lower_digits (x % 16))) (λ _. true) 256 b refl fits.fits) in
    (λ i. high i ∷ low i ∷ same i)

-- the digits of a vector of eight bytes, and of four
pub eight_bytes : (v : List ℕ) → length v ≡ 8 → Each1 (Fits w8) v
    → map digit (pick_l 0 (halves 8 v) (0 ∷ 8 ∷ 1 ∷ 9 ∷ 2 ∷ 10 ∷ 3 ∷ 11 ∷ 4 ∷ 12 ∷ 5 ∷ 13 ∷ 6 ∷ 14 ∷ 7 ∷ 15 ∷ [])) ≡ encode_lower v
unfolding encode_with
eight_bytes (a ∷ b ∷ c ∷ d ∷ e ∷ f ∷ g ∷ h ∷ []) long fits =
    two_digits a _ _ fits.0 (two_digits b _ _ fits.1.0 (two_digits c _ _ fits.1.1.0 (two_digits d _ _ fits.1.1.1.0
    (two_digits e _ _ fits.1.1.1.1.0 (two_digits f _ _ fits.1.1.1.1.1.0 (two_digits g _ _ fits.1.1.1.1.1.1.0
    (two_digits h _ _ fits.1.1.1.1.1.1.1.0 refl)))))))
eight_bytes v long fits = absurd (omega arith)

-- the digit that is looked up at a value below 16
abbrev looked : ℕ → ℕ
looked value = cond (zeroes 16 w8 value) 0 (get_or lower_digits (0 + value) 0)

-- the two digits of a byte that are looked up, in front of others
two_looked : (b : ℕ) (xs ys : List ℕ) → Fits w8 b → xs ≡ ys
    → looked (b / 2 ^ 4) ∷ looked (bit_and b 15) ∷ xs ≡ slice_index lower_digits (b / 16) ∷ slice_index lower_digits (b % 16) ∷ ys
two_looked b xs ys fits same =
    let high = eqb-true _ _ (agree_below_at (λ x. eqb (looked (x / 2 ^ 4)) (slice_index lower_digits (x / 16))) (λ _. true) 256 b refl fits.fits) in
    let low = eqb-true _ _ (agree_below_at (λ x. eqb (looked (bit_and x 15)) (slice_index lower_digits (x % 16))) (λ _. true) 256 b refl fits.fits) in
    (λ i. high i ∷ low i ∷ same i)

-- the places of a vector of sixteen digits that are looked at: the high halves of all bytes, and the low ones
abbrev pub high_half : List ℕ → List ℕ
high_half v = zip2 (λ a b. a / 2 ^ b) v (replicate 16 4)

abbrev pub low_half : List ℕ → List ℕ
low_half v = zip2 bit_and v (replicate 16 15)

-- both are places of that vector
pub high_within : (v : List ℕ) → length v ≡ 16 → Each1 (Fits w8) v → SwzOk w8 16 16 0 (high_half v)
high_within v long fits =
    let small = Each1-weaker (λ a. a < 256) (λ a. a / 16 < 16) (λ a h. omega arith) v (below_from_Fits w8 v fits) in
    SwzOk-from_below w8 16 1 16 0 (high_half v) refl (omega (arith, length-zip2 (λ a b. a / 2 ^ b) v (replicate 16 4) long))
    (Each1-zip2 (λ a b. a / 2 ^ b) (λ j. j < 16) v (replicate 16 4) (Each2-splat (λ a b. a / 2 ^ b < 16) v 16 4 small))

pub low_within : (v : List ℕ) → length v ≡ 16 → SwzOk w8 16 16 0 (low_half v)
low_within v long =
    let small = Each1-all (λ a. bit_and a 15 < 16) (λ a. omega (arith, and_le_r a 15)) v in
    SwzOk-from_below w8 16 1 16 0 (low_half v) refl (omega (arith, length-zip2 bit_and v (replicate 16 15) long))
    (Each1-zip2 bit_and (λ j. j < 16) v (replicate 16 15) (Each2-splat (λ a b. bit_and a b < 16) v 16 15 small))

-- the digits of a vector of sixteen bytes
pub sixteen_bytes : (v : List ℕ) → length v ≡ 16 → Each1 (Fits w8) v
    → pick_l 0 (swz_l w8 16 lower_digits 0 (high_half v) ++ swz_l w8 16 lower_digits 0 (low_half v))
    (0 ∷ 16 ∷ 1 ∷ 17 ∷ 2 ∷ 18 ∷ 3 ∷ 19 ∷ 4 ∷ 20 ∷ 5 ∷ 21 ∷ 6 ∷ 22 ∷ 7 ∷ 23 ∷ 8 ∷ 24 ∷ 9 ∷ 25 ∷ 10 ∷ 26 ∷ 11 ∷ 27 ∷ 12 ∷ 28 ∷ 13 ∷ 29 ∷ 14 ∷ 30 ∷ 15 ∷ 31 ∷ [])
    ≡ encode_lower v
unfolding encode_with
sixteen_bytes (a ∷ b ∷ c ∷ d ∷ e ∷ f ∷ g ∷ h ∷ i ∷ j ∷ k ∷ l ∷ m ∷ n ∷ o ∷ p ∷ []) long fits =
    let behind = fits.1.1.1.1.1.1.1.1 in
    two_looked a _ _ fits.0 (two_looked b _ _ fits.1.0 (two_looked c _ _ fits.1.1.0 (two_looked d _ _ fits.1.1.1.0
    (two_looked e _ _ fits.1.1.1.1.0 (two_looked f _ _ fits.1.1.1.1.1.0 (two_looked g _ _ fits.1.1.1.1.1.1.0
    (two_looked h _ _ fits.1.1.1.1.1.1.1.0 (two_looked i _ _ behind.0 (two_looked j _ _ behind.1.0 (two_looked k _ _ behind.1.1.0
    (two_looked l _ _ behind.1.1.1.0 (two_looked m _ _ behind.1.1.1.1.0 (two_looked n _ _ behind.1.1.1.1.1.0
    (two_looked o _ _ behind.1.1.1.1.1.1.0 (two_looked p _ _ behind.1.1.1.1.1.1.1.0 refl)))))))))))))))
sixteen_bytes v long fits = absurd (omega arith)

pub four_bytes : (v : List ℕ) → length v ≡ 4 → Each1 (Fits w8) v
    → map digit (pick_l 0 (halves 4 v) (0 ∷ 4 ∷ 1 ∷ 5 ∷ 2 ∷ 6 ∷ 3 ∷ 7 ∷ [])) ≡ encode_lower v
unfolding encode_with
four_bytes (a ∷ b ∷ c ∷ d ∷ []) long fits =
    two_digits a _ _ fits.0 (two_digits b _ _ fits.1.0 (two_digits c _ _ fits.1.1.0 (two_digits d _ _ fits.1.1.1.0 refl)))
four_bytes v long fits = absurd (omega arith)

-- so many members, and those behind them
take-then : (k n : ℕ) (xs : List ℕ) → take k xs ++ take n (drop k xs) ≡ take (k + n) xs
take-then k n xs =
    ap₂ (λ x y. x ++ y) (sym (take-take k (k + n) xs (omega arith))) (sym (drop-take k n xs)) ∙ take-append-drop k (take (k + n) xs)

-- n bytes more are written
pub block_more : (bytes digits block : List ℕ) (done n : ℕ) → length digits ≡ 2 * length bytes → done + n ≤ length bytes
    → take (2 * done) digits ≡ encode_lower (take done bytes) → block ≡ encode_lower (chunk done n bytes)
    → take (2 * (done + n)) (put_chunk (2 * done) digits block) ≡ encode_lower (take (done + n) bytes)
block_more bytes digits block done n long room before now =
    let size = ap length now ∙ length-encode_with lower_digits (chunk done n bytes) in
    let few = length-chunk done n bytes room in
    take_more_put_chunk (2 * done) digits block (2 * (done + n)) (omega (arith, size, few)) (omega arith)
    ∙ ap₂ (λ x y. x ++ y) before now
    ∙ sym (encode_with-append lower_digits (take done bytes) (chunk done n bytes))
    ∙ ap encode_lower (take-then done n bytes)

-- the part of a list that goes to its end
pub to_end : (k : ℕ) (xs : List ℕ) → take (length xs - k) (drop k xs) ≡ drop k xs
to_end k xs = take_all (length xs - k) (drop k xs) (omega (arith, length-drop k xs))

-- the rest is written
pub all_written : (bytes digits rest : List ℕ) (done room : ℕ) → length digits ≡ 2 * length bytes → done ≤ length bytes
    → room ≡ length digits - 2 * done
    → take (2 * done) digits ≡ encode_lower (take done bytes) → rest ≡ encode_lower (drop done bytes)
    → put_mid (2 * done) room digits rest ≡ encode_lower bytes
all_written bytes digits rest done room long within all before now =
    let none : drop room (drop (2 * done) digits) ≡ [] = drop_all room (drop (2 * done) digits) (omega (arith, all, length-drop (2 * done) digits)) in
    ap₂ (λ x y. x ++ y) before (ap (λ t. rest ++ t) none ∙ append-nil rest ∙ now)
    ∙ sym (encode_with-append lower_digits (take done bytes) (drop done bytes))
    ∙ ap encode_lower (take-append-drop done bytes)
