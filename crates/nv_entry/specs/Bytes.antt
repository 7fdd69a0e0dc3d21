-- Bytes that dwords are read from
use Rattle.std.proofs.Common.{◌≡◌, ℕ, suc, ◌+◌, ◌*◌, ◌/◌, ◌%◌, ◌<◌, List, [], ◌∷◌, ◌++◌, length, drop, slice_index, refl, ap, ◌∙◌, arith}
use Rattle.byteorder.specs.Endian.{little_bytes, little_number}
use Rattle.nv_entry.specs.Layout.{bytes_of_dwords}

-- the four bytes of the number that four bytes spell are these bytes
four_bytes : (a b c d n : ℕ) → a < 256 → b < 256 → c < 256 → d < 256 → n ≡ a + 256 * (b + 256 * (c + 256 * (d + 0))) → little_bytes 4 n ≡ a ∷ b ∷ c ∷ d ∷ []
four_bytes a b c d n ha hb hc hd spelled =
    let e0 : n % 256 ≡ a = omega arith in
    let e1 : n / 256 % 256 ≡ b = omega arith in
    let e2 : n / 65536 % 256 ≡ c = omega arith in
    let e3 : n / 16777216 % 256 ≡ d = omega arith in
    rw (e0, e1, e2, e3) refl

-- dwords that spell the bytes, four by four, have these bytes
pub bytes_back : (ds bytes : List ℕ) → length bytes ≡ 4 * length ds → ((i : ℕ) → slice_index bytes i < 256)
    → ((k : ℕ) → k < length ds → slice_index ds k ≡ little_number 4 (drop (4 * k) bytes)) → bytes_of_dwords ds ≡ bytes
unfolding bytes_of_dwords
bytes_back [] [] e fit spell = refl
bytes_back [] (b ∷ bs) e fit spell = absurd (omega arith)
bytes_back (d ∷ ds) [] e fit spell = absurd (omega arith)
bytes_back (d ∷ ds) (b0 ∷ []) e fit spell = absurd (omega arith)
bytes_back (d ∷ ds) (b0 ∷ b1 ∷ []) e fit spell = absurd (omega arith)
bytes_back (d ∷ ds) (b0 ∷ b1 ∷ b2 ∷ []) e fit spell = absurd (omega arith)
bytes_back (d ∷ ds) (b0 ∷ b1 ∷ b2 ∷ b3 ∷ rest) e fit spell =
    let first : d ≡ b0 + 256 * (b1 + 256 * (b2 + 256 * (b3 + 0))) = spell 0 (omega arith) in
    let others : bytes_of_dwords ds ≡ rest =
    bytes_back ds rest (omega arith) (λ i. fit (suc (suc (suc (suc i))))) (λ k below.
    let moved : 4 * suc k ≡ suc (suc (suc (suc (4 * k)))) = omega arith in
    let here = spell (suc k) (omega arith) in
    rw moved at here) in
    let four = four_bytes b0 b1 b2 b3 d (fit 0) (fit 1) (fit 2) (fit 3) first in
    ap (λ (xs : List ℕ). xs ++ bytes_of_dwords ds) four ∙ ap (λ (xs : List ℕ). b0 ∷ b1 ∷ b2 ∷ b3 ∷ xs) others
