-- Members of parts of lists.
use Rattle.std.proofs.Common.{◌≡◌, ℕ, zero, suc, ◌+◌, ◌<◌, List, [], ◌∷◌, drop, slice_get, take, Some, arith, ap, ◌∙◌}
use Rattle.nv_mem.specs.Places.{At, Place}
use Rattle.nv_model.specs.Memory.{byte_at_place, bytes_from, gathered}

pub slice-take : {X : Type 0} (n : ℕ) (xs : List X) (i : ℕ) (x : X) → slice_get (take n xs) i ≡ Some x → slice_get xs i ≡ Some x
slice-take zero [] i x at = cc
slice-take zero (y ∷ ys) i x at = cc
slice-take (suc n) [] i x at = cc
slice-take (suc n) (y ∷ ys) zero x at = at
slice-take (suc n) (y ∷ ys) (suc i) x at = slice-take n ys i x at

pub slice-drop : {X : Type 0} (n : ℕ) (xs : List X) (i : ℕ) (x : X) → slice_get (drop n xs) i ≡ Some x → slice_get xs (n + i) ≡ Some x
slice-drop zero xs i x at = let same : 0 + i ≡ i = omega arith in ap (slice_get xs) same ∙ at
slice-drop (suc n) [] i x at = cc
slice-drop (suc n) (y ∷ ys) i x at =
    let next : suc n + i ≡ suc (n + i) = omega arith in
    ap (slice_get (y ∷ ys)) next ∙ slice-drop n ys i x at

-- a byte of a row of bytes
pub slice-bytes : (memory : ℕ → ℕ) (from n k : ℕ) → k < n → slice_get (bytes_from memory from n) k ≡ Some (memory (from + k))
unfolding bytes_from
slice-bytes memory from zero k below = absurd (omega (arith, below))
slice-bytes memory from (suc n) zero below = let here : from ≡ from + 0 = omega arith in ap (λ a. Some (memory a)) here
slice-bytes memory from (suc n) (suc k) below =
    let next : suc from + k ≡ from + suc k = omega arith in
    slice-bytes memory (suc from) n k (omega (arith, below)) ∙ ap (λ a. Some (memory a)) next

-- and of bytes that are gathered
pub slice-gathered : (memory : ℕ → ℕ) (places : List Place) (k addr : ℕ) → slice_get places k ≡ Some (At addr) → slice_get (gathered memory places) k ≡ Some (memory addr)
unfolding gathered
slice-gathered memory [] k addr at = cc
slice-gathered memory (place ∷ places) zero addr at = let same : place ≡ At addr = cc in ap (λ p. Some (byte_at_place memory p)) same
slice-gathered memory (place ∷ places) (suc k) addr at = slice-gathered memory places k addr at
