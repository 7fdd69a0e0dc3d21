-- So many elements of a list behind the first few.
use Rattle.std.proofs.Common.{◌≡◌, ℕ, zero, suc, ◌+◌, ◌-◌, ◌<◌, min, List, [], ◌∷◌, ◌++◌, map, length, take, drop, replicate, refl, ap, sym, ◌∙◌, arith}
use Rattle.std.specs.List.{range_with_len, slice_get}
use Rattle.std.proofs.lemmas.List.{drop-map, drop-replicate, take-map}

abbrev pub window : {X : Type 0} → (skip len : ℕ) → List X → List X
window skip len xs = take len (drop skip xs)

take-none : {X : Type 0} (len : ℕ) → take {A = X} len [] ≡ []
take-none zero = refl
take-none (suc len) = refl

drop-none : {X : Type 0} (skip : ℕ) → drop {A = X} skip [] ≡ []
drop-none zero = refl
drop-none (suc skip) = refl

pub window-none : {X : Type 0} (skip len : ℕ) → window {X = X} skip len [] ≡ []
window-none skip len = ap (take len) (drop-none skip) ∙ take-none len

-- of two lists one behind the other
pub window-append : {X : Type 0} (xs ys : List X) (skip len : ℕ)
    → window skip len (xs ++ ys) ≡ window skip len xs ++ window (skip - length xs) (len - (length xs - skip)) ys
window-append {X = X} [] ys skip len =
    let left : len ≡ len - (0 - skip) = omega arith in
    let on : skip ≡ skip - 0 = omega arith in
    ap (λ (n : ℕ). take len (drop n ys)) on ∙ ap (λ (n : ℕ). take n (drop (skip - 0) ys)) left
    ∙ sym (ap (λ (zs : List X). zs ++ window (skip - 0) (len - (0 - skip)) ys) (window-none skip len))
window-append {X = X} (x ∷ xs) ys zero zero =
    let none : 0 ≡ 0 - (suc (length xs) - 0) = omega arith in ap (λ (n : ℕ). take n (drop (0 - suc (length xs)) ys)) none
window-append {X = X} (x ∷ xs) ys zero (suc len) =
    let on : 0 - length xs ≡ 0 - suc (length xs) = omega arith in
    let left : len - (length xs - 0) ≡ suc len - (suc (length xs) - 0) = omega arith in
    ap (λ (zs : List X). x ∷ zs) (
    window-append xs ys zero len
    ∙ ap (λ (n : ℕ). take len xs ++ take (len - (length xs - 0)) (drop n ys)) on
    ∙ ap (λ (n : ℕ). take len xs ++ take n (drop (0 - suc (length xs)) ys)) left
    )
window-append {X = X} (x ∷ xs) ys (suc skip) len =
    let on : skip - length xs ≡ suc skip - suc (length xs) = omega arith in
    let left : len - (length xs - skip) ≡ len - (suc (length xs) - suc skip) = omega arith in
    window-append xs ys skip len
    ∙ ap (λ (n : ℕ). window skip len xs ++ take (len - (length xs - skip)) (drop n ys)) on
    ∙ ap (λ (n : ℕ). window skip len xs ++ take n (drop (suc skip - suc (length xs)) ys)) left

-- of numbers in a row
pub window-range : (a n skip len : ℕ) → window skip len (range_with_len a n) ≡ range_with_len (a + skip) (min len (n - skip))
window-range a zero skip len =
    let none : 0 ≡ min len (0 - skip) = omega arith in window-none skip len ∙ ap (range_with_len (a + skip)) none
window-range a (suc n) zero zero =
    let none : 0 ≡ min 0 (suc n - 0) = omega arith in ap (range_with_len (a + 0)) none
window-range a (suc n) zero (suc len) =
    let same : a ≡ a + 0 = omega arith in
    let on : a + 1 + 0 ≡ a + 0 + 1 = omega arith in
    let count : suc (min len (n - 0)) ≡ min (suc len) (suc n - 0) = omega arith in
    ap (λ (xs : List ℕ). a ∷ xs) (window-range (a + 1) n zero len)
    ∙ ap (λ (b : ℕ). b ∷ range_with_len (a + 1 + 0) (min len (n - 0))) same
    ∙ ap (λ (b : ℕ). (a + 0) ∷ range_with_len b (min len (n - 0))) on
    ∙ ap (range_with_len (a + 0)) count
window-range a (suc n) (suc skip) len =
    let on : a + 1 + skip ≡ a + suc skip = omega arith in
    let count : min len (n - skip) ≡ min len (suc n - suc skip) = omega arith in
    window-range (a + 1) n skip len ∙ ap (λ (b : ℕ). range_with_len b (min len (n - skip))) on ∙ ap (range_with_len (a + suc skip)) count

take-replicate-min : {X : Type 0} (x : X) (len n : ℕ) → take len (replicate n x) ≡ replicate (min len n) x
take-replicate-min x zero n = let none : 0 ≡ min 0 n = omega arith in ap (λ (k : ℕ). replicate k x) none
take-replicate-min x (suc len) zero = let none : 0 ≡ min (suc len) 0 = omega arith in ap (λ (k : ℕ). replicate k x) none
take-replicate-min {X = X} x (suc len) (suc n) =
    let count : suc (min len n) ≡ min (suc len) (suc n) = omega arith in
    ap (λ (xs : List X). x ∷ xs) (take-replicate-min x len n) ∙ ap (λ (k : ℕ). replicate k x) count

-- of one value many times
pub window-replicate : {X : Type 0} (x : X) (n skip len : ℕ) → window skip len (replicate n x) ≡ replicate (min len (n - skip)) x
window-replicate x n skip len = ap (take len) (drop-replicate skip n x) ∙ take-replicate-min x len (n - skip)

-- of a list that something is made of
pub window-map : {X Y : Type 0} (f : X → Y) (skip len : ℕ) (xs : List X) → window skip len (map f xs) ≡ map f (window skip len xs)
window-map f skip len xs = ap (take len) (drop-map f skip xs) ∙ take-map f len (drop skip xs)

take-get : {X : Type 0} (xs : List X) (len k : ℕ) → k < len → slice_get (take len xs) k ≡ slice_get xs k
take-get xs zero k below = absurd (omega arith)
take-get [] (suc len) k below = refl
take-get (x ∷ xs) (suc len) zero below = refl
take-get (x ∷ xs) (suc len) (suc k) below = take-get xs len k (omega arith)

drop-get : {X : Type 0} (xs : List X) (skip k : ℕ) → slice_get (drop skip xs) k ≡ slice_get xs (skip + k)
drop-get xs zero k = let same : k ≡ zero + k = omega arith in ap (slice_get xs) same
drop-get [] (suc skip) k = let same : suc skip + k ≡ suc (skip + k) = omega arith in refl
drop-get (x ∷ xs) (suc skip) k =
    let same : suc (skip + k) ≡ suc skip + k = omega arith in drop-get xs skip k ∙ ap (slice_get (x ∷ xs)) same

pub window-get : {X : Type 0} (xs : List X) (skip len k : ℕ) → k < len → slice_get (window skip len xs) k ≡ slice_get xs (skip + k)
window-get xs skip len k below = take-get (drop skip xs) len k below ∙ drop-get xs skip k
