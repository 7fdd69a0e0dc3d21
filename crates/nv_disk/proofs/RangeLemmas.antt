-- The same value in a row of a list's places.
use Rattle.std.proofs.Common.{◌≡◌, ℕ, zero, suc, ◌+◌, ◌≤◌, List, [], ◌∷◌, ◌++◌, length, map, replicate, set, take, drop, All, refl, sym, ap, ◌∙◌, arith}
use Rattle.std.proofs.lemmas.List.{append_assoc, drop-set-lt, length-set, map-set, take-append-drop, take_more_set}
use Rattle.std.proofs.lemmas.List.Elements.{All-set}
use Rattle.nv_disk.proofs.Ranged.{ranged}

-- one more of them
pub ranged-more : {X : Type 0} (xs : List X) (start left n : ℕ) (x : X) → left ≡ suc n → ranged (set xs start x) (start + 1) n x ≡ ranged xs start left x
unfolding ranged
ranged-more xs start left n x more = sym (ap (λ (k : ℕ). ranged xs start k x) more)

-- none of them
pub ranged-none : {X : Type 0} (xs : List X) (start left : ℕ) (x : X) → left ≡ 0 → ranged xs start left x ≡ xs
unfolding ranged
ranged-none xs start left x none = ap (λ (k : ℕ). ranged xs start k x) none

-- what stands where
pub ranged-is : {X : Type 0} (xs : List X) (start n : ℕ) (x : X) → start + n ≤ length xs → ranged xs start n x ≡ take start xs ++ (replicate n x ++ drop (start + n) xs)
unfolding ranged
ranged-is {X} xs start zero x within =
    let same : start + 0 ≡ start = omega arith in
    sym (ap (λ (k : ℕ). take start xs ++ drop k xs) same ∙ take-append-drop start xs)
ranged-is {X} xs start (suc n) x within =
    let size : length (set xs start x) ≡ length xs = length-set xs start x in
    let end : start + 1 + n ≡ start + suc n = omega arith in
    ranged-is (set xs start x) (start + 1) n x (omega arith)
    ∙ ap (λ (ys : List X). ys ++ (replicate n x ++ drop (start + 1 + n) (set xs start x))) (take_more_set xs start x (omega arith))
    ∙ ap (λ (ys : List X). (take start xs ++ x ∷ []) ++ (replicate n x ++ ys)) (drop-set-lt (start + 1 + n) xs start x (omega arith))
    ∙ append_assoc (take start xs) (x ∷ []) (replicate n x ++ drop (start + 1 + n) xs)
    ∙ ap (λ (k : ℕ). take start xs ++ (x ∷ (replicate n x ++ drop k xs))) end

-- as many as there were
pub length-ranged : {X : Type 0} (xs : List X) (start n : ℕ) (x : X) → length (ranged xs start n x) ≡ length xs
unfolding ranged
length-ranged xs start zero x = refl
length-ranged xs start (suc n) x = length-ranged (set xs start x) (start + 1) n x ∙ length-set xs start x

-- what a function makes of each
pub map-ranged : {X Y : Type 0} (f : X → Y) (xs : List X) (start n : ℕ) (x : X) → map f (ranged xs start n x) ≡ ranged (map f xs) start n (f x)
unfolding ranged
map-ranged {X} {Y} f xs start zero x = refl
map-ranged {X} {Y} f xs start (suc n) x =
    map-ranged f (set xs start x) (start + 1) n x ∙ ap (λ (ys : List Y). ranged ys (start + 1) n (f x)) (map-set f xs start x)

-- what holds of all and of that value holds of all behind it
pub All-ranged : {X : Type 0} (P : X → Type 0) (xs : List X) (start n : ℕ) (x : X) → All P xs → P x → All P (ranged xs start n x)
unfolding ranged
All-ranged P xs start zero x all one = all
All-ranged P xs start (suc n) x all one = All-ranged P (set xs start x) (start + 1) n x (All-set P xs start x one all) one
