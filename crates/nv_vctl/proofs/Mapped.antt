-- A list whose elements are what a function gives for those of another list.
use Rattle.std.proofs.Common.{◌≡◌, ℕ, suc, ◌<◌, List, [], ◌∷◌, length, map, slice_index_or, arith, refl, ap, ◌∙◌}

pub mapped : {A C B : Type 0} (now : A → C) (f : C → B) (xs : List A) (ys : List B) (e : B) → length ys ≡ length xs
    → ((i : ℕ) (d : A) → i < length xs → slice_index_or ys i e ≡ f (now (slice_index_or xs i d))) → ys ≡ map f (map now xs)
mapped now f [] [] e long each = refl
mapped now f [] (y ∷ ys) e long each = absurd (omega (arith, long))
mapped now f (x ∷ xs) [] e long each = absurd (omega (arith, long))
mapped now f (x ∷ xs) (y ∷ ys) e long each =
    ap (λ z. z ∷ ys) (each 0 x (omega arith))
    ∙ ap (λ zs. f (now x) ∷ zs) (mapped now f xs ys e (omega (arith, long)) (λ i d below. each (suc i) d (omega (arith, below))))
