-- A list whose elements are what a function gives for those of another list.
use Rattle.std.proofs.Common.{◌≡◌, ℕ, suc, ◌<◌, List, [], ◌∷◌, length, map, slice_index_or, arith, refl, ap, ◌∙◌}

pub mapped-to : {A B : Type 0} (f : A → B) (xs : List A) (ys : List B) (e : B) → length ys ≡ length xs
    → ((i : ℕ) (d : A) → i < length xs → slice_index_or ys i e ≡ f (slice_index_or xs i d)) → ys ≡ map f xs
mapped-to f [] [] e long each = refl
mapped-to f [] (y ∷ ys) e long each = absurd (omega (arith, long))
mapped-to f (x ∷ xs) [] e long each = absurd (omega (arith, long))
mapped-to f (x ∷ xs) (y ∷ ys) e long each =
    ap (λ z. z ∷ ys) (each 0 x (omega arith))
    ∙ ap (λ zs. f x ∷ zs) (mapped-to f xs ys e (omega (arith, long)) (λ i d below. each (suc i) d (omega (arith, below))))
