-- Two members of a list, at different places, of which one passes one test and the other another.
use Rattle.std.proofs.Common.{◌≡◌, ℕ, zero, suc, ◌⊎◌, inl, inr, Bool, true, false, ◌||◌, List, [], ◌∷◌, ◌++◌, flat_map, map}
use Rattle.std.proofs.Common.{slice_get, Some, refl, sym, ap, ◌∙◌, subst}
use Rattle.std.specs.List.{list_any}
use Rattle.nv_world_model.specs.SetUp.{any_two}
use Rattle.nv_laws.proofs.others.ShownTags.{any-behind, any-front}
use Rattle.nv_laws.proofs.related.Disciplines.{any-map, any-more}
use Rattle.nv_laws.proofs.related.Named.{any-at}

abbrev pub Pairs : {X : Type 0} → (p q : X → Bool) → List X → Type 0
Pairs p q [] = ⊥
Pairs p q (x ∷ xs) = ((p x ≡ true) × (list_any q xs ≡ true)) ⊎ (((q x ≡ true) × (list_any p xs ≡ true)) ⊎ Pairs p q xs)

-- ---- where they are

pub pairs-at : {X : Type 0} (p q : X → Bool) (xs : List X) (i j : ℕ) (x y : X) → slice_get xs i ≡ Some x → slice_get xs j ≡ Some y → (i ≡ j → ⊥)
    → p x ≡ true → q y ≡ true → Pairs p q xs
pairs-at p q [] i j x y here there apart one other = cc
pairs-at p q (z ∷ zs) zero zero x y here there apart one other = absurd (apart refl)
pairs-at p q (z ∷ zs) zero (suc j) x y here there apart one other = let same : z ≡ x = cc in inl (ap p same ∙ one, any-at q zs j y there other)
pairs-at p q (z ∷ zs) (suc i) zero x y here there apart one other = let same : z ≡ y = cc in inr (inl (ap q same ∙ other, any-at p zs i x here one))
pairs-at p q (z ∷ zs) (suc i) (suc j) x y here there apart one other =
    inr (inr (pairs-at p q zs i j x y here there (λ same. apart (ap suc same)) one other))

pub pairs-behind : {X : Type 0} (p q : X → Bool) (xs ys : List X) → Pairs p q ys → Pairs p q (xs ++ ys)
pairs-behind p q [] ys pair = pair
pairs-behind p q (x ∷ xs) ys pair = inr (inr (pairs-behind p q xs ys pair))

pub pairs-front : {X : Type 0} (p q : X → Bool) (xs ys : List X) → Pairs p q xs → Pairs p q (xs ++ ys)
pairs-front p q [] ys pair = absurd pair
pairs-front p q (x ∷ xs) ys (inl both) = inl (both.0, any-front q xs ys both.1)
pairs-front p q (x ∷ xs) ys (inr (inl both)) = inr (inl (both.0, any-front p xs ys both.1))
pairs-front p q (x ∷ xs) ys (inr (inr pair)) = inr (inr (pairs-front p q xs ys pair))

-- the one among the first, the other among those behind
pub pairs-split : {X : Type 0} (p q : X → Bool) (xs ys : List X) → list_any p xs ≡ true → list_any q ys ≡ true → Pairs p q (xs ++ ys)
pairs-split p q [] ys one other = cc
pairs-split p q (x ∷ xs) ys one other =
    (elim (p x) as (λ b. p x ≡ b → (b || list_any p xs) ≡ true → Pairs p q ((x ∷ xs) ++ ys)) [
      | true ↦ λ is any. inl (is, any-behind q xs ys other)
      | false ↦ λ is any. inr (inr (pairs-split p q xs ys any other))
    ]) refl one

pub pairs-turned : {X : Type 0} (p q : X → Bool) (xs : List X) → Pairs p q xs → Pairs q p xs
pairs-turned p q [] pair = pair
pairs-turned p q (x ∷ xs) (inl both) = inr (inl both)
pairs-turned p q (x ∷ xs) (inr (inl both)) = inl both
pairs-turned p q (x ∷ xs) (inr (inr pair)) = inr (inr (pairs-turned p q xs pair))

-- ---- in lists that are joined

pub any-flat : {X Y : Type 0} (p : Y → Bool) (f : X → List Y) (xs : List X) → list_any (λ x. list_any p (f x)) xs ≡ true → list_any p (flat_map f xs) ≡ true
any-flat p f [] e = e
any-flat p f (x ∷ xs) e =
    (elim (list_any p (f x)) as (λ b. list_any p (f x) ≡ b → (b || list_any (λ y. list_any p (f y)) xs) ≡ true → list_any p (f x ++ flat_map f xs) ≡ true) [
      | true ↦ λ is any. any-front p (f x) (flat_map f xs) is
      | false ↦ λ is any. any-behind p (f x) (flat_map f xs) (any-flat p f xs any)
    ]) refl e

pub pairs-flat : {X Y : Type 0} (p q : Y → Bool) (f : X → List Y) (xs : List X) → Pairs (λ x. list_any p (f x)) (λ x. list_any q (f x)) xs → Pairs p q (flat_map f xs)
pairs-flat p q f [] pair = pair
pairs-flat p q f (x ∷ xs) (inl both) = pairs-split p q (f x) (flat_map f xs) both.0 (any-flat q f xs both.1)
pairs-flat p q f (x ∷ xs) (inr (inl both)) =
    pairs-turned q p (f x ++ flat_map f xs) (pairs-split q p (f x) (flat_map f xs) both.0 (any-flat p f xs both.1))
pairs-flat p q f (x ∷ xs) (inr (inr pair)) = pairs-behind p q (f x) (flat_map f xs) (pairs-flat p q f xs pair)

-- two in what one member gives are two in what all give
pub pairs-within : {X Y : Type 0} (p q : Y → Bool) (f : X → List Y) (xs : List X) (i : ℕ) (x : X) → slice_get xs i ≡ Some x → Pairs p q (f x)
    → Pairs p q (flat_map f xs)
pairs-within p q f [] i x at pair = cc
pairs-within p q f (y ∷ ys) zero x at pair =
    let same : y ≡ x = cc in
    pairs-front p q (f y) (flat_map f ys) (subst (λ z. Pairs p q (f z)) (sym same) pair)
pairs-within p q f (y ∷ ys) (suc i) x at pair = pairs-behind p q (f y) (flat_map f ys) (pairs-within p q f ys i x at pair)

pub pairs-map : {X Y : Type 0} (p q : Y → Bool) (f : X → Y) (xs : List X) → Pairs (λ x. p (f x)) (λ x. q (f x)) xs → Pairs p q (map f xs)
pairs-map p q f [] pair = pair
pairs-map p q f (x ∷ xs) (inl both) = inl (both.0, any-map q f xs both.1)
pairs-map p q f (x ∷ xs) (inr (inl both)) = inr (inl (both.0, any-map p f xs both.1))
pairs-map p q f (x ∷ xs) (inr (inr pair)) = inr (inr (pairs-map p q f xs pair))

-- ---- where two such meet

pub or-later : (b c : Bool) → c ≡ true → (b || c) ≡ true
or-later true c e = refl
or-later false c e = e

pub pairs-meet : {X : Type 0} (p q : X → Bool) (r : X → X → Bool) (xs : List X)
    → ((x y : X) → p x ≡ true → q y ≡ true → (r x y ≡ true) × (r y x ≡ true)) → Pairs p q xs → any_two r xs ≡ true
pairs-meet p q r [] each pair = absurd pair
pairs-meet p q r (x ∷ xs) each (inl both) =
    ap (λ b. b || any_two r xs) (any-more q (r x) xs (λ y is. (each x y both.0 is).0) both.1)
pairs-meet p q r (x ∷ xs) each (inr (inl both)) =
    ap (λ b. b || any_two r xs) (any-more p (r x) xs (λ y is. (each y x is both.0).1) both.1)
pairs-meet p q r (x ∷ xs) each (inr (inr pair)) = or-later (list_any (r x) xs) (any_two r xs) (pairs-meet p q r xs each pair)
