-- Lists that are compared item by item.
use Rattle.std.proofs.Common.{◌≡◌, Bool, true, ◌&&◌, List, [], ◌∷◌, refl, sym, ap, ◌∙◌}
use Rattle.nv_model.proofs.Endings.{and-true}
use lib.Pointwise.{pointwise}

-- what their items are, they are
items-same : {K : Type 0} (E : K → K → Bool) → ((x y : K) → E x y ≡ true → x ≡ y) → (xs ys : List K) → pointwise E xs ys ≡ true → xs ≡ ys
items-same E same [] [] e = refl
items-same E same [] (y ∷ ys) e = cc
items-same E same (x ∷ xs) [] e = cc
items-same E same (x ∷ xs) (y ∷ ys) e =
    let both = and-true (E x y) (pointwise E xs ys) e in
    let one = same x y both.0 in
    let more = items-same E same xs ys both.1 in
    cc

items-own : {K : Type 0} (E : K → K → Bool) → ((x : K) → E x x ≡ true) → (xs : List K) → pointwise E xs xs ≡ true
items-own E own [] = refl
items-own E own (x ∷ xs) = ap (λ (b : Bool). b && pointwise E xs xs) (own x) ∙ items-own E own xs

pub decided : {K : Type 0} {E : K → K → Bool} (xs ys : List K) (r : Bool) → r ≡ pointwise E xs ys → ((x y : K) → E x y ≡ true → x ≡ y) → ((x : K) → E x x ≡ true)
    → (r ≡ true → xs ≡ ys) × (xs ≡ ys → r ≡ true)
decided {E = E} xs ys r is same own =
    (λ e. items-same E same xs ys (sym is ∙ e), λ e. is ∙ ap (λ (zs : List _). pointwise E xs zs) (sym e) ∙ items-own E own xs)
