-- An output that grows, and the digits of bytes in parts
use Rattle.std.proofs.Common.{◌≡◌, ℕ, List, [], ◌∷◌, ◌++◌, Option, Some, None, Result, Ok, Err, OnOk, refl, sym, ap, ◌∙◌, append_assoc}
use Rattle.std.proofs.lemmas.List.{append-nil}
use Rattle.std.specs.Io.KnownBytes.{Appends, Keeps, append_known}
use Rattle.hex.specs.Hex.{encode_with}

-- nothing is printed
pub Appends-nothing : (u : Option (List ℕ)) → Appends u u []
Appends-nothing None = tt
Appends-nothing (Some xs) = sym (append-nil xs)

-- one text is printed behind another
pub Appends-then : (u v w : Option (List ℕ)) (xs ys : List ℕ) → Appends u v xs → Appends v w ys → Appends u w (xs ++ ys)
Appends-then None v w xs ys x y = tt
Appends-then (Some us) None w xs ys x y = absurd x
Appends-then (Some us) (Some vs) None xs ys x y = absurd y
Appends-then (Some us) (Some vs) (Some ws) xs ys x y = y ∙ ap (λ (t : List ℕ). t ++ ys) x ∙ append_assoc us xs ys

-- what is printed last
pub Appends-last : {E : Type 0} → (u v w : Option (List ℕ)) (xs ys : List ℕ) (r : Result (Unit {0}) E)
    → Appends u v xs → OnOk r (Appends v w ys) → OnOk r (Appends u w (xs ++ ys))
Appends-last u v w xs ys (Ok x) before last = Appends-then u v w xs ys before last
Appends-last u v w xs ys (Err e) before last = tt

-- what was printed is kept
pub Appends-kept : (u v w : Option (List ℕ)) (xs : List ℕ) → Appends u v xs → Keeps v w → Appends u w xs
Appends-kept None v w xs x y = tt
Appends-kept (Some us) None w xs x y = absurd x
Appends-kept (Some us) (Some vs) None xs x y = absurd y
Appends-kept (Some us) (Some vs) (Some ws) xs x y = y ∙ x

-- and kept again
pub Keeps-then : (u v w : Option (List ℕ)) → Keeps u v → Keeps v w → Keeps u w
Keeps-then None v w x y = tt
Keeps-then (Some us) None w x y = absurd x
Keeps-then (Some us) (Some vs) None x y = absurd y
Keeps-then (Some us) (Some vs) (Some ws) x y = y ∙ x

-- what a writer holds behind an empty buffer
pub append_known-nothing : (u : Option (List ℕ)) → append_known u [] ≡ u
append_known-nothing None = refl
append_known-nothing (Some us) = ap Some (append-nil us)

-- the digits of bytes are those of their parts
pub encode_with-append : (t xs ys : List ℕ) → encode_with t (xs ++ ys) ≡ encode_with t xs ++ encode_with t ys
unfolding encode_with
encode_with-append t [] ys = refl
encode_with-append t (x ∷ xs) ys = rw (encode_with-append t xs ys) refl
