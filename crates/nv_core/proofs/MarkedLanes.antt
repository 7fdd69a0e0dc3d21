-- Whether a row of tags has any, by its first.
use Rattle.std.proofs.Common.{◌≡◌, ◌∙◌, ◌∷◌, ℕ, List, [], Option, None, Some, MatchOption, is_some, length, nat_lt, arith, ap}
use Rattle.std.proofs.lemmas.Bool.{lt-ltb}

-- there are some where there was a first
pub found : (first : Option ℕ) (all left : List ℕ) → MatchOption first (all ≡ []) (λ t. all ≡ t ∷ left) → nat_lt 0 (length all) ≡ is_some first
found None all left none = ap (λ (xs : List ℕ). nat_lt 0 (length xs)) none
found (Some t) all left some = ap (λ (xs : List ℕ). nat_lt 0 (length xs)) some ∙ lt-ltb 0 (length (t ∷ left)) (omega arith)
