-- A list that is cut into runs, by where each ends.
use Rattle.std.proofs.Common.{◌≡◌, ℕ, zero, suc, ◌+◌, ◌-◌, ◌≤◌, List, [], ◌∷◌, ◌++◌, Option, Some, None, drop, length, slice_get, take}
use Rattle.std.proofs.Common.{refl, ap, ◌∙◌, arith}
use Rattle.std.specs.List.{slice_range}
use Rattle.std.specs.Option.{option_map}
use Rattle.std.proofs.Math.Seq.{drop-append_seam, take-suc}
use Rattle.std.proofs.lemmas.List.{drop-append-le, length-append, length-drop, take-append-le, take_all}
use Rattle.std.proofs.lemmas.Option.{get_or_from_slice_get, slice_get_within}
use Rattle.nv_plan.specs.Runs.{AreEnds, begin_of, runs}

-- ---- one of them

pub run-at : {X : Type 0} (items : List X) (from : ℕ) (ends : List ℕ) (k end : ℕ) → slice_get ends k ≡ Some end
    → slice_get (runs items from ends) k ≡ Some (slice_range items (begin_of from ends k) end)
run-at items from [] k end is = absurd (cc)
run-at {X = X} items from (e ∷ ends) zero end is = ap (λ (o : Option ℕ). option_map (slice_range items from) o) is
run-at items from (e ∷ ends) (suc k) end is = run-at items e ends k end is

-- it begins where the one in front of it ends
pub begin-behind : (from : ℕ) (ends : List ℕ) (k begin : ℕ) → slice_get ends k ≡ Some begin → begin_of from ends (suc k) ≡ begin
begin-behind from [] k begin is = absurd (cc)
begin-behind from (e ∷ ends) zero begin is = ap (λ (o : Option ℕ). option_or o) is
  where
    option_or : Option ℕ → ℕ
    option_or None = 0
    option_or (Some n) = n
begin-behind from (e ∷ ends) (suc k) begin is = begin-behind e ends k begin is

pub length-runs : {X : Type 0} (items : List X) (from : ℕ) (ends : List ℕ) → length (runs items from ends) ≡ length ends
length-runs items from [] = refl
length-runs items from (end ∷ ends) = ap (λ (n : ℕ). suc n) (length-runs items end ends)

-- an end lies within the list, and behind the one in front of it
pub end-within : (from : ℕ) (ends : List ℕ) (to k end : ℕ) → AreEnds from ends to → slice_get ends k ≡ Some end → (from ≤ end) × (end ≤ to)
end-within from [] to k end are is = absurd (cc)
end-within from (e ∷ ends) to zero end are is =
    let same : e ≡ end = cc in
    let low = are.0 in
    let high = reaches e ends to are.1 in
    (omega arith, omega arith)
  where
    reaches : (from : ℕ) (ends : List ℕ) (to : ℕ) → AreEnds from ends to → from ≤ to
    reaches from [] to are = omega arith
    reaches from (e ∷ ends) to are = let low = are.0 in let on = reaches e ends to are.1 in omega arith
end-within from (e ∷ ends) to (suc k) end are is =
    let low = are.0 in
    let on = end-within e ends to k end are.1 is in
    let behind = on.0 in
    let within = on.1 in
    (omega arith, omega arith)

-- it ends behind where it begins
pub begin-order : (from : ℕ) (ends : List ℕ) (to k end : ℕ) → AreEnds from ends to → slice_get ends k ≡ Some end → begin_of from ends k ≤ end
begin-order from [] to k end are is = absurd (cc)
begin-order from (e ∷ ends) to zero end are is = (end-within from (e ∷ ends) to 0 end are is).0
begin-order from (e ∷ ends) to (suc k) end are is = begin-order e ends to k end are.1 is

-- ---- one more

pub AreEnds-more : (from : ℕ) (ends : List ℕ) (to next : ℕ) → AreEnds from ends to → to ≤ next → AreEnds from (ends ++ next ∷ []) next
AreEnds-more from [] to next are grown = (omega arith, refl)
AreEnds-more from (e ∷ ends) to next are grown = (are.0, AreEnds-more e ends to next are.1 grown)

range-front : {X : Type 0} (items more : List X) (from to : ℕ) → from ≤ to → to ≤ length items
    → slice_range (items ++ more) from to ≡ slice_range items from to
range-front {X = X} items more from to order within =
    let len = length-drop from items in
    ap (λ (xs : List X). take (to - from) xs) (drop-append-le from items more (omega arith))
    ∙ take-append-le (to - from) (drop from items) more (omega arith)

range-behind : {X : Type 0} (items more : List X) (from : ℕ) → from ≡ length items
    → slice_range (items ++ more) from (length (items ++ more)) ≡ more
range-behind {X = X} items more from is =
    let len = length-append items more in
    ap (λ (xs : List X). take (length (items ++ more) - from) xs) (ap (λ (n : ℕ). drop n (items ++ more)) is ∙ drop-append_seam items more)
    ∙ take_all (length (items ++ more) - from) more (omega arith)

-- a list that grows by a run
pub runs-more : {X : Type 0} (items more : List X) (from : ℕ) (ends : List ℕ) → AreEnds from ends (length items)
    → runs (items ++ more) from (ends ++ length (items ++ more) ∷ []) ≡ runs items from ends ++ more ∷ []
runs-more {X = X} items more from [] are = ap (λ (xs : List X). xs ∷ []) (range-behind items more from are)
runs-more {X = X} items more from (e ∷ ends) are =
    let high = (end-within from (e ∷ ends) (length items) 0 e are refl).1 in
    ap (λ (xs : List X). xs ∷ runs (items ++ more) e (ends ++ length (items ++ more) ∷ [])) (range-front items more from e are.0 high)
    ∙ ap (λ (rest : List (List X)). slice_range items from e ∷ rest) (runs-more items more e ends are.1)

-- the front of a list that goes one further
pub take-next : {X : Type 0} (xs : List X) (k : ℕ) (x : X) → slice_get xs k ≡ Some x → take (k + 1) xs ≡ take k xs ++ x ∷ []
take-next {X = X} xs k x is =
    let within = slice_get_within xs k x is in
    let next : k + 1 ≡ suc k = omega arith in
    ap (λ (n : ℕ). take n xs) next ∙ take-suc xs k x within ∙ ap (λ (y : X). take k xs ++ y ∷ []) (get_or_from_slice_get xs k x x is)
