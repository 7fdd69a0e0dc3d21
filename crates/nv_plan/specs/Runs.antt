-- Words of private functions: the runs that a list is cut into, by where each ends.
use Rattle.std.specs.Prelude.{◌≡◌, ℕ, ◌≤◌, zero, suc, List, [], ◌∷◌, slice_range}

-- what lies in a list from a place on, up to the first end; then on to the next
abbrev pub runs : {X : Type 0} → List X → (from : ℕ) → (ends : List ℕ) → List (List X)
runs items from [] = []
runs items from (end ∷ ends) = slice_range items from end ∷ runs items end ends

-- no end lies before the one in front of it, and the last is that of the list
abbrev pub AreEnds : (from : ℕ) → (ends : List ℕ) → (to : ℕ) → Type 0
AreEnds from [] to = from ≡ to
AreEnds from (end ∷ ends) to = (from ≤ end) × AreEnds end ends to

-- where the run of this number begins
abbrev pub begin_of : (from : ℕ) → (ends : List ℕ) → (part : ℕ) → ℕ
begin_of from ends zero = from
begin_of from [] (suc part) = from
begin_of from (end ∷ ends) (suc part) = begin_of end ends part
