-- Numbers of units that are left, as marks
use Rattle.std.specs.Prelude.{◌≡◌, ℕ, ◌+◌, ◌<◌, Bool, true, false, if◌then◌else◌, List, [], ◌∷◌, Option, Some, None}

-- the numbers whose marks are set, counted from `from` on
unfoldable pub numbers_marked : (from : ℕ) → List Bool → List ℕ
numbers_marked from [] = []
numbers_marked from (mark ∷ marks) =
    if mark then from ∷ numbers_marked (from + 1) marks else numbers_marked (from + 1) marks

-- the lowest number that passes a test, where one does
abbrev pub IsLowest : (test : ℕ → Bool) → Option ℕ → Type 0
IsLowest test None = (k : ℕ) → test k ≡ false
IsLowest test (Some number) = (test number ≡ true) × ((k : ℕ) → k < number → test k ≡ false)
