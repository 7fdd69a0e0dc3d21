-- The same value in a row of a list's places.
use Rattle.std.specs.Prelude.{ℕ, zero, suc, ◌+◌, List, slice_set}

-- the list with this value in n places from that one on, put there one after another
unfoldable pub ranged : {X : Type 0} → (xs : List X) → (start n : ℕ) → X → List X
ranged xs start zero x = xs
ranged xs start (suc n) x = ranged (slice_set xs start x) (start + 1) n x
