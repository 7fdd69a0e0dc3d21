-- How a worker's count goes along with the log (profile).
use Rattle.std.specs.Prelude.{◌≡◌, ℕ, ◌+◌, ◌<◌, List, length}
use Rattle.nv_world_model.specs.declared.logged.Logged.{Logged}

-- the most that is counted
abbrev pub most_events : ℕ
most_events = 18446744073709551615

-- a count grew by as much as the log did, unless it was the most that is counted
abbrev pub HasCounted : (before : ℕ) → (old : List Logged) → (after : ℕ) → (new : List Logged) → Type 0
HasCounted before old after new = before < most_events → after + length old ≡ before + length new
