-- Marks by the number of flushes.
use Rattle.std.specs.Prelude.{ℕ, ◌+◌, ◌<◌, ◌≤◌, ◌^◌, Bool, List, All, map, nat_le}

-- the mark of a block that is kept from this flush on: whether there were so many
abbrev pub is_kept : (flushes since : ℕ) → Bool
is_kept flushes since = nat_le since flushes

-- the marks of blocks that are kept from these flushes on
unfoldable pub marks_of : (flushes : ℕ) → (since : List ℕ) → List Bool
marks_of flushes since = map (is_kept flushes) since

-- each block is kept from the next flush on at the latest, which can be counted
pub record IsCounted (flushes : ℕ) (since : List ℕ) : Type 0 where
  pub soon : All (λ at. at ≤ flushes + 1) since
  pub few : flushes + 1 < 2 ^ 32
