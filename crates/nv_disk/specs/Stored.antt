-- Blocks that are stored in the order in which they were first written, and what is kept of each: its place among them, and whether it holds zeros.
use Rattle.std.specs.Prelude.{◌≡◌, ◌≢◌, ℕ, ◌-◌, ◌/◌, ◌%◌, ◌<◌, ◌≤◌, ◌^◌, ◌==◌}
use Rattle.std.specs.Prelude.{◌||◌, ◌⊎◌, Bool, not, nat_lt, cond, List, [], ◌∷◌, All, length, map, replicate}
use Rattle.std.specs.List.{count_by, slice_index_or}
use Rattle.nv_model.specs.Limits.{block as block_size}

-- the place of a block, from 1 on; 0 where it has none
abbrev pub place_of : ℕ → ℕ
place_of entry = entry / 2

-- whether a block holds zeros, whatever is stored at its place: it has none, or it was cleared
abbrev pub is_blank : ℕ → Bool
is_blank entry = nat_lt entry 2 || entry % 2 == 1

-- what a block holds
unfoldable pub shown : List (List ℕ) → ℕ → List ℕ
shown stored entry = cond (is_blank entry) (replicate block_size 0) (slice_index_or stored (place_of entry - 1) [])

-- the blocks of these entries
unfoldable pub blocks_of : List (List ℕ) → List ℕ → List (List ℕ)
blocks_of stored entries = map (shown stored) entries

-- the places of these entries
unfoldable pub places_of : List ℕ → List ℕ
places_of entries = map place_of entries

-- no two blocks have one place
unfoldable pub AreApart : List ℕ → Type 0
AreApart [] = Unit {0}
AreApart (place ∷ places) = ((place ≡ 0) ⊎ All (λ other. other ≢ place) places) × AreApart places

-- a block has a place
abbrev pub is_stored : ℕ → Bool
is_stored place = not (place == 0)

-- each place has a block's bytes, each block a place of its own or none, and there is room for the others
pub record IsStored (capacity : ℕ) (places : List ℕ) (stored : List (List ℕ)) : Type 0 where
  pub sized : All (λ block. length block ≡ block_size) stored
  pub there : All (λ place. place ≤ length stored) places
  pub apart : AreApart places
  pub counted : count_by is_stored places ≡ length stored
  pub room : length places ≤ capacity
  pub few : length places < 2 ^ 31
