-- How a map's code finds a region by guest address: by an order that it keeps beside the list. What a map means does not speak of it.
use Rattle.std.specs.Prelude.{◌≡◌, ℕ, ◌+◌, ◌<◌, ◌≤◌, List, length, slice_get, slice_index, option_map, unwrap_or}
use Rattle.nv_mem.specs.declared.region.Region.{Region}
use Rattle.nv_mem.specs.GuestMap.{Mapping, IsSound}

-- the guest address at which the region at a place of the list begins, or 0 where the list has no such place
abbrev pub begin_of : List Region → ℕ → ℕ
begin_of rs place = unwrap_or (option_map (λ r. r.guest) (slice_get rs place)) 0

-- the guest address at which the region of a rank begins, where `places` has the place in the list of each rank
abbrev pub ranked_begin : List Region → List ℕ → ℕ → ℕ
ranked_begin rs places rank = begin_of rs (slice_index places rank)

-- the most regions whose order is kept
abbrev pub ranks : ℕ
ranks = 64

-- as many places as there are regions name them all, the lowest guest address first
pub record IsGuestOrder (rs : List Region) (places : List ℕ) : Type 0 where
  pub within : (rank : ℕ) → rank < length rs → slice_index places rank < length rs
  pub complete : (place : ℕ) → place < length rs → (rank : ℕ) × (rank < length rs) × (slice_index places rank ≡ place)
  pub ascending : (j k : ℕ) → j ≤ k → k < length rs → ranked_begin rs places j ≤ ranked_begin rs places k

-- of `size` ranks from `rank` on, one is the last whose region begins at or before the address; it is the first rank where no region does
pub record IsWindow (begins : ℕ → ℕ) (count addr rank size : ℕ) : Type 0 where
  pub nonempty : 0 < size
  pub within : rank + size ≤ count
  pub begun : 0 < rank → begins rank ≤ addr
  pub later : (k : ℕ) → rank + size ≤ k → k < count → addr < begins k

-- a sound map, and its regions in order where there are no more than are kept in order
pub record IsKeptInOrder (m : Mapping) (places : List ℕ) : Type 0 where
  pub sound : IsSound m
  pub ordered : length m.regions ≤ ranks → IsGuestOrder m.regions places
