-- Words of what a map is asked for: addresses that are mapped, that lie in a row, and how many do (profile)
use Rattle.std.specs.Prelude.{◌≡◌, ◌≢◌, ℕ, ◌+◌, ◌-◌, ◌<◌, ◌≤◌, min, max, IsTrue, Some, List, sum_by}
use Rattle.nv_mem.specs.declared.region.Region.{Region}
use Rattle.nv_mem.specs.GuestMap.{host_of, mapped}

-- `all_mapped`, as a proposition: each of the `len` addresses from `addr` on is mapped
abbrev pub AllMapped : List Region → ℕ → ℕ → Type 0
AllMapped rs addr len = (i : ℕ) → i < len → IsTrue (mapped rs (addr + i))

-- the `n` addresses from `addr` on, at least one, lie in a row from `host` on
pub record IsContiguous (rs : List Region) (addr host n : ℕ) : Type 0 where
  pub nonempty : 0 < n
  pub contiguous : (i : ℕ) → i < n → host_of rs (addr + i) ≡ Some (host + i)

-- the first `n` of the `len` addresses from `addr` on lie in a row from `host` on, and no longer front does
pub record IsLongestRun (rs : List Region) (addr len host n : ℕ) : Type 0 where
  pub run : IsContiguous rs addr host n
  pub within : n ≤ len
  pub longest : n < len → host_of rs (addr + n) ≢ Some (host + n)

-- how many of the `len` addresses from `addr` on lie in the region
abbrev pub overlap : Region → ℕ → ℕ → ℕ
overlap r addr len = min (r.guest + r.len) (addr + len) - max r.guest addr

-- how many of the `len` addresses from `addr` on lie in the regions, taken together
unfoldable pub covered_of : List Region → ℕ → ℕ → ℕ
covered_of rs addr len = sum_by (λ r. overlap r addr len) rs

-- some guest address of the map is at this host address
abbrev pub InImage : List Region → ℕ → Type 0
InImage rs host = (addr : ℕ) × (host_of rs addr ≡ Some host)
