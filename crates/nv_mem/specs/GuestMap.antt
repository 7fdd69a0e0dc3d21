-- What a guest's memory map means. Guest memory maps are no part of NVM Express: they are the hypervisor's, so all of this file is profile.
use Rattle.std.specs.Prelude.{◌≡◌, ℕ, zero, suc, ◌+◌, ◌-◌, ◌%◌, ◌^◌, ◌<◌, ◌≤◌, Bool, true, false, ◌&&◌, nat_le, nat_lt, min, max}
use Rattle.std.specs.Prelude.{if◌then◌else◌, Option, Some, None, is_some, List, [], ◌∷◌, All, AllPairs}
use Rattle.std.specs.List.{list_any}
use Rattle.nv_mem.specs.Page.{page_size}
use Rattle.nv_mem.specs.declared.region.Region.{Region}

-- a guest's map as it was handed in: its regions in order, and the length of the host memory that it was made for
pub record Mapping : Type 0 where
  pub host_len : ℕ
  pub regions : List Region

-- ---- what a map means: a finite function from guest to host addresses

-- the guest address lies in the region
abbrev pub covers : Region → ℕ → Bool
covers r addr = nat_le r.guest addr && nat_lt addr (r.guest + r.len)

-- the host address lies in the region
abbrev pub covers_host : Region → ℕ → Bool
covers_host r host = nat_le r.host host && nat_lt host (r.host + r.len)

-- the host address of a guest address, or none where it is not mapped
abbrev pub host_of : List Region → ℕ → Option ℕ
host_of [] addr = None
host_of (r ∷ rs) addr = if covers r addr then Some (r.host + (addr - r.guest)) else host_of rs addr

-- the guest address has a host address
abbrev pub mapped : List Region → ℕ → Bool
mapped rs addr = is_some (host_of rs addr)

-- the guest address that lies at a host address, or none where no region has it
abbrev pub guest_of : List Region → ℕ → Option ℕ
guest_of [] host = None
guest_of (r ∷ rs) host = if covers_host r host then Some (r.guest + (host - r.host)) else guest_of rs host

-- the test holds of each of the `len` addresses from `addr` on
unfoldable pub everywhere : (ℕ → Bool) → ℕ → ℕ → Bool
everywhere test addr zero = true
everywhere test addr (suc n) = test (addr + n) && everywhere test addr n

-- each of the `len` addresses from `addr` on is mapped; no address is always that
abbrev pub all_mapped : List Region → ℕ → ℕ → Bool
all_mapped rs addr len = everywhere (mapped rs) addr len

-- ---- which lists of regions are a map

-- the region is made of whole pages, at least one
pub record IsPaged (r : Region) : Type 0 where
  pub guest : r.guest % page_size ≡ 0
  pub host : r.host % page_size ≡ 0
  pub len : r.len % page_size ≡ 0
  pub nonempty : 0 < r.len

-- the regions share no guest address and no host address
pub record IsApart (r s : Region) : Type 0 where
  pub guest : (addr : ℕ) → covers r addr ≡ true → covers s addr ≡ false
  pub host : (host : ℕ) → covers_host r host ≡ true → covers_host s host ≡ false

-- the region lies in a host of that length and in the 64 bits of a guest's addresses
pub record IsInside (host_len : ℕ) (r : Region) : Type 0 where
  pub host : r.host + r.len ≤ host_len
  pub guest : r.guest + r.len ≤ 2 ^ 64

-- the regions are a map into a host of that length
pub record IsSound (m : Mapping) : Type 0 where
  pub paged : All IsPaged m.regions
  pub apart : AllPairs IsApart m.regions
  pub inside : All (IsInside m.host_len) m.regions

-- ---- maps beside each other

-- whether `m` addresses from `a` on and `n` from `b` on have one in common: the later start is before the earlier end
abbrev pub spans_meet : ℕ → ℕ → ℕ → ℕ → Bool
spans_meet a m b n = nat_lt (max a b) (min (a + m) (b + n))

-- whether some region has one of the `len` host addresses from `host` on
abbrev pub span_met : List Region → ℕ → ℕ → Bool
span_met rs host len = list_any (λ r. spans_meet r.host r.len host len) rs

-- whether the two maps' regions have a host address in common
abbrev pub hosts_meet : List Region → List Region → Bool
hosts_meet rs ss = list_any (λ s. span_met rs s.host s.len) ss
