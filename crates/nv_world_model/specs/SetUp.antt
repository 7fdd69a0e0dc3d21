-- Which set-ups make a world (profile): guests whose blocks and memory are apart, within the project's limits.
use Rattle.std.specs.Prelude.{ℕ, ◌+◌, ◌*◌, ◌%◌, ◌^◌, Bool, false, not, ◌&&◌, ◌||◌, ◌==◌, nat_le, nat_lt, if◌then◌else◌, List, [], ◌∷◌, flat_map, length, Option, Some, None}
use Rattle.std.specs.List.{list_all, list_any}
use Rattle.nv_mem.specs.GuestMap.{hosts_meet, span_met, spans_meet}
use Rattle.nv_ns.specs.BlockRange.{Extent}
use Rattle.nv_ns.specs.Extents.{blocks_in, most_extents}
use Rattle.nv_model.specs.Limits.{page}
use Rattle.nv_world_model.specs.Area.{lane_pages}
use Rattle.nv_world_model.specs.Geometry.{Geometry, Guest, regions_of}
use Rattle.nv_world_model.specs.World.{World, opening_world}

-- a set-up: the sizes of the host's memory and of the lanes, beside what stays as it is
pub record SetUp : Type 0 where
  pub host_bytes : ℕ
  pub lanes : ℕ
  pub geometry : Geometry

-- why a set-up is refused
pub data Refusal : Type 0 where
  TooManyGuests : Refusal
  ExtentsMeet : Refusal
  MapsMeet : Refusal
  BadSize : Refusal

-- ---- limits

abbrev pub most_guests : ℕ
most_guests = 16

abbrev pub most_regions : ℕ
most_regions = 64

abbrev pub most_lanes : ℕ
most_lanes = 8

-- the most bytes of a host's memory, and the most blocks of a disk
pub record Limits : Type 0 where
  pub host_bytes : ℕ
  pub disk_blocks : ℕ

-- those of scripts, whose memory and disk are made for them
abbrev pub script_limits : Limits
script_limits = record { host_bytes = 1073741824; disk_blocks = 2097152 }

-- those of a host that has memory and a drive of its own
abbrev pub host_limits : Limits
host_limits = record { host_bytes = 2 ^ 47; disk_blocks = 2 ^ 48 }

-- the most blocks of a guest's namespace: as many as the 32 bits of a range of Dataset Management can name
abbrev pub most_namespace_blocks : ℕ
most_namespace_blocks = 4294967295

-- the most descriptors of a list that a guest may be given
abbrev pub most_limit : ℕ
most_limit = 4096

-- ---- the checks

-- whether some two of these meet
abbrev pub any_two : {A : Type 0} → (A → A → Bool) → List A → Bool
any_two meet [] = false
any_two meet (x ∷ xs) = list_any (meet x) xs || any_two meet xs

-- the extents of all guests
abbrev pub all_extents : List Guest → List Extent
all_extents guests = flat_map (λ g. g.namespace) guests

-- whether two extents have a block in common
abbrev pub blocks_meet : Extent → Extent → Bool
blocks_meet e f = spans_meet e.base e.blocks f.base f.blocks

-- whether two guests have a byte of the host in common
abbrev pub maps_meet : Guest → Guest → Bool
maps_meet g h = hosts_meet (regions_of g) (regions_of h)

-- the bytes of the mediator's area
abbrev pub area_bytes : SetUp → ℕ
area_bytes s = page * (lane_pages * s.lanes)

-- whether a guest's memory and the mediator's area have a byte in common
abbrev pub meets_area : SetUp → Guest → Bool
meets_area s g = span_met (regions_of g) s.geometry.mediator (area_bytes s)

-- whether a number lies between these two
abbrev pub between : (low high number : ℕ) → Bool
between low high number = nat_le low number && nat_le number high

-- whether the host and the mediator's area in it have a size that may be
abbrev pub host_fits : Limits → SetUp → Bool
host_fits limits s =
    s.host_bytes % page == 0 && between page limits.host_bytes s.host_bytes && between 1 most_lanes s.lanes
    && s.geometry.mediator % page == 0 && nat_le (s.geometry.mediator + area_bytes s) s.host_bytes

-- whether an extent has at least one block, all on the disk
abbrev pub extent_fits : SetUp → Extent → Bool
extent_fits s e = nat_le 1 e.blocks && nat_le (e.base + e.blocks) s.geometry.disk_blocks

-- whether a guest has a map that was made for this host, of not too many regions, extents that fit, as many as a
-- namespace may have, and a limit that may be
abbrev pub guest_fits : SetUp → Guest → Bool
guest_fits s g =
    g.memory_map.host_len == s.host_bytes && nat_le (length (regions_of g)) most_regions
    && between 1 most_extents (length g.namespace) && list_all (extent_fits s) g.namespace
    && between 1 most_limit g.limit

-- whether a guest's namespace may have as many blocks as it has
abbrev pub namespace_fits : Guest → Bool
namespace_fits g = nat_le (blocks_in g.namespace) most_namespace_blocks

-- whether all sizes may be
abbrev pub sizes_fit : Limits → SetUp → Bool
sizes_fit limits s =
    host_fits limits s && between 1 limits.disk_blocks s.geometry.disk_blocks && list_all (guest_fits s) s.geometry.guests
    && list_all namespace_fits s.geometry.guests

-- the first reason that applies within these limits, or none
abbrev pub refusal_within : Limits → SetUp → Option Refusal
refusal_within limits s =
    if nat_lt most_guests (length s.geometry.guests) then Some TooManyGuests else
    if any_two blocks_meet (all_extents s.geometry.guests) then Some ExtentsMeet else
    if any_two maps_meet s.geometry.guests || list_any (meets_area s) s.geometry.guests then Some MapsMeet else
    if not (sizes_fit limits s) then Some BadSize else None

-- of a script's set-up
unfoldable pub refusal_of : SetUp → Option Refusal
refusal_of s = refusal_within script_limits s

-- of a host's
unfoldable pub host_refusal_of : SetUp → Option Refusal
host_refusal_of s = refusal_within host_limits s

-- the world that a script's set-up makes: bytes and blocks are zero
abbrev pub world_at_start : SetUp → World
world_at_start s = opening_world (λ _. 0) (λ _ _. 0) s.geometry s.lanes
