-- What the tables of a set-up say: C's regions and extents of all guests, and what each guest is given by them.
use Rattle.std.specs.Prelude.{ℕ, ◌+◌, ◌==◌, Bool, true, false, List, [], ◌∷◌, flat_map}
use Rattle.nv_c.specs.declared.setup.GuestExtent.{GuestExtent}
use Rattle.nv_c.specs.declared.setup.Region.{Region}
use Rattle.nv_c.specs.declared.setup.Sizes.{Sizes}
use Rattle.nv_mem.specs.declared.region.Region as mem
use Rattle.nv_ns.specs.BlockRange as ns
use Rattle.nv_world_model.specs.Geometry.{Guest}
use Rattle.nv_world_model.specs.SetUp.{SetUp}

-- a region, where it is the guest's of that number
abbrev pub if_own : {A : Type 0} → Bool → A → List A
if_own true x = x ∷ []
if_own false x = []

abbrev pub own_region : ℕ → Region → List mem.Region
own_region guest r = if_own (r.guest == guest) (record { guest = r.address; host = r.host; len = r.bytes })

abbrev pub own_extent : ℕ → GuestExtent → List ns.Extent
own_extent guest e = if_own (e.guest == guest) (record { base = e.base; blocks = e.blocks })

-- those of the guest of that number, in order
unfoldable pub regions_of : ℕ → List Region → List mem.Region
regions_of guest regions = flat_map (own_region guest) regions

unfoldable pub extents_of : ℕ → List GuestExtent → List ns.Extent
extents_of guest extents = flat_map (own_extent guest) extents

-- what a guest is given, with that limit
abbrev pub given : (host_bytes : ℕ) → List Region → List GuestExtent → (guest limit : ℕ) → Guest
given host_bytes regions extents guest limit =
    record { memory_map = record { host_len = host_bytes; regions = regions_of guest regions }; namespace = extents_of guest extents; limit = limit }

-- what the guests are given from that number on, one for each limit
unfoldable pub all_given : (host_bytes : ℕ) → List Region → List GuestExtent → (from : ℕ) → List ℕ → List Guest
all_given host_bytes regions extents from [] = []
all_given host_bytes regions extents from (limit ∷ limits) =
    given host_bytes regions extents from limit ∷ all_given host_bytes regions extents (from + 1) limits

-- the set-up that they make
abbrev pub setup_of : Sizes → List ℕ → List Region → List GuestExtent → SetUp
setup_of sizes limits regions extents = record {
  host_bytes = sizes.host_bytes;
  lanes = sizes.lanes;
  geometry = record {
    mediator = sizes.mediator;
    disk_blocks = sizes.disk_blocks;
    guests = all_given sizes.host_bytes regions extents 0 limits;
  };
}
