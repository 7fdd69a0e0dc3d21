-- What a set-up that is not refused says of the guests' memory and blocks: each guest's map is sound, no two guests share a byte or a
-- block, none has a byte of the mediator's area, and area and blocks lie in the host and on the disk (profile).
use Rattle.std.specs.Prelude.{◌≡◌, ◌≢◌, ℕ, ◌+◌, ◌%◌, ◌^◌, ◌<◌, ◌≤◌, true, false, length, slice_get, Some, None}
use Rattle.std.specs.List.{Contains}
use Rattle.nv_mem.specs.GuestMap.{IsSound, guest_of}
use Rattle.nv_ns.specs.BlockRange.{Extent}
use Rattle.nv_ns.specs.Laws as laws
use Rattle.nv_ns.specs.Extents.{blocks_in, most_extents}
use Rattle.nv_model.specs.Limits.{page}
use Rattle.nv_world_model.specs.Area.{lane_start}
use Rattle.nv_world_model.specs.Geometry.{Geometry, Guest, regions_of}
use Rattle.nv_world_model.specs.SetUp.{host_limits, most_lanes}
use Rattle.nv_world_model.specs.View.{in_extents}

-- a guest's map is sound and made for this host; it has one to eight extents, with fewer than 2 to the 32 blocks; and each of its extents has blocks,
-- which are on the disk, and no block in common with another
pub record IsGiven (host_bytes disk_blocks : ℕ) (guest : Guest) : Type 0 where
  pub sound : IsSound guest.memory_map
  pub host : guest.memory_map.host_len ≡ host_bytes
  pub some : 0 < length guest.namespace
  pub few : length guest.namespace ≤ most_extents
  pub small : blocks_in guest.namespace < 2 ^ 32
  pub some_blocks : (extent : Extent) → Contains guest.namespace extent → 0 < extent.blocks
  pub on_disk : (extent : Extent) → Contains guest.namespace extent → extent.base + extent.blocks ≤ disk_blocks
  pub apart : laws.AreApart guest.namespace

-- two guests share no byte of the host, and no block of the disk
pub record AreApart (g h : Guest) : Type 0 where
  pub bytes : (at addr : ℕ) → guest_of (regions_of g) at ≡ Some addr → guest_of (regions_of h) at ≡ None
  pub blocks : (at : ℕ) → in_extents g.namespace at ≡ true → in_extents h.namespace at ≡ false

-- all of it, with so many lanes in a host of that length
pub record IsLaidOut (host_bytes lanes : ℕ) (geometry : Geometry) : Type 0 where
  pub few : host_bytes ≤ 2 ^ 64
  pub few_lanes : lanes ≤ most_lanes
  pub few_blocks : geometry.disk_blocks ≤ host_limits.disk_blocks
  pub pages : geometry.mediator % page ≡ 0
  pub area : lane_start geometry.mediator lanes ≤ host_bytes
  pub given : (number : ℕ) (guest : Guest) → slice_get geometry.guests number ≡ Some guest
      → IsGiven host_bytes geometry.disk_blocks guest
  pub apart : (number other : ℕ) (g h : Guest) → slice_get geometry.guests number ≡ Some g → slice_get geometry.guests other ≡ Some h
      → number ≢ other → AreApart g h
  pub outside : (number : ℕ) (guest : Guest) (at : ℕ) → slice_get geometry.guests number ≡ Some guest
      → geometry.mediator ≤ at → at < lane_start geometry.mediator lanes → guest_of (regions_of guest) at ≡ None
