-- When a guest's private controller and the world agree: what the guest can observe is the same in both (profile).
use Rattle.std.specs.Prelude.{◌≡◌, ℕ, ◌<◌, Bool, true, false, ◌&&◌, slice_get, Some}
use Rattle.std.specs.List.{list_any}
use Rattle.nv_mem.specs.GuestMap.{mapped}
use Rattle.nv_model.specs.Footprint.{io_named, is_destination, names}
use Rattle.nv_model.specs.Memory.{image}
use Rattle.nv_model.specs.Private.{Private}
use Rattle.nv_ns.specs.Extents.{blocks_in, place_in}
use Rattle.nv_world_model.specs.Disciplined.{taken_entries}
use Rattle.nv_world_model.specs.Geometry.{Guest, regions_of, shape_of}
use Rattle.nv_world_model.specs.World.{World}

-- whether an address is in the destination of a Read that is taken, and neither completed nor run out: when its bytes
-- get there is open until then
abbrev pub is_awaited : (number : ℕ) → Guest → World → (addr : ℕ) → Bool
is_awaited number guest w addr =
    list_any (λ entry.
    list_any (λ n. is_destination n && names n addr)
    (io_named (shape_of guest) (image (regions_of guest) w.host) entry)) (taken_entries number w)

-- registers and queues, memory but for what is awaited, and the blocks with their marks
pub record Agrees (number : ℕ) (guest : Guest) (w : World) (p : Private) : Type 0 where
  pub controller : slice_get w.controllers number ≡ Some p.controller
  pub memory : (addr : ℕ) → mapped (regions_of guest) addr ≡ true → is_awaited number guest w addr ≡ false
      → p.memory addr ≡ image (regions_of guest) w.host addr
  pub blocks : (lba offset : ℕ) → lba < blocks_in guest.namespace
      → p.disk lba offset ≡ w.disk (place_in guest.namespace lba) offset
  pub marks : (lba : ℕ) → lba < blocks_in guest.namespace → p.kept lba ≡ w.kept (place_in guest.namespace lba)
