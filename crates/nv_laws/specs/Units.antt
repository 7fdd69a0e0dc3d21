-- What a unit of a share of a guest's command in the device is to its private controller: the units of the command that the device's unit
-- represents, and where a block's bytes are in the host; and when the guest's own blocks are those of the disk (profile).
use Rattle.std.specs.Prelude.{◌≡◌, ℕ, ◌*◌, ◌<◌, ◌==◌, not, Bool, List, [], ◌∷◌, drop, filter, flat_map, length, map}
use Rattle.std.specs.Prelude.{option_to_list, slice_get, take, Some}
use Rattle.std.specs.List.{list_any}
use Rattle.nv_mem.specs.Places.{At, Place}
use Rattle.nv_model.specs.Judge.{Work, WorkUnit}
use Rattle.nv_model.specs.Limits.{block}
use Rattle.nv_model.specs.Memory.{scattered}
use Rattle.nv_model.specs.Private.{Moved, Private}
use Rattle.nv_ns.specs.Extents.{Namespace, blocks_in, place_in}
use Rattle.nv_world_model.specs.Area.{addresses_of}
use Rattle.nv_world_model.specs.Device.{Held}
use Rattle.nv_world_model.specs.Geometry.{Geometry, Guest}
use Rattle.nv_world_model.specs.Plan.{Plan}
use Rattle.nv_world_model.specs.Share.{Share}
use Rattle.nv_world_model.specs.Seat.{held_in, numbers_behind, units_behind, work_of}
use Rattle.nv_world_model.specs.World.{Command, Flying, InDevice, World, tag_of}

-- ---- a unit

-- the units of a work that a unit of the device represents, in their order
abbrev pub part_units : Work → (number : ℕ) → List WorkUnit
part_units work number = flat_map (λ k. option_to_list (slice_get work.units k)) (units_behind work (number ∷ []))

-- the units of a guest's command that a unit of the device represents where the device has a share of it, in their order
abbrev pub own_units : Work → Share → (number : ℕ) → List WorkUnit
own_units whole share number =
    flat_map (λ k. option_to_list (slice_get whole.units k)) (numbers_behind share (number ∷ []))

-- the numbers of these that are none of those
abbrev pub left_without : (gone left : List ℕ) → List ℕ
left_without gone left = filter (λ k. not (list_any (λ n. n == k) gone)) left

-- where the bytes of a block of a plan's transfer lie in the host, in their order
abbrev pub addresses_of_block : Plan → Guest → (bounce index : ℕ) → List Place
addresses_of_block plan guest bounce index =
    map At (take block (drop (block * index) (addresses_of plan guest bounce)))

-- ---- blocks

-- a guest's own blocks and marks are those that the disk has where its namespace lies, and a Compare has differed in
-- both or in neither
pub record SameBlocks (ns : Namespace) (own whole : Moved) : Type 0 where
  pub bytes : (lba offset : ℕ) → lba < blocks_in ns → own.disk lba offset ≡ whole.disk (place_in ns lba) offset
  pub marks : (lba : ℕ) → lba < blocks_in ns → own.kept lba ≡ whole.kept (place_in ns lba)
  pub compared : own.differed ≡ whole.differed

-- ---- a command in the device

-- memory, disk and marks of the world; and whether a Compare has differed so far
abbrev pub whole_of : World → (differed : Bool) → Moved
whole_of w differed = record { memory = w.host; disk = w.disk; kept = w.kept; differed = differed }

-- memory, disk and marks of a guest's private controller; and whether a Compare has differed so far
abbrev pub own_of : Private → (differed : Bool) → Moved
own_of p differed = record { memory = p.memory; disk = p.disk; kept = p.kept; differed = differed }

-- a share of a guest's command is in the device, in that tag: the command goes with the first work, of which the share has the other
pub record IsHeld (geometry : Geometry) (w : World) (number : ℕ) (guest : Guest) (lane tag : ℕ) (share : Share)
    (whole work : Work) (h : Held) : Type 0 where
  pub command : Command
  pub own : command.guest ≡ number
  pub given : slice_get geometry.guests number ≡ Some guest
  pub flies : tag_of w lane tag ≡ Some (Flying command share InDevice)
  pub held : held_in (slice_get w.device lane) tag ≡ Some h
  pub goes : work_of share.whole ≡ Some whole
  pub part : work_of share.plan ≡ Some work

-- ---- bytes

-- some bytes of a block reach these places in a guest's own memory, and these addresses in the host's
pub record GivesBlock (places addresses : List Place) (own own_behind host host_behind : ℕ → ℕ) : Type 0 where
  pub bytes : List ℕ
  pub count : length bytes ≡ block
  pub in_own : own_behind ≡ scattered own places bytes
  pub in_host : host_behind ≡ scattered host addresses bytes
