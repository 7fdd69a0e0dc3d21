-- What stays as it is while a world runs: where the mediator's own area begins, how large the disk is, and what each
-- guest was given (profile).
use Rattle.std.specs.Prelude.{ℕ, List}
use Rattle.nv_mem.specs.GuestMap.{Mapping, mapped}
use Rattle.nv_mem.specs.declared.region.Region.{Region}
use Rattle.nv_ns.specs.Extents.{Namespace, blocks_in}
use Rattle.nv_model.specs.Private.{Shape}

-- what a guest was given: its memory, its namespace, and the most descriptors of a list
pub record Guest : Type 0 where
  pub memory_map : Mapping
  pub namespace : Namespace
  pub limit : ℕ

-- a set-up without its sizes that nothing depends on
pub record Geometry : Type 0 where
  pub mediator : ℕ
  pub disk_blocks : ℕ
  pub guests : List Guest

-- the regions of a guest's map
abbrev pub regions_of : Guest → List Region
regions_of guest = guest.memory_map.regions

-- what of it the guest's private controller knows
abbrev pub shape_of : Guest → Shape
shape_of guest =
    record { mapped = mapped (regions_of guest); blocks = blocks_in guest.namespace; limit = guest.limit }
