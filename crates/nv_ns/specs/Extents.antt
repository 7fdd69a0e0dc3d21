-- A guest's namespace as several ranges of the disk, one after the other, and what a run of its blocks is on the disk.
use Rattle.std.specs.Prelude.{ℕ, ◌+◌, ◌-◌, ◌^◌, min, max, Bool, ◌&&◌, nat_lt, nat_le, if◌then◌else◌, List, [], ◌∷◌}
use Rattle.std.specs.Prelude.{length, Option, Some, None}
use Rattle.std.specs.List.{filter_map, list_all}
use Rattle.nv_ns.specs.BlockRange.{Extent, in_namespace}

-- a namespace: its blocks are those of these extents, joined in their order (profile: the extents of a guest may lie anywhere on the disk)
abbrev pub Namespace : Type 0
Namespace = List Extent

-- how many blocks it has
abbrev pub blocks_in : Namespace → ℕ
blocks_in [] = 0
blocks_in (extent ∷ rest) = extent.blocks + blocks_in rest

-- where on the disk a block of it is: in the first extent, or, so many blocks further on, in those after it (0 where it has no such block)
abbrev pub place_in : Namespace → ℕ → ℕ
place_in [] lba = 0
place_in (extent ∷ rest) lba = if nat_lt lba extent.blocks then extent.base + lba else place_in rest (lba - extent.blocks)

-- the most extents that a namespace has (profile)
abbrev pub most_extents : ℕ
most_extents = 8

-- an extent begins at such a block that as many blocks as the namespace has end below 2 to the 64 from there on
abbrev pub is_within : (blocks : ℕ) → Extent → Bool
is_within blocks extent = nat_lt (extent.base + blocks) (2 ^ 64)

-- what a namespace has to be: one to eight extents, and no sum of a base and of blocks of it reaches 2 to the 64 (profile)
abbrev pub is_namespace : Namespace → Bool
is_namespace ns = nat_lt 0 (length ns) && nat_le (length ns) most_extents && list_all (is_within (blocks_in ns)) ns

-- ---- what a run of blocks is on the disk

-- contiguous blocks that are in one extent: how far after the first block asked for they begin, where on the disk, and how many they are
pub record Cut : Type 0 where
  pub first : ℕ
  pub start : ℕ
  pub count : ℕ

-- an extent as it is in a namespace: so many of the namespace's blocks come before its own
pub record Placed : Type 0 where
  pub before : ℕ
  pub extent : Extent

-- the extents of a namespace, with `before` blocks before the first of them
abbrev pub placed : (before : ℕ) → Namespace → List Placed
placed before [] = []
placed before (extent ∷ rest) = record { before = before; extent = extent } ∷ placed (before + extent.blocks) rest

-- what `count` blocks from block `slba` have in common with an extent
abbrev pub common : Placed → (slba count : ℕ) → Cut
common at slba count =
    record {
      first = at.before - slba;
      start = at.extent.base + (slba - at.before);
      count = min (slba + count) (at.before + at.extent.blocks) - max slba at.before;
    }

-- a cut is given only where it has blocks
abbrev pub if_any : Cut → Option Cut
if_any cut = if nat_lt 0 cut.count then Some cut else None

-- `count` blocks from block `slba` on the disk: a cut for each extent that they meet, in the order of the namespace (profile)
abbrev pub cuts : Namespace → (slba count : ℕ) → List Cut
cuts ns slba count = filter_map (λ (at : Placed). if_any (common at slba count)) (placed 0 ns)

-- the same where all of them are in the namespace, or none where one is not (NVM Command Set 1.0, LBA Out of Range)
abbrev pub cut_out : Namespace → (slba count : ℕ) → Option (List Cut)
cut_out ns slba count = if in_namespace slba count (blocks_in ns) then Some (cuts ns slba count) else None

-- ---- the blocks of an extent

-- whether a block of the disk is one of an extent
abbrev pub has_block : (at : ℕ) → Extent → Bool
has_block at extent = nat_le extent.base at && nat_lt at (extent.base + extent.blocks)
