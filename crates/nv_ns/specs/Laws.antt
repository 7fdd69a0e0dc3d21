-- Words of the laws about namespaces: where the cuts of a run of blocks lie, and extents that are apart
use Rattle.std.specs.Prelude.{◌≡◌, ℕ, ◌+◌, ◌<◌, ◌≤◌, List}
use Rattle.std.specs.List.{Contains, count_by, range_with_len, sum_by}
use Rattle.nv_ns.specs.BlockRange.{Extent}
use Rattle.nv_ns.specs.Extents.{Namespace, place_in, Cut, has_block}

-- ---- cuts

-- the disk's blocks that a cut names, in order
abbrev pub places_of_cut : Cut → List ℕ
places_of_cut cut = range_with_len cut.start cut.count

-- how many blocks cuts name together
abbrev pub blocks_cut : List Cut → ℕ
blocks_cut parts = sum_by (λ (cut : Cut). cut.count) parts

-- a cut lies in one of the extents
abbrev pub LiesInOne : Namespace → Cut → Type 0
LiesInOne ns cut =
    (extent : Extent) × (Contains ns extent × (extent.base ≤ cut.start) × (cut.start + cut.count ≤ extent.base + extent.blocks))

-- it names blocks of the run, each where it lies
abbrev pub NamesBlocks : Namespace → (slba count : ℕ) → Cut → Type 0
NamesBlocks ns slba count cut =
    (cut.first + cut.count ≤ count) × ((i : ℕ) → i < cut.count → place_in ns (slba + (cut.first + i)) ≡ cut.start + i)

-- ---- extents that are apart

-- no block of the disk is in two of them
abbrev pub AreApart : Namespace → Type 0
AreApart ns = (at : ℕ) → count_by (has_block at) ns ≤ 1
