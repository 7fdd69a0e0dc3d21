-- Words of the laws about plans
use Rattle.std.specs.Prelude.{◌≡◌, ℕ, ◌+◌, ◌<◌, ◌≤◌, List}
use Rattle.nv_entry.specs.Range.{blocks_of, start_of}
use Rattle.nv_ns.specs.Extents.{Namespace, blocks_in}
use Rattle.nv_ns.specs.Laws.{LiesInOne}
use Rattle.nv_world_model.specs.Area.{first_base}

-- a range of the disk that has blocks is in one extent of a namespace; one of no blocks starts at or after the first extent's base, no farther than
-- the namespace is long
pub record LiesIn (ns : Namespace) (range : List ℕ) : Type 0 where
  pub some : 0 < blocks_of range → LiesInOne ns (record { first = 0; start = start_of range; count = blocks_of range })
  pub none : blocks_of range ≡ 0 → (first_base ns ≤ start_of range) × (start_of range ≤ first_base ns + blocks_in ns)
