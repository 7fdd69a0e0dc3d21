use Rattle.std.proofs.Common.{ℕ, List}
use Rattle.nv_core.proofs.StoredRows.{IsAtItem}
use Rattle.nv_core.proofs.writing.store_ranges.Given as goal

abbrev pub invariant-loop-range : goal.invariant-loop-range
invariant-loop-range g l = IsAtItem (λ (r : List ℕ). r) 16 (g.C.MemoryCell.bytes l.fn.host) l.fn.at l.ranges (g.C.MemoryCell.bytes l.host) l.at l.range-index
