use Rattle.std.proofs.Common.{◌≡◌, length}
use Rattle.std.specs.Vec.Iter.{into_iter_items, into_iter_len}
use Rattle.nv_run.proofs.Castings.{IsGiven}
use Rattle.nv_run.proofs.part.cast.Given as goal

-- each guest has its lines before those that are left
abbrev pub invariant-loop-line : goal.invariant-loop-line
invariant-loop-line l =
    IsGiven l.parts.items (into_iter_items l.line-iterator) l.fn.lines.items
    × (length (into_iter_items l.line-iterator) ≡ into_iter_len l.line-iterator)
    × goal.iterator-loop-line.can_next l.line-iterator
    × goal.iterator-loop-line.is_finite l.line-iterator
