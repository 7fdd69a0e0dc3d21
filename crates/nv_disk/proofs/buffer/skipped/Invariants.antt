use Rattle.std.proofs.Common.{◌≡◌, ◌++◌, ◌^◌, drop, length}
use Rattle.nv_mem.specs.Places.{places_of, places_of_piece}
use Rattle.nv_disk.specs.Buffer.{AreBelow}
use Rattle.nv_disk.proofs.buffer.skipped.Given as goal

abbrev pub invariant-loop-left : goal.invariant-loop-left
invariant-loop-left l = record {
  left : drop l.left (places_of_piece l.piece ++ places_of l.behind) ≡ drop l.count (places_of_piece l.fn.under_way ++ places_of l.fn.behind);
  in_range : AreBelow (2 ^ 64) (places_of_piece l.piece ++ places_of l.behind);
}

abbrev pub decreases-loop-left : goal.decreases-loop-left
decreases-loop-left l = length l.behind
