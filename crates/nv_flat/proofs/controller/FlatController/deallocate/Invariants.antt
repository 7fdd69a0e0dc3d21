use Rattle.std.proofs.Common.{length}
use Rattle.nv_flat.proofs.DatasetLemmas.{IsDeallocating}
use Rattle.nv_flat.proofs.controller.FlatController.deallocate.Given as goal

abbrev pub invariant-loop-range : goal.invariant-loop-range
invariant-loop-range l = IsDeallocating l.fn.self l.fn.ranges l.self l.rest

abbrev pub decreases-loop-range : goal.decreases-loop-range
decreases-loop-range l = length l.rest
