use Rattle.std.proofs.Common.{◌/◌, length}
use Rattle.nv_model.specs.Judge.{ranges_in}
use Rattle.nv_plan.proofs.MetRanges.{AreListed}
use Rattle.nv_plan.proofs.ranges.portions_met.Given as goal

abbrev pub invariant-loop-number : goal.invariant-loop-number
invariant-loop-number l = AreListed l.ns (ranges_in (length l.bytes / 16) l.bytes) l.number l.before l.ranges.items l.ends
