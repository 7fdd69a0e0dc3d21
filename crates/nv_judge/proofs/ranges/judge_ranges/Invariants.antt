use Rattle.std.proofs.Common.{◌≡◌, ◌%◌, length}
use Rattle.nv_ns.specs.Extents.{blocks_in}
use Rattle.nv_judge.specs.Ranges.{ranges_verdict}
use Rattle.nv_judge.proofs.ranges.judge_ranges.Given as goal

abbrev pub invariant-loop-range : goal.invariant-loop-range
invariant-loop-range l =
    (length l.rest % 16 ≡ 0) × (ranges_verdict (blocks_in l.ns) l.rest ≡ ranges_verdict (blocks_in l.ns) l.ranges)

abbrev pub decreases-loop-range : goal.decreases-loop-range
decreases-loop-range l = length l.rest
