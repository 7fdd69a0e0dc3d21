use Rattle.std.proofs.Common.{◌++◌, ◌/◌, length, map}
use Rattle.nv_model.specs.Judge.{ranges_in}
use Rattle.nv_plan.specs.Told.{standing}
use Rattle.nv_world_model.specs.Area.{translated_range}
use Rattle.nv_world_model.specs.Share.{ranges_met}
use Rattle.nv_plan.proofs.MetRanges.{IsMeeting}
use Rattle.nv_plan.proofs.ranges.meet.Given as goal

abbrev pub invariant-loop-range : goal.invariant-loop-range
invariant-loop-range l =
    IsMeeting l.ns l.at.number (standing l.at)
    (l.initial.ranges.items ++ map (translated_range l.ns) (ranges_met l.at.number (standing l.at) (ranges_in (length l.bytes / 16) l.bytes)))
    l.ranges.items l.rest

abbrev pub decreases-loop-range : goal.decreases-loop-range
decreases-loop-range l = length l.rest
