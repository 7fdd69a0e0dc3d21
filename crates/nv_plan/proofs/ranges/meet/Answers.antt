use Rattle.std.proofs.Common.{ℕ, ◌/◌, List, ◌++◌, Some, None, append-nil, length, map, sym, ◌∙◌}
use Rattle.nv_model.specs.Judge.{ranges_in}
use Rattle.nv_ns.specs.Extents.{Namespace}
use Rattle.nv_plan.specs.Told.{standing}
use Rattle.nv_plan.specs.declared.ranges.Standing.{Standing}
use Rattle.nv_world_model.specs.Area.{translated_range}
use Rattle.nv_world_model.specs.Share.{ranges_met}
use Rattle.nv_plan.proofs.MetRanges.{IsMeeting-end, IsMeeting-fits, IsMeeting-more}
use Rattle.nv_plan.proofs.ranges.meet.Goals as goal

-- what there is once all ranges are met
abbrev all : Namespace → Standing → (bytes : List ℕ) → (ranges : List (List ℕ)) → List (List ℕ)
all ns at bytes ranges = ranges ++ map (translated_range ns) (ranges_met at.number (standing at) (ranges_in (length bytes / 16) bytes))

pub range_met-requires-clause-fits : goal.range_met-requires-clause-fits
range_met-requires-clause-fits c =
    IsMeeting-fits c.args.ns.now c.args.at.now.number (standing c.args.at.now) (all c.args.ns.now c.args.at.now c.args.bytes.now c.args.ranges.now.items)
    c.loop-range.ranges.items c.loop-range.rest.now
    c.of.result c.in-Some.more.now c.loop-range.invariant (c.of.ensures ∙ c.in-Some.ensures.cases.0) c.in-Some.ensures.cases.1 c.in-Some.ensures.cases.2

pub loop-range-preserved-in_ok-push : goal.loop-range-preserved-in_ok-push
loop-range-preserved-in_ok-push c =
    IsMeeting-more c.args.ns.now c.args.at.now.number (standing c.args.at.now) (all c.args.ns.now c.args.at.now c.args.bytes.now c.args.ranges.now.items)
    c.loop-range.ranges.items c.loop-range.rest.now
    c.of.result c.in-Some.more.now c.push.new.self.items (Some c.in-Some-range_met.part) c.loop-range.invariant
    (c.of.ensures ∙ c.in-Some.ensures.cases.0) c.in-Some.ensures.cases.1 c.in-Some.ensures.cases.2 c.in_ok-push.ensures.items
    (sym c.in-Some-range_met.is ∙ c.range_met.ensures)

pub loop-range-preserved : goal.loop-range-preserved
loop-range-preserved c =
    IsMeeting-more c.args.ns.now c.args.at.now.number (standing c.args.at.now) (all c.args.ns.now c.args.at.now c.args.bytes.now c.args.ranges.now.items)
    c.loop-range.ranges.items c.loop-range.rest.now
    c.of.result c.in-Some.more.now c.loop-range.ranges.items None c.loop-range.invariant
    (c.of.ensures ∙ c.in-Some.ensures.cases.0) c.in-Some.ensures.cases.1 c.in-Some.ensures.cases.2 (sym (append-nil c.loop-range.ranges.items))
    (sym c.in_default-range_met.is ∙ c.range_met.ensures)

pub returns : goal.returns
returns c =
    IsMeeting-end c.args.ns.now c.args.at.now.number (standing c.args.at.now) (all c.args.ns.now c.args.at.now c.args.bytes.now c.args.ranges.now.items)
    c.loop-range.ranges.items c.loop-range.rest.now
    c.loop-range.invariant c.in_default.ensures.cases
