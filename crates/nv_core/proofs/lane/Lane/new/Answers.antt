use Rattle.nv_core.proofs.OpeningTags.{lane-is, opening-whole}
use Rattle.nv_core.proofs.lane.Lane.new.Goals as goal

pub invariant_of-result : goal.invariant_of-result
invariant_of-result c = opening-whole c.new-2.result c.in_ok-no_progress.field-0.items c.new-2.ensures c.in_ok-no_progress.ensures

pub returns : goal.returns
returns c = lane-is c.new.result c.new-2.result c.in_ok-no_progress.field-0.items c.new.ensures c.new-2.ensures c.in_ok-no_progress.ensures
