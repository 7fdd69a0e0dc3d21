use Rattle.nv_plan.proofs.PartLaws.{ranges-fit}
use Rattle.nv_plan.proofs.RangesLie.{ranges-apart, ranges-one}
use Rattle.nv_plan.proofs.laws.ranges_lie_in_the_namespace.Goals as goal

pub returns-clause-fit : goal.returns-clause-fit
returns-clause-fit c = ranges-fit

pub returns-clause-inside : goal.returns-clause-inside
returns-clause-inside c = ranges-one

pub returns-clause-apart : goal.returns-clause-apart
returns-clause-apart c = ranges-apart
