use Rattle.nv_plan.specs.Made.{plan_made}
use Rattle.nv_plan.proofs.MadeShares.{share-kind}
use Rattle.nv_plan.proofs.laws.each_part_is_of_the_plans_kind.Goals as goal

pub returns-clause-part : goal.returns-clause-part
returns-clause-part c p part share there = (share-kind p.given.namespace p.job.sqe (plan_made p) part share there).0

pub returns-clause-of_whole : goal.returns-clause-of_whole
returns-clause-of_whole c p part share there = (share-kind p.given.namespace p.job.sqe (plan_made p) part share there).1
