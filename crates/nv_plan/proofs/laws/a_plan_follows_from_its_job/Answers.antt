use Rattle.nv_plan.proofs.PlanFollows.{IsJobsPlan-further, IsJobsPlan-same}
use Rattle.nv_plan.proofs.laws.a_plan_follows_from_its_job.Goals as goal

pub returns-clause-same : goal.returns-clause-same
returns-clause-same c = IsJobsPlan-same

pub returns-clause-further : goal.returns-clause-further
returns-clause-further c = IsJobsPlan-further
