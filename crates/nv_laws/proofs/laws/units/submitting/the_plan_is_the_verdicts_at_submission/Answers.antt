use Rattle.nv_laws.proofs.units.Submitted.{plan-shown}
use Rattle.nv_laws.proofs.laws.units.submitting.the_plan_is_the_verdicts_at_submission.Goals as goal

pub returns : goal.returns
returns c = plan-shown
