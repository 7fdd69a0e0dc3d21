use Rattle.nv_core.proofs.FrontLaws.{each-lent, reaped-lent, step-lent}
use Rattle.nv_core.proofs.laws.a_call_may_follow_a_call.Goals as goal

pub returns-clause-step : goal.returns-clause-step
returns-clause-step c = λ geometry e old new before after r mine is many sized lent. step-lent geometry e mine old new before after r is many sized lent

pub returns-clause-handed : goal.returns-clause-handed
returns-clause-handed c = λ geometry e old new before after r mine is many sized lent. each-lent geometry e mine old new before after r is many sized lent

pub returns-clause-reaped : goal.returns-clause-reaped
returns-clause-reaped c = λ geometry lane l old new memory found is tails lent. reaped-lent geometry lane l old new memory found is tails lent
