use Rattle.nv_core.proofs.FrontLaws.{comes-beside, step-beside}
use Rattle.nv_core.proofs.laws.a_call_is_a_step_of_each_world.Goals as goal

pub returns-clause-step : goal.returns-clause-step
returns-clause-step c = λ geometry e old new before after r w mine is many on. step-beside geometry e mine old new before after r is many w on

pub returns-clause-handed : goal.returns-clause-handed
returns-clause-handed c = λ geometry e old new before after r w is many on. comes-beside geometry e old new before after r w (is w on) many on
