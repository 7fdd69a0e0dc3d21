use Rattle.nv_model.proofs.StepsAlike.{step-alike}
use Rattle.nv_model.proofs.laws.unseen.steps_do_the_same.Goals as goal

pub returns : goal.returns
returns c = step-alike
