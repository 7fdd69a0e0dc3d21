use Rattle.nv_model.proofs.CarriedOut.{refusal_alone}
use Rattle.nv_model.proofs.laws.carrying.refusal_ends_it.Goals as goal

pub returns : goal.returns
returns c = refusal_alone
