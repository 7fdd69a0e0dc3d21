use Rattle.nv_model.proofs.InTurn.{in_transcript-settled}
use Rattle.nv_model.proofs.laws.readers.a_settled_value_stays.Goals as goal

pub returns : goal.returns
returns g c = in_transcript-settled
