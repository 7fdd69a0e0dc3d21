use Rattle.nv_model.proofs.CarriedOut.{IsCarriedOut-moved, IsCarriedOut-refused}
use Rattle.nv_model.proofs.laws.carrying.carries_out.Goals as goal

pub returns-clause-moved : goal.returns-clause-moved
returns-clause-moved c = IsCarriedOut-moved

pub returns-clause-refused : goal.returns-clause-refused
returns-clause-refused c = IsCarriedOut-refused
