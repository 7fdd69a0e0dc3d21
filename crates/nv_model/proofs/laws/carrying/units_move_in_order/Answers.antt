use Rattle.nv_model.proofs.CarriedOut.{units_in_order}
use Rattle.nv_model.proofs.laws.carrying.units_move_in_order.Goals as goal

pub returns : goal.returns
returns c = units_in_order
