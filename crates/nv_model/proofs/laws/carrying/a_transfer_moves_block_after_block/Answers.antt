use Rattle.nv_model.proofs.UnitWords.{move_units-range}
use Rattle.nv_model.proofs.laws.carrying.a_transfer_moves_block_after_block.Goals as goal

pub returns : goal.returns
returns c = move_units-range
