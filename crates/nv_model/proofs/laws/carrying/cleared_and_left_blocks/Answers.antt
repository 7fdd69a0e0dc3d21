use Rattle.nv_model.proofs.UnitWords.{units_moved-cleared, units_moved-left}
use Rattle.nv_model.proofs.laws.carrying.cleared_and_left_blocks.Goals as goal

pub returns-clause-cleared : goal.returns-clause-cleared
returns-clause-cleared c = units_moved-cleared

pub returns-clause-left : goal.returns-clause-left
returns-clause-left c = units_moved-left
