use Rattle.nv_model.proofs.UnitWords.{units_moved-others}
use Rattle.nv_model.proofs.laws.carrying.a_unit_depends_on_no_other.Goals as goal

pub returns : goal.returns
returns c = units_moved-others
