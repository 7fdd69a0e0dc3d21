use Rattle.nv_laws.proofs.units.Steadies.{step-same}
use Rattle.nv_laws.proofs.laws.units.sparing.blocks_change_by_units_and_kept_blocks_alone.Goals as goal

pub returns : goal.returns
returns c = step-same
