use Rattle.std.proofs.Common.{refl}
use Rattle.nv_world_model.specs.Step.{kept_block}
use Rattle.nv_laws.proofs.units.Marks.{keep-marks}
use Rattle.nv_laws.proofs.laws.units.sparing.a_kept_block_raises_its_own_mark.Goals as goal

pub returns-clause-steps : goal.returns-clause-steps
returns-clause-steps c w number guest block = refl

pub returns-clause-marks : goal.returns-clause-marks
unfolding kept_block
returns-clause-marks c guest p w block = keep-marks guest p w.kept block
