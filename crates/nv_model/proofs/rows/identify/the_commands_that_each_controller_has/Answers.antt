use Rattle.std.proofs.Common.{refl}
use Rattle.nv_model.proofs.rows.identify.the_commands_that_each_controller_has.Goals as goal

pub returns : goal.returns
returns c = refl
