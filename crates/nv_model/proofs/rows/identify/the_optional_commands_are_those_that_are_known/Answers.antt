use Rattle.std.proofs.Common.{refl}
use Rattle.nv_entry.specs.Layout.{number_at, bits}
use Rattle.nv_model.specs.Admin.{structure}
use Rattle.nv_model.proofs.rows.identify.the_optional_commands_are_those_that_are_known.Goals as goal

pub returns : goal.returns
unfolding number_at bits structure
returns c = refl
