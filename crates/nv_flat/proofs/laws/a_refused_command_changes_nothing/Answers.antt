use Rattle.nv_flat.proofs.RunLemmas.{refused-unchanged}
use Rattle.nv_flat.proofs.laws.a_refused_command_changes_nothing.Goals as goal

pub returns : goal.returns
returns c = refused-unchanged
