use Rattle.nv_machine.proofs.Effects.{completion-stored}
use Rattle.nv_machine.proofs.laws.effects.a_completion_is_stored.Goals as goal

pub returns : goal.returns
returns c = completion-stored
