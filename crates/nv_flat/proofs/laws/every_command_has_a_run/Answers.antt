use Rattle.nv_flat.proofs.MadeLemmas.{every-command}
use Rattle.nv_flat.proofs.laws.every_command_has_a_run.Goals as goal

pub returns : goal.returns
returns c = every-command
