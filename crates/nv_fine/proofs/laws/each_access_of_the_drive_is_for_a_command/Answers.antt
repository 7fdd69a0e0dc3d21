use Rattle.nv_fine.proofs.Reaches.{for-commands}
use Rattle.nv_fine.proofs.laws.each_access_of_the_drive_is_for_a_command.Goals as goal

pub returns : goal.returns
returns c = λ geometry zeroes tails a o p is. for-commands geometry tails o zeroes p a is
