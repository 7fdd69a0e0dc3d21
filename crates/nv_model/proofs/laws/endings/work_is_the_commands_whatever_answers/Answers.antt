use Rattle.nv_model.proofs.AnyAnswers.{end-sound}
use Rattle.nv_model.proofs.laws.endings.work_is_the_commands_whatever_answers.Goals as goal

pub returns : goal.returns
returns c mapped limit blocks entry work may = (end-sound mapped limit blocks entry work may).opcode
