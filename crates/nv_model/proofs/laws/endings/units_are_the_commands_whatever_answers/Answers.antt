use Rattle.nv_model.proofs.AnyAnswers.{end-sound}
use Rattle.nv_model.proofs.laws.endings.units_are_the_commands_whatever_answers.Goals as goal

pub returns-clause-within : goal.returns-clause-within
returns-clause-within c mapped limit blocks entry work may = (end-sound mapped limit blocks entry work may).within

pub returns-clause-those : goal.returns-clause-those
returns-clause-those c mapped limit blocks entry work may =
    let sound = end-sound mapped limit blocks entry work may in
    (sound.units, (sound.fit, sound.counted))
