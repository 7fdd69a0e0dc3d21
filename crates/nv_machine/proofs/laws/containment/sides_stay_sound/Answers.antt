use Rattle.nv_machine.proofs.ContainedCalls.{start-reached}
use Rattle.nv_machine.proofs.laws.containment.sides_stay_sound.Goals as goal

pub returns-clause-kept : goal.returns-clause-kept
returns-clause-kept c = λ s calls accepted sound were. (start-reached s calls accepted sound were).kept

pub returns-clause-pages : goal.returns-clause-pages
returns-clause-pages c = λ s calls accepted sound were. (start-reached s calls accepted sound were).on_pages
