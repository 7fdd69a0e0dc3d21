use Rattle.nv_model.proofs.AnyAnswers.{asked-may, in_memory-may, still_wanted-may}
use Rattle.nv_model.proofs.laws.endings.a_memory_gives_some_answers.Goals as goal

pub returns-clause-ends : goal.returns-clause-ends
returns-clause-ends g c = in_memory-may

pub returns-clause-asks : goal.returns-clause-asks
returns-clause-asks g c = asked-may

pub returns-clause-wants : goal.returns-clause-wants
returns-clause-wants g c = still_wanted-may
