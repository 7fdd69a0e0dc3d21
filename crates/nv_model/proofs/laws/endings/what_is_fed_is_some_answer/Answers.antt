use Rattle.nv_model.proofs.AnyAnswers.{fed_part-leads}
use Rattle.nv_model.proofs.laws.endings.what_is_fed_is_some_answer.Goals as goal

pub returns-clause-ends : goal.returns-clause-ends
returns-clause-ends g c d bytes value parts whole = (fed_part-leads d bytes parts whole).ends value

pub returns-clause-asks : goal.returns-clause-asks
returns-clause-asks g c d bytes addr unit left parts whole = (fed_part-leads d bytes parts whole).asks addr unit left

pub returns-clause-parts : goal.returns-clause-parts
returns-clause-parts g c d bytes parts whole = (fed_part-leads d bytes parts whole).parts
