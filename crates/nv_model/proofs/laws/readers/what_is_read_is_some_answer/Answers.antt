use Rattle.nv_model.proofs.InTurn.{given_all-leads}
use Rattle.nv_model.proofs.laws.readers.what_is_read_is_some_answer.Goals as goal

pub returns-clause-ends : goal.returns-clause-ends
returns-clause-ends g c d reads value parts = (given_all-leads d reads parts).ends value

pub returns-clause-asks : goal.returns-clause-asks
returns-clause-asks g c d reads addr unit left parts = (given_all-leads d reads parts).asks addr unit left

pub returns-clause-parts : goal.returns-clause-parts
returns-clause-parts g c d reads parts = (given_all-leads d reads parts).parts
