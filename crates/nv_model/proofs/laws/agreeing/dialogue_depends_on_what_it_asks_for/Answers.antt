use Rattle.nv_model.proofs.Agreeing.{asked-agree, in_memory-agree}
use Rattle.nv_model.proofs.laws.agreeing.dialogue_depends_on_what_it_asks_for.Goals as goal

pub returns-clause-value : goal.returns-clause-value
returns-clause-value g c = in_memory-agree

pub returns-clause-asked : goal.returns-clause-asked
returns-clause-asked g c = asked-agree
