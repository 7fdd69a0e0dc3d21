use Rattle.nv_core.proofs.FrontLaws.{start-kept, start-side}
use Rattle.nv_core.proofs.laws.a_front_begins_at_the_start.Goals as goal

pub returns-clause-world : goal.returns-clause-world
returns-clause-world c = start-side

pub returns-clause-kept : goal.returns-clause-kept
returns-clause-kept c = λ geometry lanes. start-kept geometry lanes
