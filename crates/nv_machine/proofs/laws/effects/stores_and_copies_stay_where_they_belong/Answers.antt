use Rattle.nv_machine.proofs.Writes.{completion_stores-written, copies_from-read, copies_from-written, copies_to-read, copies_to-written, stores-written}
use Rattle.nv_machine.proofs.laws.effects.stores_and_copies_stay_where_they_belong.Goals as goal

pub returns-clause-stores : goal.returns-clause-stores
returns-clause-stores c = stores-written

pub returns-clause-copies : goal.returns-clause-copies
returns-clause-copies c = copies_to-written

pub returns-clause-copied : goal.returns-clause-copied
returns-clause-copied c = copies_to-read

pub returns-clause-gathers : goal.returns-clause-gathers
returns-clause-gathers c = copies_from-written

pub returns-clause-gathered : goal.returns-clause-gathered
returns-clause-gathered c = copies_from-read

pub returns-clause-completion : goal.returns-clause-completion
returns-clause-completion c = completion_stores-written
