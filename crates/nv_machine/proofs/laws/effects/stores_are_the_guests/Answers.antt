use Rattle.nv_machine.proofs.Effects.{stores-scatter, stores-stored}
use Rattle.nv_machine.proofs.laws.effects.stores_are_the_guests.Goals as goal

pub returns-clause-places : goal.returns-clause-places
returns-clause-places c = stores-scatter

pub returns-clause-run : goal.returns-clause-run
returns-clause-run c = stores-stored
