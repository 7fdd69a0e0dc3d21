use Rattle.nv_machine.proofs.Effects.{copies-gather, copies-scatter}
use Rattle.nv_machine.proofs.laws.effects.copies_scatter_and_gather.Goals as goal

pub returns-clause-to : goal.returns-clause-to
returns-clause-to c = copies-scatter

pub returns-clause-from : goal.returns-clause-from
returns-clause-from c = copies-gather
