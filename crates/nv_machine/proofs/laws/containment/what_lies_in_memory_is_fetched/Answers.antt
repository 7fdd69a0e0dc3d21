use Rattle.nv_machine.proofs.ContainedCalls.{fetched-in}
use Rattle.nv_machine.proofs.laws.containment.what_lies_in_memory_is_fetched.Goals as goal

pub returns : goal.returns
returns c = fetched-in
