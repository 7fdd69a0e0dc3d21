use Rattle.nv_machine.proofs.ContainedCalls.{start-contained}
use Rattle.nv_machine.proofs.laws.containment.each_call_is_contained.Goals as goal

pub returns : goal.returns
returns c = λ s calls e fetched accepted sound were. start-contained s calls accepted sound were e fetched
