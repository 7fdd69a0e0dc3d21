use Rattle.nv_prp.proofs.HostRuns.{length-mapped_runs}
use Rattle.nv_prp.proofs.laws.mapped_runs_have_an_address_for_each_byte.Goals as goal

pub returns : goal.returns
returns c = length-mapped_runs
