use Rattle.nv_flat.proofs.ExampleLemmas.{read-run}
use Rattle.nv_flat.proofs.examples.a_read_has_a_run.Goals as goal

pub returns : goal.returns
returns c = read-run
