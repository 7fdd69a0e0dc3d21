use Rattle.nv_flat.proofs.ExampleLemmas.{write-run}
use Rattle.nv_flat.proofs.examples.a_write_has_a_run.Goals as goal

pub returns : goal.returns
returns c = write-run
