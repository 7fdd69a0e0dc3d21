use Rattle.nv_flat.proofs.ExampleLemmas.{one-write}
use Rattle.nv_flat.proofs.examples.a_write_has_no_other_run.Goals as goal

pub returns : goal.returns
returns c = one-write
