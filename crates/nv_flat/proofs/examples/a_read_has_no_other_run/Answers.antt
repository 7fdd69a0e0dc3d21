use Rattle.nv_flat.proofs.ExampleLemmas.{one-read}
use Rattle.nv_flat.proofs.examples.a_read_has_no_other_run.Goals as goal

pub returns : goal.returns
returns c = one-read
