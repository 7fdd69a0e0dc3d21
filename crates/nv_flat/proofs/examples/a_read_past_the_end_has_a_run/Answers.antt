use Rattle.nv_flat.proofs.ExampleLemmas.{past-run}
use Rattle.nv_flat.proofs.examples.a_read_past_the_end_has_a_run.Goals as goal

pub returns : goal.returns
returns c = past-run
