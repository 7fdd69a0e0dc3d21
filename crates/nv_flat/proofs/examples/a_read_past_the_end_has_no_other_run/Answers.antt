use Rattle.nv_flat.proofs.ExampleLemmas.{one-refusal}
use Rattle.nv_flat.proofs.examples.a_read_past_the_end_has_no_other_run.Goals as goal

pub returns : goal.returns
returns c = one-refusal
