use Rattle.nv_flat.proofs.RunLemmas.{in-order-outcome}
use Rattle.nv_flat.proofs.laws.all_but_a_read_have_one_outcome.Goals as goal

pub returns : goal.returns
returns c = in-order-outcome
