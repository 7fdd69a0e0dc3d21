use Rattle.nv_flat.proofs.RunLemmas.{one-outcome}
use Rattle.nv_flat.proofs.laws.one_unit_has_one_outcome.Goals as goal

pub returns : goal.returns
returns c = one-outcome
