use Rattle.nv_flat.proofs.RunLemmas.{units-moved}
use Rattle.nv_flat.proofs.laws.each_unit_moves_once.Goals as goal

pub returns : goal.returns
returns c = units-moved
