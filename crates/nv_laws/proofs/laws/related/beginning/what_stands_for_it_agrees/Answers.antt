use Rattle.nv_laws.proofs.related.Beginning.{related-agrees}
use Rattle.nv_laws.proofs.laws.related.beginning.what_stands_for_it_agrees.Goals as goal

pub returns : goal.returns
returns c = λ geometry number guest w p given consistent related. related-agrees geometry number guest w consistent p related
