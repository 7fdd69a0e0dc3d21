use Rattle.nv_laws.proofs.related.Beginning.{opening-related}
use Rattle.nv_laws.proofs.laws.related.beginning.they_begin_alike.Goals as goal

pub returns : goal.returns
returns c = opening-related
