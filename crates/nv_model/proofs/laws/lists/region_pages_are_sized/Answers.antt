use Rattle.nv_model.proofs.Spelled.{read_prp-sized}
use Rattle.nv_model.proofs.laws.lists.region_pages_are_sized.Goals as goal

pub returns : goal.returns
returns c = read_prp-sized
