use Rattle.nv_flat.proofs.SeenAlike.{equal-lists}
use Rattle.nv_flat.proofs.laws.what_is_seen_is_all.Goals as goal

pub returns : goal.returns
returns c = equal-lists
