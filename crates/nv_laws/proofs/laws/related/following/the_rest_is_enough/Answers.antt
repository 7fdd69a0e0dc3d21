use Rattle.nv_laws.proofs.related.Every.{each-followed}
use Rattle.nv_laws.proofs.laws.related.following.the_rest_is_enough.Goals as goal

pub returns : goal.returns
returns c = each-followed
