use Rattle.nv_core.proofs.PlacesFollow.{places-follow}
use Rattle.nv_core.proofs.laws.the_places_of_parts_follow.Goals as goal

pub returns : goal.returns
returns c = places-follow
