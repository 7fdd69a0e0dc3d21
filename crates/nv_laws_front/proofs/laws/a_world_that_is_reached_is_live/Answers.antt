use Rattle.nv_laws_front.proofs.Reached.{reached-live}
use Rattle.nv_laws_front.proofs.laws.a_world_that_is_reached_is_live.Goals as goal

pub returns : goal.returns
returns c = λ s first side memory log z none sound so. reached-live s first side memory log z none sound so
