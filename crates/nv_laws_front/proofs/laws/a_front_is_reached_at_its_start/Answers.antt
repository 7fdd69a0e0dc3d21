use Rattle.nv_laws_front.proofs.Reached.{start-reached}
use Rattle.nv_laws_front.proofs.laws.a_front_is_reached_at_its_start.Goals as goal

pub returns : goal.returns
returns c = start-reached
