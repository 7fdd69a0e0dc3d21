use Rattle.nv_laws_front.proofs.Reached.{reached-promised}
use Rattle.nv_laws_front.proofs.laws.a_front_keeps_the_promise.Goals as goal

pub returns : goal.returns
returns c = λ s first side memory log z none sound so. reached-promised s first side memory log z none sound so
