use Rattle.nv_laws_front.proofs.Reached.{controller-reached}
use Rattle.nv_laws_front.proofs.laws.what_the_controller_does_is_one_more_event.Goals as goal

pub returns : goal.returns
returns c = λ s first e side before after log z his fits so host. controller-reached s first e side before after log z his fits so host
