use Rattle.nv_laws_front.proofs.Reached.{call-reached}
use Rattle.nv_laws_front.proofs.laws.a_call_is_one_more_event.Goals as goal

pub returns : goal.returns
returns c = λ s first e old new before after r log z mine so is. call-reached s first e old new before after r log z mine so is
