use Rattle.nv_bounce.proofs.Outcomes.{bytes_from-gathered_to, image-gathered_to}
use Rattle.nv_bounce.proofs.laws.a_guest_sees_nothing_of_a_gather.Goals as goal

pub returns-clause-slot : goal.returns-clause-slot
returns-clause-slot c = bytes_from-gathered_to

pub returns-clause-guest : goal.returns-clause-guest
returns-clause-guest c = image-gathered_to
