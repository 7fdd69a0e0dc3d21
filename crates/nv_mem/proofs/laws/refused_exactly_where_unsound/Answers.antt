use Rattle.nv_mem.proofs.Soundness.{IsSound-tested, refusal_of-sound}
use Rattle.nv_mem.proofs.laws.refused_exactly_where_unsound.Goals as goal

pub returns-clause-accepted : goal.returns-clause-accepted
returns-clause-accepted c = λ m none. IsSound-tested m.host_len m.regions none

pub returns-clause-sound : goal.returns-clause-sound
returns-clause-sound c = refusal_of-sound
