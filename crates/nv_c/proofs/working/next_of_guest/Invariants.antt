use Rattle.std.proofs.Common.{ℕ, ◌<◌}
use Rattle.nv_c.specs.Work.{NoneTakes, NoneWaits}
use Rattle.nv_c.proofs.working.next_of_guest.Given as goal

abbrev pub invariant-loop-lane : goal.invariant-loop-lane
invariant-loop-lane l = (lane : ℕ) → lane < l.lane → NoneWaits l.guest lane l.mediator × NoneTakes l.guest lane l.mediator
