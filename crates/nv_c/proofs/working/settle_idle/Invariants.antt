use Rattle.std.proofs.Common.{◌≡◌, length}
use Rattle.nv_c.proofs.working.settle_idle.Given as goal

abbrev pub invariant-loop-guest : goal.invariant-loop-guest
invariant-loop-guest l = l.mediator ≡ l.initial.mediator

abbrev pub decreases-loop-guest : goal.decreases-loop-guest
decreases-loop-guest l = length l.idle
