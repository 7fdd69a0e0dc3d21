use Rattle.std.proofs.Common.{ℕ, ◌<◌, ◌≤◌}
use Rattle.nv_c.specs.Work.{PartyRests}
use Rattle.nv_c.proofs.working.next_among.Given as goal

abbrev pub invariant-loop-number : goal.invariant-loop-number
invariant-loop-number l = (number : ℕ) → l.from ≤ number → number < l.number → PartyRests l.mediator number
