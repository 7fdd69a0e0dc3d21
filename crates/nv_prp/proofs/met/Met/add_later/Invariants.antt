use Rattle.std.proofs.Common.{◌-◌}
use Rattle.nv_prp.proofs.Entries.{Row}
use Rattle.nv_prp.proofs.met.Met.add_later.Given as goal

abbrev pub invariant-loop-skipped : goal.invariant-loop-skipped
invariant-loop-skipped l = Row l.fn.self l.from l.len l.skipped l.self

abbrev pub decreases-loop-skipped : goal.decreases-loop-skipped
decreases-loop-skipped l = l.len - l.skipped
