use Rattle.std.proofs.Common.{◌-◌}
use Rattle.nv_prp.proofs.Builds.{Rows}
use Rattle.nv_prp.proofs.building.add_run.Given as goal

abbrev pub invariant-loop-done : goal.invariant-loop-done
invariant-loop-done l = Rows l.map.regions l.fn.met l.addr l.len l.done l.met

abbrev pub decreases-loop-done : goal.decreases-loop-done
decreases-loop-done l = l.len - l.done
