use Rattle.std.proofs.Common.{◌-◌}
use Rattle.nv_bounce.specs.Bounce.{scattered_from}
use Rattle.nv_bounce.proofs.Copies.{IsAtRow}
use Rattle.nv_bounce.proofs.scattering.scatter_run.Given as goal

abbrev pub invariant-loop-done : goal.invariant-loop-done
invariant-loop-done g l = IsAtRow (scattered_from l.map.regions) (g.C.MemoryCell.bytes l.fn.host) l.from l.addr l.len (g.C.MemoryCell.bytes l.host) l.done

abbrev pub decreases-loop-done : goal.decreases-loop-done
decreases-loop-done g l = l.len - l.done
