use Rattle.std.proofs.Common.{length}
use Rattle.nv_mem.specs.GuestMap.{mapped}
use Rattle.nv_prp.proofs.Cursors.{Progress}
use Rattle.nv_prp.proofs.cursor.read_part.Given as goal

abbrev pub invariant-loop-rest : goal.invariant-loop-rest
invariant-loop-rest l = Progress (mapped l.map.regions) l.fn.cursor l.bytes l.fn.runs l.cursor l.rest l.runs

abbrev pub decreases-loop-rest : goal.decreases-loop-rest
decreases-loop-rest l = length l.rest
