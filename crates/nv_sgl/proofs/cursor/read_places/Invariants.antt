use Rattle.std.proofs.Common.{length}
use Rattle.nv_mem.specs.GuestMap.{mapped}
use Rattle.nv_sgl.proofs.Parts.{NamesSoFar}
use Rattle.nv_sgl.proofs.cursor.read_places.Given as goal

abbrev pub invariant-loop-rest : goal.invariant-loop-rest
invariant-loop-rest l = NamesSoFar (mapped l.map.regions) l.dest l.fn.cursor l.bytes l.fn.places l.cursor l.rest l.places

abbrev pub decreases-loop-rest : goal.decreases-loop-rest
decreases-loop-rest l = length l.rest
