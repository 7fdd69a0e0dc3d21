use Rattle.std.proofs.Common.{length}
use Rattle.nv_disk.proofs.BufferLemmas.{IsPutting}
use Rattle.nv_disk.proofs.buffer.Buffer.put.Given as goal

abbrev pub invariant-loop-rest : goal.invariant-loop-rest
invariant-loop-rest l = IsPutting l.fn.memory l.fn.self l.fn.bytes l.memory l.self l.rest

abbrev pub decreases-loop-rest : goal.decreases-loop-rest
decreases-loop-rest l = length l.rest
