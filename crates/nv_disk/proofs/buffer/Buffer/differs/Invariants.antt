use Rattle.std.proofs.Common.{length}
use Rattle.nv_model.specs.Memory.{byte_in}
use Rattle.nv_disk.proofs.CompareLemmas.{IsComparing}
use Rattle.nv_disk.proofs.buffer.Buffer.differs.Given as goal

abbrev pub invariant-loop-rest : goal.invariant-loop-rest
invariant-loop-rest l = IsComparing (length l.memory) (byte_in l.memory) l.fn.self l.fn.bytes l.self l.rest l.differed

abbrev pub decreases-loop-rest : goal.decreases-loop-rest
decreases-loop-rest l = length l.rest
