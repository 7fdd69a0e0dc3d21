use Rattle.std.proofs.Common.{length, ◌-◌}
use Rattle.nv_model.specs.Memory.{byte_in}
use Rattle.nv_disk.proofs.BufferLemmas.{IsFetching}
use Rattle.nv_disk.proofs.buffer.Buffer.fetch.Given as goal

abbrev pub invariant-loop-done : goal.invariant-loop-done
invariant-loop-done l = IsFetching (byte_in l.memory) l.fn.self (length l.fn.out) l.out l.self l.done

abbrev pub decreases-loop-done : goal.decreases-loop-done
decreases-loop-done l = length l.initial.out - l.done
