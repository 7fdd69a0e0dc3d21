use Rattle.std.proofs.Common.{length, ◌-◌}
use Rattle.nv_bounce.proofs.GuestMemory.{IsWrittenTo}
use Rattle.nv_bounce.proofs.guest_bytes.store.Given as goal

abbrev pub invariant-loop-done : goal.invariant-loop-done
invariant-loop-done g l = IsWrittenTo l.map.regions (g.C.MemoryCell.bytes l.fn.host) l.addr l.bytes (g.C.MemoryCell.bytes l.host) l.done

abbrev pub decreases-loop-done : goal.decreases-loop-done
decreases-loop-done g l = length l.bytes - l.done
