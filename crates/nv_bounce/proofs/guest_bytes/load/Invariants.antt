use Rattle.std.proofs.Common.{length, ◌-◌}
use Rattle.nv_model.specs.Memory.{byte_in, image}
use Rattle.nv_bounce.proofs.GuestMemory.{IsReadTo}
use Rattle.nv_bounce.proofs.guest_bytes.load.Given as goal

abbrev pub invariant-loop-done : goal.invariant-loop-done
invariant-loop-done g l = IsReadTo (image l.map.regions (byte_in (g.C.MemoryCell.bytes l.host))) l.addr (length l.fn.out) l.out l.done

abbrev pub decreases-loop-done : goal.decreases-loop-done
decreases-loop-done g l = length l.initial.out - l.done
