use Rattle.std.proofs.Common.{length}
use Rattle.nv_mem.specs.GuestOrder.{IsWindow, ranked_begin}
use Rattle.nv_mem.proofs.guest_order.GuestOrder.rank_of.Given as goal

abbrev pub invariant-loop-size : goal.invariant-loop-size
invariant-loop-size l = IsWindow (ranked_begin l.regions l.self.places) (length l.regions) l.addr l.rank l.size

abbrev pub decreases-loop-size : goal.decreases-loop-size
decreases-loop-size l = l.size

abbrev pub invariant-loop-size-2 : goal.invariant-loop-size-2
invariant-loop-size-2 l = IsWindow (ranked_begin l.regions l.self.places) (length l.regions) l.addr l.rank l.size

abbrev pub decreases-loop-size-2 : goal.decreases-loop-size-2
decreases-loop-size-2 l = l.size
