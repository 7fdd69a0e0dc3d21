use Rattle.std.proofs.Common.{arith, length}
use Rattle.nv_mem.specs.GuestOrder.{ranked_begin}
use Rattle.nv_mem.proofs.Orders.{IsWindow-quarter}
use Rattle.nv_mem.proofs.guest_order.GuestOrder.rank_of.Goals as goal

-- three looks leave a quarter
pub loop-size-preserved : goal.loop-size-preserved
loop-size-preserved c =
    IsWindow-quarter (ranked_begin c.args.regions.now c.args.self.now.places) (length c.args.regions.now) c.args.addr c.loop-size.rank c.loop-size.size _ _ _ _
    c.requires.ordered.ascending c.loop-size.invariant (omega arith) (omega arith) c.begun.ensures c.begun-in-loop-size.ensures c.begun-in-loop-size-2.ensures
