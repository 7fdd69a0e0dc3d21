use Rattle.std.proofs.Common.{rules}
use Rattle.nv_mem.proofs.guest_order.in_list_order.Goals as goal

-- each place is what the call gave for it
pub returns : goal.returns
returns c = λ k below. let call = c.from_fn.ensures.items.at k 0 below in search (rules, call.2)
