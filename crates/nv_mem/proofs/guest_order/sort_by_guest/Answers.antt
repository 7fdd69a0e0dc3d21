use Rattle.std.proofs.Common.{rules}
use Rattle.std.proofs.lemmas.List.Sorted.{IsNonDecreasingBy-from_sort_by_key}
use Rattle.nv_mem.specs.GuestOrder.{begin_of}
use Rattle.nv_mem.proofs.guest_order.sort_by_guest.Goals as goal

pub returns-clause-ascending : goal.returns-clause-ascending
returns-clause-ascending c = IsNonDecreasingBy-from_sort_by_key (begin_of c.args.regions.now) _ c.sort_unstable_by_key.ensures.sorted (λ a r q k. search rules)
