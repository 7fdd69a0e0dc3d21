use Rattle.std.proofs.Common.{◌≡◌, ◌++◌, length, take, drop, arith, rules, ◌∙◌}
use Rattle.std.proofs.lemmas.List.{get_or-take, get_or_append_left, length-take-le}
use Rattle.std.proofs.lemmas.List.Sorted.{length_permutation}
use Rattle.nv_mem.specs.GuestOrder.{ranks}
use Rattle.nv_mem.proofs.Orders.{IsGuestOrder-sorted}
use Rattle.nv_mem.proofs.guest_order.GuestOrder.of.Goals as goal

-- the front of the places is sorted
pub returns-then-regions-le-RANKS : goal.returns-then-regions-le-RANKS
returns-then-regions-le-RANKS c few =
    let rs = c.args.regions.now in
    let all = c.in_list_order-places.result in
    let long : length all ≡ ranks = search rules in
    let kept = c.sort_by_guest.ensures.permutation in
    let front = length-take-le (length rs) all (omega arith) in
    let same = length_permutation (take (length rs) all) c.sort_by_guest.new.places kept in
    IsGuestOrder-sorted rs (take (length rs) all) c.sort_by_guest.new.places (c.sort_by_guest.new.places ++ drop (length rs) all)
    (λ k below. get_or-take (length rs) all k 0 below ∙ c.in_list_order-places.ensures k (omega arith))
    front
    kept
    c.sort_by_guest.ensures.ascending
    (λ k below. get_or_append_left c.sort_by_guest.new.places (drop (length rs) all) 0 k (omega (arith, same, front)))
