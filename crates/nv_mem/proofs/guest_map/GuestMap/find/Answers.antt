use Rattle.std.proofs.Common.{◌≡◌, ◌≤◌, length, ap, arith, sym}
use Rattle.nv_mem.specs.GuestOrder.{ranks}
use Rattle.nv_mem.proofs.guest_map.GuestMap.find.Goals as goal

-- a map of so few regions is kept in order
pub find-requires-clause-ordered : goal.find-requires-clause-ordered
find-requires-clause-ordered c =
    let same : length c.self.inside.regions.items ≡ length c.deref.result.now = ap (λ rs. length rs) (sym c.deref.ensures.value) in
    let few : length c.self.inside.regions.items ≤ ranks = omega (arith, same, c.deref.ensures.len, c.len.ensures, c.if-len-le-RANKS.true) in
    rw c.deref.ensures.value (c.self.invariant.ordered few)
