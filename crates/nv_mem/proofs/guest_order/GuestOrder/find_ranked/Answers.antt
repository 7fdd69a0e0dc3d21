use Rattle.std.proofs.Common.{◌≡◌, false, get_or, length, ◌<◌, arith, rules, sym, ◌∙◌}
use Rattle.std.proofs.lemmas.List.{get_or_default}
use Rattle.nv_mem.specs.declared.region.Region.{Region}
use Rattle.nv_mem.specs.GuestMap.{covers}
use Rattle.nv_mem.proofs.Orders.{find-covering, find-uncovered, uncovered-ranked}
use Rattle.nv_mem.proofs.guest_order.GuestOrder.find_ranked.Goals as goal

-- the region that covers the address is the one that is found
pub returns-then-covers : goal.returns-then-covers
returns-then-covers c =
    sym (find-covering c.args.regions.now c.from.result c.args.addr (record { guest = 0; host = 0; len = 0 }) c.requires.apart (search rules) (search rules))

-- and none does where it does not
pub returns-else-covers : goal.returns-else-covers
returns-else-covers c =
    let no : Region = record { guest = 0; host = 0; len = 0 } in
    let uncovered : covers (get_or c.args.regions.now c.from.result no) c.args.addr ≡ false = sym c.covers.ensures ∙ c.if-covers.false in
    let there : get_or c.args.self.now.places c.args.rank 0 < length c.args.regions.now = c.requires.ordered.within _ (let w = c.requires.last.within in omega arith) in
    let at : c.from.result ≡ get_or c.args.self.now.places c.args.rank 0 = c.from.ensures in
    sym (find-uncovered c.args.regions.now c.args.addr
    (uncovered-ranked c.args.regions.now c.args.self.now.places c.args.addr c.args.rank c.requires.ordered c.requires.paged c.requires.apart c.requires.last
    (λ d. rw (get_or_default c.args.regions.now (get_or c.args.self.now.places c.args.rank 0) d no there) (rw (← at) uncovered))))
