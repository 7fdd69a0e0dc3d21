use Rattle.std.proofs.Common.{◌≡◌, ◌∙◌, leb, true, arith, sym}
use Rattle.std.proofs.lemmas.Bool.Decides.{nat_tests}
use Rattle.nv_mem.proofs.Counts.{all_mapped-true}
use Rattle.nv_mem.proofs.MappedRuns.{AllMapped-run, all_mapped-none}
use Rattle.nv_mem.proofs.guest_map.GuestMap.holds_elsewhere.Goals as goal

-- all is mapped that the first stretch has
pub returns-then-len-start : goal.returns-then-len-start
returns-then-len-start c =
    let enough : leb c.args.len c.in-Some.start.left ≡ true = let short = c.if-len-start.true in grind (arith, nat_tests) in
    enough ∙ sym (all_mapped-true c.args.self.now.regions c.args.addr c.args.len
    (AllMapped-run c.args.self.now.regions c.args.addr c.in-Some.start.host c.in-Some.start.left c.args.len c.in-Some.ensures c.if-len-start.true))

-- nothing is where the first address is not, but no address at all
pub returns-in-None : goal.returns-in-None
returns-in-None c = all_mapped-none c.args.self.now.regions c.args.addr c.args.len c.in-None.ensures
