use Rattle.std.proofs.Common.{arith}
use Rattle.std.proofs.lemmas.Bool.Decides.{nat_tests}
use Rattle.nv_plan.proofs.ItemsSame.{decided}
use Rattle.nv_mem.specs.declared.region.Region.{Region}
use Rattle.nv_plan.proofs.comparing.same_regions.Goals as goal

pub returns : goal.returns
returns c =
    decided c.args.regions.now c.args.others.now c.eq.result c.eq.ensures (λ (x y : Region) e. grind (arith, nat_tests)) (λ (x : Region). grind (arith, nat_tests))
