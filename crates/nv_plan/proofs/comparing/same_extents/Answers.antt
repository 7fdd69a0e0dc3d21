use Rattle.std.proofs.Common.{arith}
use Rattle.std.proofs.lemmas.Bool.Decides.{nat_tests}
use Rattle.nv_plan.proofs.ItemsSame.{decided}
use Rattle.nv_ns.specs.BlockRange.{Extent}
use Rattle.nv_plan.proofs.comparing.same_extents.Goals as goal

pub returns : goal.returns
returns c =
    decided c.args.extents.now c.args.others.now c.eq.result c.eq.ensures (λ (x y : Extent) e. grind (arith, nat_tests)) (λ (x : Extent). grind (arith, nat_tests))
