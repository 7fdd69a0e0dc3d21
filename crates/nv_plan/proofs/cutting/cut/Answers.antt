use Rattle.std.proofs.Common.{arith}
use Rattle.nv_plan.proofs.CutPlaces.{address-fits}
use Rattle.nv_plan.proofs.cutting.cut.Goals as goal

pub overflow_add-result : goal.overflow_add-result
overflow_add-result c =
    let there = address-fits c.args.piece c.in-Run.addr c.in-Run.len c.args.skip c.requires.addressed c.in-Run.is c.requires.some in omega arith
