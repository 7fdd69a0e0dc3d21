use Rattle.std.proofs.Common.{ap, length, arith}
use Rattle.nv_ns.specs.Filled.{IsFilled-push, filled_len, no_part}
use Rattle.nv_ns.proofs.several.Several.push.Goals as goal

pub invariant_of-self : goal.invariant_of-self
invariant_of-self c =
    let len = filled_len no_part c.self.inside.parts c.self.inside.len c.self.invariant in
    let view = ap length c.self.view_is in
    IsFilled-push no_part c.self.inside.parts c.self.inside.len c.args.part c.self.invariant (omega arith)
