use Rattle.std.proofs.Common.{◌∙◌}
use Rattle.nv_core.proofs.MarkedTags.{taken-there}
use Rattle.nv_core.proofs.lane.Lane.taken.Goals as goal

pub returns : goal.returns
returns c =
    let i = c.self.inside in
    c.taken.ensures ∙ taken-there i.head i.phase i.tags i.progress.items c.args.self.now c.self.invariant c.self.view_is
