use Rattle.std.proofs.Common.{◌∙◌}
use Rattle.nv_core.proofs.MarkedTags.{flying-there}
use Rattle.nv_core.proofs.lane.Lane.flying.Goals as goal

pub returns : goal.returns
returns c =
    let i = c.self.inside in
    c.flying.ensures ∙ flying-there i.head i.phase i.tags i.progress.items c.args.self.now c.self.invariant c.self.view_is
