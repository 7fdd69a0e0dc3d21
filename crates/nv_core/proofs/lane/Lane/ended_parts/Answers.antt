use Rattle.std.proofs.Common.{◌∙◌}
use Rattle.nv_core.proofs.MarkedTags.{ended-there}
use Rattle.nv_core.proofs.lane.Lane.ended_parts.Goals as goal

pub returns : goal.returns
returns c =
    let i = c.self.inside in
    c.ended.ensures ∙ ended-there i.head i.phase i.tags i.progress.items c.args.self.now c.self.invariant c.self.view_is
