use Rattle.std.proofs.Common.{◌∙◌}
use Rattle.nv_core.proofs.HeldTags.{held-there}
use Rattle.nv_core.proofs.lane.Lane.held_by.Goals as goal

pub returns : goal.returns
returns c =
    let i = c.self.inside in
    c.held.ensures ∙ held-there i.head i.phase i.tags i.progress.items c.args.self.now c.self.invariant c.self.view_is c.args.guest
