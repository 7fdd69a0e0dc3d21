use Rattle.std.proofs.Common.{◌∙◌}
use Rattle.nv_core.proofs.FullQueues.{from-there}
use Rattle.nv_core.proofs.lane.Lane.from_queue.Goals as goal

pub returns : goal.returns
returns c =
    let i = c.self.inside in
    c.from_queue.ensures ∙ from-there i.head i.phase i.tags i.progress.items c.args.self.now c.self.invariant c.self.view_is c.args.guest c.args.queue
