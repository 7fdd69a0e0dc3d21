use Rattle.std.proofs.Common.{sym}
use Rattle.nv_zeroed.proofs.Lists.{length-view}
use Rattle.nv_zeroed.proofs.zeroed.Zeroed.len.Goals as goal

pub returns : goal.returns
returns c = sym (length-view 262144 c.self.inside.len c.self.inside.chunks.items c.args.self.now c.self.invariant c.self.view_is)
