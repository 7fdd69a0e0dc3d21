use Rattle.std.proofs.Common.{◌∙◌}
use Rattle.nv_core.proofs.Delegated.{holder-here}
use Rattle.nv_core.proofs.state.Core.holder.Goals as goal

pub returns : goal.returns
returns c = c.holder.ensures ∙ holder-here c.self.inside.host c.self.inside.device c.self.inside.front c.args.self.now c.self.view_is c.args.lane c.args.tag
