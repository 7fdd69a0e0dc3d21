use Rattle.std.proofs.Common.{◌∙◌}
use Rattle.nv_core.specs.Tags.{is_ended}
use Rattle.nv_core.proofs.Delegated.{placeless-ended, those-here}
use Rattle.nv_core.proofs.state.Core.ended.Goals as goal

pub returns : goal.returns
returns c =
    c.ended.ensures ∙ those-here c.self.inside.host c.self.inside.device c.self.inside.front c.args.self.now c.self.view_is is_ended placeless-ended c.args.lane
