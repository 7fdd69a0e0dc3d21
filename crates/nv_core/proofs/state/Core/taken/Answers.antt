use Rattle.std.proofs.Common.{◌∙◌}
use Rattle.nv_core.specs.Tags.{is_taken}
use Rattle.nv_core.proofs.Delegated.{placeless-taken, those-here}
use Rattle.nv_core.proofs.state.Core.taken.Goals as goal

pub returns : goal.returns
returns c =
    c.taken.ensures ∙ those-here c.self.inside.host c.self.inside.device c.self.inside.front c.args.self.now c.self.view_is is_taken placeless-taken c.args.lane
