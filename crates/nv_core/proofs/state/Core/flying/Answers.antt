use Rattle.std.proofs.Common.{◌∙◌, Some}
use Rattle.nv_core.specs.Tags.{is_flying}
use Rattle.nv_core.proofs.Delegated.{placeless-flying, those-here}
use Rattle.nv_core.proofs.state.Core.flying.Goals as goal

pub returns : goal.returns
returns c =
    c.flying.ensures ∙ those-here c.self.inside.host c.self.inside.device c.self.inside.front c.args.self.now c.self.view_is (λ t. is_flying (Some t)) placeless-flying c.args.lane
