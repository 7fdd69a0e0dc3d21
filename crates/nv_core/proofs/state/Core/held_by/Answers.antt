use Rattle.std.proofs.Common.{◌∙◌}
use Rattle.nv_core.proofs.Delegated.{held-here}
use Rattle.nv_core.proofs.state.Core.held_by.Goals as goal

pub returns-clause-held : goal.returns-clause-held
returns-clause-held c =
    λ _. c.held_by.ensures ∙ held-here c.self.inside.host c.self.inside.device c.self.inside.front c.args.self.now c.self.view_is c.args.guest c.args.lane
