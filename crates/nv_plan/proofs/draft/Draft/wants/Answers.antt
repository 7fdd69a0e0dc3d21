use Rattle.std.proofs.Common.{sym}
use Rattle.nv_plan.proofs.DraftSteps.{going-turned}
use Rattle.nv_plan.proofs.draft.Draft.wants.Goals as goal

pub returns-in_ok-source-in-Turn-clause-goes_on : goal.returns-in_ok-source-in-Turn-clause-goes_on
returns-in_ok-source-in-Turn-clause-goes_on g c =
    going-turned c.args.self.now.given c.args.self.now.sqe c.args.self.now.stage c.in_ok-source-in-Turn.source (sym c.in-Turn.ensures) c.in_ok-source-in-Turn.ensures
