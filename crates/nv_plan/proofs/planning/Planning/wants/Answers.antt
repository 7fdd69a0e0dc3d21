use Rattle.std.proofs.lemmas.Result.{IfOk-weaker}
use Rattle.nv_plan.proofs.DraftSteps.{wants-next}
use Rattle.nv_plan.proofs.planning.Planning.wants.Goals as goal

pub returns-clause-next : goal.returns-clause-next
returns-clause-next g c =
    IfOk-weaker c.wants.result _ _ (λ n next. wants-next c.self.inside.draft c.wants.new.self c.self.inside.job c.args.self.now n c.self.invariant c.self.view_is c.wants.ensures.goes_on next) c.wants.ensures.next
