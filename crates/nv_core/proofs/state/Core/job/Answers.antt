use Rattle.std.proofs.Common.{◌≡◌, Option, subst}
use Rattle.std.specs.Prelude.{IfOk, IsSome, OnErr}
use Rattle.nv_core.proofs.Delegated.{job-here}
use Rattle.nv_plan.specs.declared.job.Job.{Job}
use Rattle.nv_core.proofs.state.Core.job.Goals as goal

pub returns-clause-ok : goal.returns-clause-ok
returns-clause-ok c =
    subst (λ (told : Option Job). IfOk c.job.result (λ x. x ≡ told)) (job-here c.self.inside.host c.self.inside.device c.self.inside.front c.args.self.now c.self.view_is c.args.lane c.args.tag) c.job.ensures.ok

pub returns-clause-err : goal.returns-clause-err
returns-clause-err c =
    subst (λ (told : Option Job). OnErr c.job.result (IsSome told)) (job-here c.self.inside.host c.self.inside.device c.self.inside.front c.args.self.now c.self.view_is c.args.lane c.args.tag) c.job.ensures.err
