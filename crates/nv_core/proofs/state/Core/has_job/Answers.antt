use Rattle.std.proofs.Common.{◌≡◌, Option, Some, subst}
use Rattle.std.specs.Prelude.{◌↔◌, IsTrue}
use Rattle.nv_core.proofs.Delegated.{job-here}
use Rattle.nv_plan.specs.declared.job.Job.{Job}
use Rattle.nv_core.proofs.state.Core.has_job.Goals as goal

pub returns : goal.returns
returns c =
    subst (λ (told : Option Job). IsTrue c.has_job.result ↔ (told ≡ Some c.args.job.now))
    (job-here c.self.inside.host c.self.inside.device c.self.inside.front c.args.self.now c.self.view_is c.args.job.now.lane c.args.job.now.tag) c.has_job.ensures
