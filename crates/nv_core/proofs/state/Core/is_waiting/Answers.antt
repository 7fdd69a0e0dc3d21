use Rattle.std.proofs.Common.{Option, subst}
use Rattle.std.specs.Prelude.{◌↔◌, IsSome, IsTrue}
use Rattle.nv_core.proofs.Delegated.{job-here}
use Rattle.nv_plan.specs.declared.job.Job.{Job}
use Rattle.nv_core.proofs.state.Core.is_waiting.Goals as goal

pub returns : goal.returns
returns c =
    subst (λ (told : Option Job). IsTrue c.is_waiting.result ↔ IsSome told) (job-here c.self.inside.host c.self.inside.device c.self.inside.front c.args.self.now c.self.view_is c.args.lane c.args.tag) c.is_waiting.ensures
