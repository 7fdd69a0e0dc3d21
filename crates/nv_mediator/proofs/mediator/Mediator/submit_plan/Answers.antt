use Rattle.std.proofs.Common.{subst}
use Rattle.std.specs.Prelude.{IfSome}
use Rattle.nv_core.specs.State.{world_of}
use Rattle.nv_core.specs.Submit.{IsCurrent}
use Rattle.nv_mediator.proofs.Steps.{hosting, plan-hosted, plan-made}
use Rattle.nv_mediator.specs.Hosted.{Hosted, IsMade}
use Rattle.nv_world_model.specs.declared.event.Event.{Event}
use Rattle.nv_world_model.specs.declared.event.Event.TheVariants as event
use Rattle.nv_mediator.proofs.mediator.Mediator.submit_plan.Goals as goal

pub invariant_of-self : goal.invariant_of-self
invariant_of-self c =
    let h : Hosted = record { geometry = c.self.inside.layout; state = c.self.inside.core } in
    plan-hosted h c.submit_plan.new.self (event.Submit c.args.plan.job.lane c.args.plan.job.tag) (IsCurrent h.geometry (world_of h.state) c.args.plan)
    c.self.invariant tt c.submit_plan.result c.submit_plan.ensures.some c.submit_plan.ensures.none

pub returns-clause-some : goal.returns-clause-some
returns-clause-some c =
    let h : Hosted = record { geometry = c.self.inside.layout; state = c.self.inside.core } in
    let e : Event = event.Submit c.args.plan.job.lane c.args.plan.job.tag in
    subst (λ (o : Hosted). IfSome c.submit_plan.result (λ r. IsCurrent o.geometry (world_of o.state) c.args.plan × IsMade e o r (hosting h c.submit_plan.new.self)))
    c.self.view_is
    (plan-made h c.submit_plan.new.self e (IsCurrent h.geometry (world_of h.state) c.args.plan) c.self.invariant tt c.submit_plan.result
    c.submit_plan.ensures.some)
