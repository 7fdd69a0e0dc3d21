use Rattle.std.proofs.Common.{subst}
use Rattle.nv_mediator.proofs.Steps.{hosting, step-hosted, step-made}
use Rattle.nv_mediator.specs.Hosted.{Hosted, IsMade}
use Rattle.nv_world_model.specs.declared.event.Event.TheVariants as event
use Rattle.nv_mediator.proofs.mediator.Mediator.admin.Goals as goal

pub invariant_of-self : goal.invariant_of-self
invariant_of-self c =
    let h : Hosted = record { geometry = c.self.inside.layout; state = c.self.inside.core } in
    step-hosted h c.admin.new.self (event.Admin c.args.guest) c.admin.result c.self.invariant c.admin.ensures tt

pub returns : goal.returns
returns c =
    let h : Hosted = record { geometry = c.self.inside.layout; state = c.self.inside.core } in
    subst (λ (o : Hosted). IsMade (event.Admin c.args.guest) o c.admin.result (hosting h c.admin.new.self)) c.self.view_is
    (step-made h c.admin.new.self (event.Admin c.args.guest) c.admin.result c.self.invariant c.admin.ensures tt)
