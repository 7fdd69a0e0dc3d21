use Rattle.std.proofs.Common.{subst}
use Rattle.nv_mediator.proofs.Steps.{hosting, step-hosted, step-made}
use Rattle.nv_mediator.specs.Hosted.{Hosted, IsMade}
use Rattle.nv_world_model.specs.declared.event.Event.TheVariants as event
use Rattle.nv_mediator.proofs.mediator.Mediator.keep.Goals as goal

pub invariant_of-self : goal.invariant_of-self
invariant_of-self c =
    let h : Hosted = record { geometry = c.self.inside.layout; state = c.self.inside.core } in
    step-hosted h c.keep.new.self (event.Keep c.args.block) c.keep.result c.self.invariant c.keep.ensures tt

pub returns : goal.returns
returns c =
    let h : Hosted = record { geometry = c.self.inside.layout; state = c.self.inside.core } in
    subst (λ (o : Hosted). IsMade (event.Keep c.args.block) o c.keep.result (hosting h c.keep.new.self)) c.self.view_is
    (step-made h c.keep.new.self (event.Keep c.args.block) c.keep.result c.self.invariant c.keep.ensures tt)
