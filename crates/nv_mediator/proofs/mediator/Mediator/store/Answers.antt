use Rattle.std.proofs.Common.{subst}
use Rattle.nv_mediator.proofs.Steps.{hosting, step-hosted, step-made}
use Rattle.nv_mediator.specs.Hosted.{Hosted, IsMade}
use Rattle.nv_model.specs.declared.act.Act.TheVariants as act
use Rattle.nv_world_model.specs.declared.event.Event.TheVariants as event
use Rattle.nv_mediator.proofs.mediator.Mediator.store.Goals as goal

pub invariant_of-self : goal.invariant_of-self
invariant_of-self c =
    let h : Hosted = record { geometry = c.self.inside.layout; state = c.self.inside.core } in
    step-hosted h c.store.new.self (event.Guest c.args.guest (act.Store c.args.addr c.args.bytes.now)) c.store.result c.self.invariant c.store.ensures tt

pub returns : goal.returns
returns c =
    let h : Hosted = record { geometry = c.self.inside.layout; state = c.self.inside.core } in
    subst (λ (o : Hosted). IsMade (event.Guest c.args.guest (act.Store c.args.addr c.args.bytes.now)) o c.store.result (hosting h c.store.new.self)) c.self.view_is
    (step-made h c.store.new.self (event.Guest c.args.guest (act.Store c.args.addr c.args.bytes.now)) c.store.result c.self.invariant c.store.ensures tt)
