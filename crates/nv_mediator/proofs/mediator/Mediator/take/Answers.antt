use Rattle.std.proofs.Common.{subst}
use Rattle.nv_mediator.proofs.Steps.{hosting, step-hosted, step-made}
use Rattle.nv_mediator.specs.Hosted.{Hosted, IsMade}
use Rattle.nv_world_model.specs.declared.event.Event.TheVariants as event
use Rattle.nv_mediator.proofs.Counts.{counts-more}
use Rattle.nv_mediator.proofs.mediator.Mediator.take.Goals as goal

pub take-requires-clause-counted : goal.take-requires-clause-counted
take-requires-clause-counted c =
    let h : Hosted = record { geometry = c.self.inside.layout; state = c.self.inside.core } in
    counts-more h c.args.guest c.self.invariant

pub invariant_of-self : goal.invariant_of-self
invariant_of-self c =
    let h : Hosted = record { geometry = c.self.inside.layout; state = c.self.inside.core } in
    step-hosted h c.take.new.self (event.Take c.args.guest c.args.queue c.args.lane) c.take.result c.self.invariant c.take.ensures tt

pub returns : goal.returns
returns c =
    let h : Hosted = record { geometry = c.self.inside.layout; state = c.self.inside.core } in
    subst (λ (o : Hosted). IsMade (event.Take c.args.guest c.args.queue c.args.lane) o c.take.result (hosting h c.take.new.self)) c.self.view_is
    (step-made h c.take.new.self (event.Take c.args.guest c.args.queue c.args.lane) c.take.result c.self.invariant c.take.ensures tt)
