use Rattle.std.proofs.Common.{subst}
use Rattle.nv_mediator.proofs.Steps.{hosting, step-hosted, step-made}
use Rattle.nv_mediator.specs.Hosted.{Hosted, IsMade}
use Rattle.nv_world_model.specs.declared.event.Event.TheVariants as event
use Rattle.nv_mediator.proofs.mediator.Mediator.dev_fail.Goals as goal

pub invariant_of-self : goal.invariant_of-self
invariant_of-self c =
    let h : Hosted = record { geometry = c.self.inside.layout; state = c.self.inside.core } in
    step-hosted h c.dev_fail.new.self (event.DevFail c.args.lane c.args.slot c.args.status) c.dev_fail.result c.self.invariant c.dev_fail.ensures (c.fits.ensures.kind, c.fits.ensures.code)

pub returns : goal.returns
returns c =
    let h : Hosted = record { geometry = c.self.inside.layout; state = c.self.inside.core } in
    subst (λ (o : Hosted). IsMade (event.DevFail c.args.lane c.args.slot c.args.status) o c.dev_fail.result (hosting h c.dev_fail.new.self)) c.self.view_is
    (step-made h c.dev_fail.new.self (event.DevFail c.args.lane c.args.slot c.args.status) c.dev_fail.result c.self.invariant c.dev_fail.ensures (c.fits.ensures.kind, c.fits.ensures.code))
