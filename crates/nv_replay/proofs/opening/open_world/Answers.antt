use Rattle.std.proofs.Common.{◌∙◌, ap, sym}
use Rattle.nv_mediator.specs.Hosted.{setup_of}
use Rattle.nv_world.specs.Mediated.{opened}
use Rattle.nv_replay.proofs.Openings.{opened-as}
use Rattle.nv_replay.proofs.opening.open_world.Goals as goal

pub returns-clause-opened : goal.returns-clause-opened
returns-clause-opened c =
    let is = c.of.ensures (setup_of c.in_ok-mediator.mediator) c.in_ok-mediator.ensures.fresh in
    opened-as _ _ _ c.in_ok-mediator.ensures.opened (ap (λ m. m.setup) is)

pub returns-clause-fresh : goal.returns-clause-fresh
returns-clause-fresh c =
    let is = c.of.ensures (setup_of c.in_ok-mediator.mediator) c.in_ok-mediator.ensures.fresh in
    is ∙ ap opened (sym (ap (λ m. m.setup) is))
