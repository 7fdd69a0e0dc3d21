use Rattle.std.proofs.Common.{subst}
use Rattle.nv_core.specs.State.{world_of}
use Rattle.nv_laws_sound.specs.Consistent.{IsConsistent}
use Rattle.nv_mediator.proofs.Steps.{hosted-promised}
use Rattle.nv_mediator.specs.Hosted.{Hosted, IsPromised}
use Rattle.nv_mediator.proofs.mediator.Mediator.promise.Goals as goal

pub returns-clause-promised : goal.returns-clause-promised
returns-clause-promised c =
    let h : Hosted = record { geometry = c.self.inside.layout; state = c.self.inside.core } in
    subst IsPromised c.self.view_is (hosted-promised h c.self.invariant)

pub returns-clause-consistent : goal.returns-clause-consistent
returns-clause-consistent c = subst (λ (h : Hosted). IsConsistent h.geometry (world_of h.state)) c.self.view_is c.self.invariant.of.consistent
