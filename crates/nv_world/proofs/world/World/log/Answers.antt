use Rattle.std.proofs.Common.{subst}
use Rattle.nv_world.specs.Mediated.{IsContained, KeepsPromise, Kept}
use Rattle.nv_world.proofs.world.World.log.Goals as goal

pub returns-clause-contained : goal.returns-clause-contained
returns-clause-contained c =
    let k : Kept = record { geometry = c.self.inside.mediator.geometry; state = c.self.inside.mediator.state; log = c.self.inside.log.items } in
    subst IsContained c.self.view_is (c.promise.ensures.promised k.log c.self.invariant).contained

pub returns-clause-promise : goal.returns-clause-promise
returns-clause-promise c =
    let k : Kept = record { geometry = c.self.inside.mediator.geometry; state = c.self.inside.mediator.state; log = c.self.inside.log.items } in
    subst KeepsPromise c.self.view_is (c.promise.ensures.promised k.log c.self.invariant)
