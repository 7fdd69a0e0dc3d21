use Rattle.nv_host.proofs.Made.{made}
use Rattle.std.proofs.Common.{subst}
use Rattle.nv_host.proofs.Accepted.{leads-promised}
use Rattle.nv_host.specs.Served.{IsAccepted, IsPromised, Served}
use Rattle.nv_host.proofs.host_mediator.HostMediator.promise.Goals as goal

pub returns-clause-accepted : goal.returns-clause-accepted
returns-clause-accepted c = subst (λ (h : Served). IsAccepted h.setup) c.self.view_is c.self.invariant.served.accepted

pub returns-clause-promised : goal.returns-clause-promised
returns-clause-promised c =
    let h = made c.self.inside.host_bytes c.self.inside.lanes c.self.inside.layout c.self.inside.front c.self.inside.closed.items c.self.inside.spare.items in
    subst IsPromised c.self.view_is (λ first memory log z leads. leads-promised h.setup c.self.invariant.served.accepted c.self.invariant.served.sound first h.side memory log z leads)
