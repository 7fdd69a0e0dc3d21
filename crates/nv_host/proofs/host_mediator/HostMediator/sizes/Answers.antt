use Rattle.nv_host.proofs.Made.{made}
use Rattle.std.proofs.Common.{◌≤◌, length, subst}
use Rattle.nv_host.proofs.Rests.{few-guests}
use Rattle.nv_host.specs.Served.{Served}
use Rattle.nv_host.proofs.host_mediator.HostMediator.sizes.Goals as goal

pub returns-clause-guests : goal.returns-clause-guests
returns-clause-guests c =
    let h = made c.self.inside.host_bytes c.self.inside.lanes c.self.inside.layout c.self.inside.front c.self.inside.closed.items c.self.inside.spare.items in
    subst (λ (x : Served). length x.setup.geometry.guests ≤ 16) c.self.view_is (few-guests h.setup c.self.invariant.served.accepted)
