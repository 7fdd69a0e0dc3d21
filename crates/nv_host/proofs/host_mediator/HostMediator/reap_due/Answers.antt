use Rattle.nv_host.proofs.Made.{made}
use Rattle.nv_host.proofs.Calls.{served-lent}
use Rattle.nv_host.proofs.Dues.{told-live}
use Rattle.nv_host.proofs.host_mediator.HostMediator.reap_due.Goals as goal

pub reap_due-requires : goal.reap_due-requires
reap_due-requires g c =
    let h = made c.self.inside.host_bytes c.self.inside.lanes c.self.inside.layout c.self.inside.front c.self.inside.closed.items c.self.inside.spare.items in
    served-lent h c.args.self.now c.self.view_is c.self.invariant.served (g.C.MemoryCell.bytes c.args.memory.now) c.requires

pub returns-clause-logs : goal.returns-clause-logs
returns-clause-logs g c =
    let h = made c.self.inside.host_bytes c.self.inside.lanes c.self.inside.layout c.self.inside.front c.self.inside.closed.items c.self.inside.spare.items in
    told-live h c.args.self.now c.self.view_is (g.C.MemoryCell.bytes c.args.memory.now) c.reap_due.result c.self.invariant.served c.args.lane c.reap_due.ensures.beside
