use Rattle.nv_host.proofs.Made.{made}
use Rattle.nv_host.proofs.Calls.{served-lent}
use Rattle.nv_host.proofs.Dues.{told-beside}
use Rattle.nv_world_model.specs.declared.event.Event.TheVariants as event
use Rattle.nv_host.proofs.host_mediator.HostMediator.take_due.Goals as goal

pub take_due-requires : goal.take_due-requires
take_due-requires g c =
    let h = made c.self.inside.host_bytes c.self.inside.lanes c.self.inside.layout c.self.inside.front c.self.inside.closed.items c.self.inside.spare.items in
    served-lent h c.args.self.now c.self.view_is c.self.invariant.served (g.C.MemoryCell.bytes c.args.memory.now) c.requires

pub returns : goal.returns
returns g c =
    let h = made c.self.inside.host_bytes c.self.inside.lanes c.self.inside.layout c.self.inside.front c.self.inside.closed.items c.self.inside.spare.items in
    told-beside h c.args.self.now c.self.view_is (g.C.MemoryCell.bytes c.args.memory.now) c.take_due.result (event.Take c.args.guest c.args.queue c.args.lane) tt c.take_due.ensures
