use Rattle.nv_host.proofs.Made.{made}
use Rattle.nv_host.proofs.Dues.{told-beside}
use Rattle.nv_world_model.specs.declared.event.Event.TheVariants as event
use Rattle.nv_host.proofs.host_mediator.HostMediator.admin_due.Goals as goal

pub admin_due-requires : goal.admin_due-requires
admin_due-requires c = c.self.invariant.served.kept

pub returns : goal.returns
returns c = λ memory.
    let h = made c.self.inside.host_bytes c.self.inside.lanes c.self.inside.layout c.self.inside.front c.self.inside.closed.items c.self.inside.spare.items in
    told-beside h c.args.self.now c.self.view_is memory c.admin_due.result (event.Admin c.args.guest) tt (c.admin_due.ensures memory)
