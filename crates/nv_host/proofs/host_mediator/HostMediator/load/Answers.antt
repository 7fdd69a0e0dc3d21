use Rattle.nv_host.proofs.Made.{made}
use Rattle.std.proofs.Common.{ℕ, List, length, refl, subst}
use Rattle.nv_core.proofs.Delegated.{loaded-so}
use Rattle.nv_host.proofs.Calls.{call-done, served-lent}
use Rattle.nv_host.specs.Served.{IsDone, Served}
use Rattle.nv_model.specs.declared.act.Act.TheVariants as act
use Rattle.nv_world_model.specs.declared.event.Event.{Event}
use Rattle.nv_world_model.specs.declared.event.Event.TheVariants as event
use Rattle.nv_host.proofs.host_mediator.HostMediator.load.Goals as goal

pub load-requires : goal.load-requires
load-requires g c =
    let h = made c.self.inside.host_bytes c.self.inside.lanes c.self.inside.layout c.self.inside.front c.self.inside.closed.items c.self.inside.spare.items in
    served-lent h c.args.self.now c.self.view_is c.self.invariant.served (g.C.MemoryCell.bytes c.args.memory.now) c.requires

pub returns : goal.returns
returns g c =
    let h = made c.self.inside.host_bytes c.self.inside.lanes c.self.inside.layout c.self.inside.front c.self.inside.closed.items c.self.inside.spare.items in
    let before : List ℕ = g.C.MemoryCell.bytes c.args.memory.now in
    let e : Event = event.Guest c.args.guest (act.Load c.args.addr (length c.args.room.now)) in
    loaded-so _ _
    (λ r made. subst (λ (x : Served). IsDone e c.args.self.now before r x before) c.self.view_is
    (call-done h c.args.self.now c.self.view_is c.self.invariant.served e tt h.side before before r made refl refl))
    c.load.result c.args.room.now c.load.new.room c.load.ensures
