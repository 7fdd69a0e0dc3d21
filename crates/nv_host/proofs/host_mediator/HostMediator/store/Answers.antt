use Rattle.nv_host.proofs.Made.{made}
use Rattle.std.proofs.Common.{ℕ, List, refl, subst}
use Rattle.nv_host.proofs.Calls.{call-done, served-lent}
use Rattle.nv_host.specs.Served.{IsDone, Served}
use Rattle.nv_model.specs.declared.act.Act.TheVariants as act
use Rattle.nv_world_model.specs.declared.event.Event.TheVariants as event
use Rattle.nv_host.proofs.host_mediator.HostMediator.store.Goals as goal

pub store-requires : goal.store-requires
store-requires g c =
    let h = made c.self.inside.host_bytes c.self.inside.lanes c.self.inside.layout c.self.inside.front c.self.inside.closed.items c.self.inside.spare.items in
    served-lent h c.args.self.now c.self.view_is c.self.invariant.served (g.C.MemoryCell.bytes c.args.memory.now) c.requires

pub returns-clause-done : goal.returns-clause-done
returns-clause-done g c =
    let h = made c.self.inside.host_bytes c.self.inside.lanes c.self.inside.layout c.self.inside.front c.self.inside.closed.items c.self.inside.spare.items in
    let before : List ℕ = g.C.MemoryCell.bytes c.args.memory.now in
    let after : List ℕ = g.C.MemoryCell.bytes c.store.new.host in
    subst (λ (x : Served). IsDone (event.Guest c.args.guest (act.Store c.args.addr c.args.bytes.now)) c.args.self.now before c.store.result x after) c.self.view_is
    (call-done h c.args.self.now c.self.view_is c.self.invariant.served (event.Guest c.args.guest (act.Store c.args.addr c.args.bytes.now)) tt c.self.inside.front before after c.store.result c.store.ensures.step refl c.store.ensures.len)
