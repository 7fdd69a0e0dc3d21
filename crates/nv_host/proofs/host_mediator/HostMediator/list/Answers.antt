use Rattle.nv_host.proofs.Made.{made}
use Rattle.std.proofs.Common.{◌≡◌, ℕ, List, refl, ap}
use Rattle.nv_host.proofs.Calls.{either-done, either-served, many-same, served-lent}
use Rattle.nv_core.specs.Front.{IsSideStep}
use Rattle.nv_host.proofs.HoldNotes.{either-still, list-still}
use Rattle.nv_host.specs.Served.{Served}
use Rattle.nv_world_model.specs.declared.event.Event.TheVariants as event
use Rattle.nv_host.proofs.host_mediator.HostMediator.list.Goals as goal

pub list-requires : goal.list-requires
list-requires g c =
    let h = made c.self.inside.host_bytes c.self.inside.lanes c.self.inside.layout c.self.inside.front c.self.inside.closed.items c.self.inside.spare.items in
    served-lent h c.args.self.now c.self.view_is c.self.invariant.served (g.C.MemoryCell.bytes c.args.memory.now) c.requires

pub invariant_of-self : goal.invariant_of-self
invariant_of-self g c =
    let h = made c.self.inside.host_bytes c.self.inside.lanes c.self.inside.layout c.self.inside.front c.self.inside.closed.items c.self.inside.spare.items in
    let before : List ℕ = g.C.MemoryCell.bytes c.args.memory.now in
    let after : List ℕ = g.C.MemoryCell.bytes c.args.memory.now in
    record {
      served = either-served h c.args.self.now c.self.view_is c.self.invariant.served (event.List c.args.lane c.args.tag c.args.addr c.args.len) tt c.list.new.self before after (λ told. told.0) (c.list.new.self ≡ c.self.inside.front) (many-same h.side c.list.new.self c.list.ensures.tails) refl c.list.result c.list.ensures.ok c.list.ensures.err (λ failed. failed) c.requires;
      held = either-still (λ told. IsSideStep h.setup.geometry (event.List c.args.lane c.args.tag c.args.addr c.args.len) h.side before told.0 c.list.new.self after) h.side
          c.list.new.self c.self.inside.holds (c.list.new.self ≡ c.self.inside.front) c.list.result c.list.ensures.ok
          (λ told made. list-still h c.self.invariant.served c.self.inside.holds c.self.invariant.held c.list.new.self before after told.0 c.args.lane c.args.tag c.args.addr c.args.len made)
          c.list.ensures.err (λ failed. failed) c.self.invariant.held;
    }

pub returns-clause-ok : goal.returns-clause-ok
returns-clause-ok g c =
    let h = made c.self.inside.host_bytes c.self.inside.lanes c.self.inside.layout c.self.inside.front c.self.inside.closed.items c.self.inside.spare.items in
    let before : List ℕ = g.C.MemoryCell.bytes c.args.memory.now in
    let after : List ℕ = g.C.MemoryCell.bytes c.args.memory.now in
    either-done h c.args.self.now c.self.view_is c.self.invariant.served (event.List c.args.lane c.args.tag c.args.addr c.args.len) tt c.list.new.self before after (λ told. told.0) (c.list.new.self ≡ c.self.inside.front) (many-same h.side c.list.new.self c.list.ensures.tails) refl c.list.result c.list.ensures.ok

pub returns-clause-setup : goal.returns-clause-setup
returns-clause-setup g c = ap (λ (x : Served). x.setup) c.self.view_is
