use Rattle.nv_host.proofs.Made.{made}
use Rattle.std.proofs.Common.{◌≡◌, ℕ, List, ap}
use Rattle.nv_host.proofs.Calls.{handed-done, handed-served, many-moved, served-lent}
use Rattle.nv_core.specs.Front.{IsStepInEach}
use Rattle.nv_host.proofs.HoldNotes.{either-still, submit-still}
use Rattle.nv_host.specs.Served.{Served}
use Rattle.nv_world_model.specs.declared.event.Event.TheVariants as event
use Rattle.nv_host.proofs.host_mediator.HostMediator.submit.Goals as goal

pub submit-requires : goal.submit-requires
submit-requires g c =
    let h = made c.self.inside.host_bytes c.self.inside.lanes c.self.inside.layout c.self.inside.front c.self.inside.closed.items c.self.inside.spare.items in
    served-lent h c.args.self.now c.self.view_is c.self.invariant.served (g.C.MemoryCell.bytes c.args.memory.now) c.requires

pub invariant_of-self : goal.invariant_of-self
invariant_of-self g c =
    let h = made c.self.inside.host_bytes c.self.inside.lanes c.self.inside.layout c.self.inside.front c.self.inside.closed.items c.self.inside.spare.items in
    let before : List ℕ = g.C.MemoryCell.bytes c.args.memory.now in
    let after : List ℕ = g.C.MemoryCell.bytes c.submit.new.host in
    record {
      served = handed-served h c.args.self.now c.self.view_is c.self.invariant.served (event.Submit c.args.lane c.args.tag) tt c.submit.new.self before after ((c.submit.new.self ≡ c.self.inside.front) × (after ≡ before)) (many-moved c.args.lane h.side c.submit.new.self c.submit.ensures.tails) c.submit.ensures.len c.submit.result c.submit.ensures.ok c.submit.ensures.same c.submit.ensures.err (λ failed. failed.0) c.requires;
      held = either-still (λ r. IsStepInEach h.setup.geometry (event.Submit c.args.lane c.args.tag) h.side before r c.submit.new.self after) h.side
          c.submit.new.self c.self.inside.holds ((c.submit.new.self ≡ c.self.inside.front) × (after ≡ before)) c.submit.result c.submit.ensures.ok
          (λ r made. submit-still h c.self.invariant.served c.self.inside.holds c.self.invariant.held c.submit.new.self before after r c.args.lane c.args.tag made)
          c.submit.ensures.err (λ failed. failed.0) c.self.invariant.held;
    }

pub returns-clause-ok : goal.returns-clause-ok
returns-clause-ok g c =
    let h = made c.self.inside.host_bytes c.self.inside.lanes c.self.inside.layout c.self.inside.front c.self.inside.closed.items c.self.inside.spare.items in
    let before : List ℕ = g.C.MemoryCell.bytes c.args.memory.now in
    let after : List ℕ = g.C.MemoryCell.bytes c.submit.new.host in
    handed-done h c.args.self.now c.self.view_is c.self.invariant.served (event.Submit c.args.lane c.args.tag) tt c.submit.new.self before after ((c.submit.new.self ≡ c.self.inside.front) × (after ≡ before)) (many-moved c.args.lane h.side c.submit.new.self c.submit.ensures.tails) c.submit.ensures.len c.submit.result c.submit.ensures.ok c.submit.ensures.same

pub returns-clause-setup : goal.returns-clause-setup
returns-clause-setup g c = ap (λ (x : Served). x.setup) c.self.view_is
