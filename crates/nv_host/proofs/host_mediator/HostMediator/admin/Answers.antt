use Rattle.nv_host.proofs.Made.{made}
use Rattle.std.proofs.Common.{ℕ, List, subst, sym}
use Rattle.nv_host.proofs.Calls.{call-done, call-served, many-same, served-lent, side-dull}
use Rattle.nv_host.proofs.HoldNotes.{admin-forgets, reply-noted}
use Rattle.nv_host.specs.Holds.{AreHeld}
use Rattle.nv_host.specs.declared.holds.Holds.{Holds}
use Rattle.nv_world_model.specs.declared.event.Event.TheVariants as event
use Rattle.nv_host.proofs.host_mediator.HostMediator.admin.Goals as goal

pub admin-reply-requires : goal.admin-reply-requires
admin-reply-requires g c =
    let h = made c.self.inside.host_bytes c.self.inside.lanes c.self.inside.layout c.self.inside.front c.self.inside.closed.items c.self.inside.spare.items in
    served-lent h c.args.self.now c.self.view_is c.self.invariant.served (g.C.MemoryCell.bytes c.args.memory.now) c.requires

pub invariant_of-self : goal.invariant_of-self
invariant_of-self g c =
    let h = made c.self.inside.host_bytes c.self.inside.lanes c.self.inside.layout c.self.inside.front c.self.inside.closed.items c.self.inside.spare.items in
    let before : List ℕ = g.C.MemoryCell.bytes c.args.memory.now in
    let after : List ℕ = g.C.MemoryCell.bytes c.admin-reply.new.host in
    record {
      served = call-served h c.args.self.now c.self.view_is c.self.invariant.served (event.Admin c.args.guest) tt c.admin-reply.new.self before after c.admin-reply.result
          c.admin-reply.ensures.step (many-same h.side c.admin-reply.new.self c.admin-reply.ensures.tails) c.admin-reply.ensures.len c.requires;
      held = subst (λ (x : Holds). AreHeld c.admin-reply.new.self x) (sym c.note.ensures)
          (reply-noted h.side c.admin-reply.new.self c.self.inside.holds c.admin-reply.result c.args.guest
          (side-dull h (event.Admin c.args.guest) c.admin-reply.new.self before after c.admin-reply.result c.admin-reply.ensures.step
          (many-same h.side c.admin-reply.new.self c.admin-reply.ensures.tails)) c.self.invariant.held
          (admin-forgets h c.self.invariant.served c.self.inside.holds c.self.invariant.held c.admin-reply.new.self before after c.admin-reply.result c.args.guest
          c.admin-reply.ensures.step));
    }

pub returns-clause-done : goal.returns-clause-done
returns-clause-done g c =
    let h = made c.self.inside.host_bytes c.self.inside.lanes c.self.inside.layout c.self.inside.front c.self.inside.closed.items c.self.inside.spare.items in
    let before : List ℕ = g.C.MemoryCell.bytes c.args.memory.now in
    let after : List ℕ = g.C.MemoryCell.bytes c.admin-reply.new.host in
    call-done h c.args.self.now c.self.view_is c.self.invariant.served (event.Admin c.args.guest) tt c.admin-reply.new.self before after c.admin-reply.result c.admin-reply.ensures.step (many-same h.side c.admin-reply.new.self c.admin-reply.ensures.tails) c.admin-reply.ensures.len
