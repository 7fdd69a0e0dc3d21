use Rattle.nv_host.proofs.Made.{made}
use Rattle.std.proofs.Common.{ℕ, ◌∙◌, List, subst, sym}
use Rattle.nv_host.proofs.Calls.{call-done, call-served, many-same, served-lent, side-dull}
use Rattle.nv_host.proofs.HoldNotes.{post-forgets, post-still, reply-noted}
use Rattle.nv_host.specs.Holds.{AreHeld}
use Rattle.nv_host.specs.declared.holds.Holds.{Holds}
use Rattle.nv_world_model.specs.declared.event.Event.TheVariants as event
use Rattle.nv_host.proofs.host_mediator.HostMediator.post.Goals as goal

pub post-reply-requires-clause-lent : goal.post-reply-requires-clause-lent
post-reply-requires-clause-lent g c =
    let h = made c.self.inside.host_bytes c.self.inside.lanes c.self.inside.layout c.self.inside.front c.self.inside.closed.items c.self.inside.spare.items in
    served-lent h c.args.self.now c.self.view_is c.self.invariant.served (g.C.MemoryCell.bytes c.args.memory.now) c.requires

pub invariant_of-self : goal.invariant_of-self
invariant_of-self g c =
    let h = made c.self.inside.host_bytes c.self.inside.lanes c.self.inside.layout c.self.inside.front c.self.inside.closed.items c.self.inside.spare.items in
    let before : List ℕ = g.C.MemoryCell.bytes c.args.memory.now in
    let after : List ℕ = g.C.MemoryCell.bytes c.post-reply.new.host in
    record {
      served = call-served h c.args.self.now c.self.view_is c.self.invariant.served (event.Post c.args.lane c.args.tag) tt c.post-reply.new.self before after c.post-reply.result
          c.post-reply.ensures.step (many-same h.side c.post-reply.new.self c.post-reply.ensures.tails) c.post-reply.ensures.len c.requires;
      held = subst (λ (x : Holds). AreHeld c.post-reply.new.self x) (sym c.note.ensures)
          (reply-noted h.side c.post-reply.new.self c.self.inside.holds c.post-reply.result c.in-Some.holder.guest
          (side-dull h (event.Post c.args.lane c.args.tag) c.post-reply.new.self before after c.post-reply.result c.post-reply.ensures.step
          (many-same h.side c.post-reply.new.self c.post-reply.ensures.tails)) c.self.invariant.held
          (post-forgets h c.self.invariant.served c.self.inside.holds c.self.invariant.held c.post-reply.new.self before after c.post-reply.result c.args.lane c.args.tag c.post-reply.ensures.step c.in-Some.holder
          (sym c.holder-holder.ensures ∙ c.in-Some.is)));
    }

pub invariant_of-self-in_default : goal.invariant_of-self-in_default
invariant_of-self-in_default g c =
    let h = made c.self.inside.host_bytes c.self.inside.lanes c.self.inside.layout c.self.inside.front c.self.inside.closed.items c.self.inside.spare.items in
    let before : List ℕ = g.C.MemoryCell.bytes c.args.memory.now in
    let after : List ℕ = g.C.MemoryCell.bytes c.post-reply.new.host in
    record {
      served = call-served h c.args.self.now c.self.view_is c.self.invariant.served (event.Post c.args.lane c.args.tag) tt c.post-reply.new.self before after c.post-reply.result
          c.post-reply.ensures.step (many-same h.side c.post-reply.new.self c.post-reply.ensures.tails) c.post-reply.ensures.len c.requires;
      held = post-still h c.self.invariant.served c.self.inside.holds c.self.invariant.held c.post-reply.new.self before after c.post-reply.result c.args.lane c.args.tag c.post-reply.ensures.step
          (sym c.holder-holder.ensures ∙ c.in_default.is);
    }

pub returns-in-Some-clause-done : goal.returns-in-Some-clause-done
returns-in-Some-clause-done g c =
    let h = made c.self.inside.host_bytes c.self.inside.lanes c.self.inside.layout c.self.inside.front c.self.inside.closed.items c.self.inside.spare.items in
    let before : List ℕ = g.C.MemoryCell.bytes c.args.memory.now in
    let after : List ℕ = g.C.MemoryCell.bytes c.post-reply.new.host in
    call-done h c.args.self.now c.self.view_is c.self.invariant.served (event.Post c.args.lane c.args.tag) tt c.post-reply.new.self before after c.post-reply.result
    c.post-reply.ensures.step (many-same h.side c.post-reply.new.self c.post-reply.ensures.tails) c.post-reply.ensures.len

pub returns-in_default-clause-done : goal.returns-in_default-clause-done
returns-in_default-clause-done g c =
    let h = made c.self.inside.host_bytes c.self.inside.lanes c.self.inside.layout c.self.inside.front c.self.inside.closed.items c.self.inside.spare.items in
    let before : List ℕ = g.C.MemoryCell.bytes c.args.memory.now in
    let after : List ℕ = g.C.MemoryCell.bytes c.post-reply.new.host in
    call-done h c.args.self.now c.self.view_is c.self.invariant.served (event.Post c.args.lane c.args.tag) tt c.post-reply.new.self before after c.post-reply.result
    c.post-reply.ensures.step (many-same h.side c.post-reply.new.self c.post-reply.ensures.tails) c.post-reply.ensures.len

pub post-reply-requires-clause-counted : goal.post-reply-requires-clause-counted
post-reply-requires-clause-counted g c = λ w on. c.self.invariant.served.counted (g.C.MemoryCell.bytes c.args.memory.now) w on
