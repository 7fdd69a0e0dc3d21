use Rattle.nv_host.proofs.Made.{made}
use Rattle.std.proofs.Common.{ℕ, ◌==◌, ◌&&◌, ◌||◌, ◌∙◌, not, List, ap, refl}
use Rattle.nv_core.specs.News.{tags_at}
use Rattle.nv_host.proofs.Calls.{call-done, call-served, many-same, served-lent, served-more, side-dull}
use Rattle.nv_host.proofs.HoldNotes.{take-noted}
use Rattle.nv_host.specs.declared.holds.Holds.{Holds}
use Rattle.nv_tags.proofs.Rows.{is_among}
use Rattle.nv_world_model.specs.declared.event.Event.TheVariants as event
use Rattle.nv_host.proofs.host_mediator.HostMediator.take_open.Goals as goal

pub take-reply-requires-clause-lent : goal.take-reply-requires-clause-lent
take-reply-requires-clause-lent g c =
    let h = made c.self.inside.host_bytes c.self.inside.lanes c.self.inside.layout c.self.inside.front c.self.inside.closed.items c.self.inside.spare.items in
    served-lent h c.args.self.now c.self.view_is c.self.invariant.served (g.C.MemoryCell.bytes c.args.memory.now) c.requires

pub take-reply-requires-clause-counted : goal.take-reply-requires-clause-counted
take-reply-requires-clause-counted g c =
    let h = made c.self.inside.host_bytes c.self.inside.lanes c.self.inside.layout c.self.inside.front c.self.inside.closed.items c.self.inside.spare.items in
    served-more h c.args.self.now c.self.view_is c.self.invariant.served c.args.guest

pub invariant_of-self : goal.invariant_of-self
invariant_of-self g c =
    let h = made c.self.inside.host_bytes c.self.inside.lanes c.self.inside.layout c.self.inside.front c.self.inside.closed.items c.self.inside.spare.items in
    let before : List ℕ = g.C.MemoryCell.bytes c.args.memory.now in
    let after : List ℕ = g.C.MemoryCell.bytes c.args.memory.now in
    record {
      served = call-served h c.args.self.now c.self.view_is c.self.invariant.served (event.Take c.args.guest c.args.queue c.args.lane) tt c.take-reply.new.self before after
          c.take-reply.result c.take-reply.ensures.step (many-same h.side c.take-reply.new.self c.take-reply.ensures.tails) refl c.requires;
      held = take-noted h c.self.invariant.served c.self.inside.holds c.self.invariant.held c.take-reply.new.self before after c.take-reply.result c.args.guest c.args.queue
          c.args.lane c.take-reply.ensures.step c.keep.new.self c.ended.result c.ended.ensures
          (side-dull h (event.Take c.args.guest c.args.queue c.args.lane) c.take-reply.new.self before after c.take-reply.result c.take-reply.ensures.step
          (many-same h.side c.take-reply.new.self c.take-reply.ensures.tails))
          (c.keep.ensures.guests ∙ ap (λ (x : Holds). x.guests) c.note.ensures)
          (λ l t. c.keep.ensures.tags l t
          ∙ ap (λ (x : Holds). is_among (tags_at x.tags l) t && (not (l == c.args.lane) || is_among c.ended.result t)) c.note.ensures);
    }

pub returns : goal.returns
returns g c =
    let h = made c.self.inside.host_bytes c.self.inside.lanes c.self.inside.layout c.self.inside.front c.self.inside.closed.items c.self.inside.spare.items in
    let before : List ℕ = g.C.MemoryCell.bytes c.args.memory.now in
    let after : List ℕ = g.C.MemoryCell.bytes c.args.memory.now in
    call-done h c.args.self.now c.self.view_is c.self.invariant.served (event.Take c.args.guest c.args.queue c.args.lane) tt c.take-reply.new.self before after c.take-reply.result c.take-reply.ensures.step (many-same h.side c.take-reply.new.self c.take-reply.ensures.tails) refl
