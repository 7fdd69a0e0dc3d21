use Rattle.nv_host.proofs.Made.{made}
use Rattle.std.proofs.Common.{ℕ, List, refl, replicate}
use Rattle.std.proofs.lemmas.List.{length-replicate}
use Rattle.nv_host.proofs.Calls.{call-done, call-served, many-same}
use Rattle.nv_host.proofs.HoldNotes.{gives-still}
use Rattle.nv_world_model.specs.declared.event.Event.TheVariants as event
use Rattle.nv_host.proofs.host_mediator.HostMediator.give_up.Goals as goal

pub give_up-requires : goal.give_up-requires
give_up-requires c = c.self.invariant.served.kept

pub invariant_of-self : goal.invariant_of-self
invariant_of-self c =
    let h = made c.self.inside.host_bytes c.self.inside.lanes c.self.inside.layout c.self.inside.front c.self.inside.closed.items c.self.inside.spare.items in
    let zeros : List ℕ = replicate c.args.self.now.setup.host_bytes 0 in
    record {
      served = call-served h c.args.self.now c.self.view_is c.self.invariant.served (event.GiveUp c.args.lane c.args.tag) tt c.give_up.new.self zeros zeros c.give_up.result
          (c.give_up.ensures.step zeros) (many-same h.side c.give_up.new.self c.give_up.ensures.tails) refl (length-replicate c.args.self.now.setup.host_bytes 0);
      held = gives-still h c.self.invariant.served c.self.inside.holds c.self.invariant.held c.give_up.new.self zeros zeros c.give_up.result c.args.lane c.args.tag
          (c.give_up.ensures.step zeros);
    }

pub returns : goal.returns
returns c = λ memory.
    let h = made c.self.inside.host_bytes c.self.inside.lanes c.self.inside.layout c.self.inside.front c.self.inside.closed.items c.self.inside.spare.items in
    call-done h c.args.self.now c.self.view_is c.self.invariant.served (event.GiveUp c.args.lane c.args.tag) tt c.give_up.new.self memory memory c.give_up.result
    (c.give_up.ensures.step memory) (many-same h.side c.give_up.new.self c.give_up.ensures.tails) refl
