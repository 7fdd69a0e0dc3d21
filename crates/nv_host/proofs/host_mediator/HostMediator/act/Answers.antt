use Rattle.nv_host.proofs.Made.{made}
use Rattle.std.proofs.Common.{◌≡◌, true, ℕ, List, ap, subst, sym}
use Rattle.nv_core.specs.Front.{IsSideStep}
use Rattle.nv_core.specs.Seat.{is_long_load}
use Rattle.nv_host.proofs.Calls.{either-done, either-served, many-same, served-lent}
use Rattle.nv_host.proofs.HoldNotes.{either-still, forgotten-same, guest-forgets}
use Rattle.nv_host.specs.Holds.{AreHeld, forgotten}
use Rattle.nv_host.specs.Served.{Served}
use Rattle.nv_host.specs.declared.holds.Holds.{Holds}
use Rattle.nv_world_model.specs.declared.event.Event.TheVariants as event
use Rattle.nv_host.proofs.host_mediator.HostMediator.act.Goals as goal

pub act-requires : goal.act-requires
act-requires g c =
    let h = made c.self.inside.host_bytes c.self.inside.lanes c.self.inside.layout c.self.inside.front c.self.inside.closed.items c.self.inside.spare.items in
    served-lent h c.args.self.now c.self.view_is c.self.invariant.served (g.C.MemoryCell.bytes c.args.memory.now) c.requires

pub invariant_of-self : goal.invariant_of-self
invariant_of-self g c =
    let h = made c.self.inside.host_bytes c.self.inside.lanes c.self.inside.layout c.self.inside.front c.self.inside.closed.items c.self.inside.spare.items in
    let before : List ℕ = g.C.MemoryCell.bytes c.args.memory.now in
    let after : List ℕ = g.C.MemoryCell.bytes c.act.new.host in
    record {
      served = either-served h c.args.self.now c.self.view_is c.self.invariant.served (event.Guest c.args.guest c.args.act.now) tt c.act.new.self before after (λ r. r)
          ((c.act.new.self ≡ c.self.inside.front) × ((after ≡ before) × (is_long_load c.args.act.now ≡ true))) (many-same h.side c.act.new.self c.act.ensures.tails) c.act.ensures.len c.act.result c.act.ensures.ok c.act.ensures.err (λ failed. failed.0) c.requires;
      held = subst (λ (x : Holds). AreHeld c.act.new.self x) (sym c.forget.ensures)
          (either-still (λ r. IsSideStep h.setup.geometry (event.Guest c.args.guest c.args.act.now) h.side before r c.act.new.self after) h.side c.act.new.self
          (forgotten c.self.inside.holds c.args.guest) ((c.act.new.self ≡ c.self.inside.front) × ((after ≡ before) × (is_long_load c.args.act.now ≡ true)))
          c.act.result c.act.ensures.ok
          (λ r made. guest-forgets h c.self.invariant.served c.self.inside.holds c.self.invariant.held c.act.new.self before after r c.args.guest c.args.act.now made)
          c.act.ensures.err (λ failed. failed.0) (forgotten-same h.side c.self.inside.holds c.args.guest c.self.invariant.held));
    }

pub returns-clause-ok : goal.returns-clause-ok
returns-clause-ok g c =
    let h = made c.self.inside.host_bytes c.self.inside.lanes c.self.inside.layout c.self.inside.front c.self.inside.closed.items c.self.inside.spare.items in
    let before : List ℕ = g.C.MemoryCell.bytes c.args.memory.now in
    let after : List ℕ = g.C.MemoryCell.bytes c.act.new.host in
    either-done h c.args.self.now c.self.view_is c.self.invariant.served (event.Guest c.args.guest c.args.act.now) tt c.act.new.self before after (λ r. r)
    ((c.act.new.self ≡ c.self.inside.front) × ((after ≡ before) × (is_long_load c.args.act.now ≡ true))) (many-same h.side c.act.new.self c.act.ensures.tails) c.act.ensures.len c.act.result c.act.ensures.ok

pub returns-clause-setup : goal.returns-clause-setup
returns-clause-setup g c = ap (λ (x : Served). x.setup) c.self.view_is
