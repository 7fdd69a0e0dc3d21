use Rattle.nv_host.proofs.Made.{made}
use Rattle.std.proofs.Common.{◌≡◌, ℕ, ◌+◌, replicate, arith, refl, subst}
use Rattle.std.proofs.lemmas.List.{length-replicate}
use Rattle.nv_host.proofs.Cleared.{zeros-alone, zeros-stored}
use Rattle.nv_host.proofs.Ring.{lane-inside}
use Rattle.nv_model.specs.Memory.{byte_in}
use Rattle.nv_host.proofs.host_mediator.HostMediator.clear_ring.Goals as goal

pub store-requires : goal.store-requires
store-requires g c some =
    let h = made c.self.inside.host_bytes c.self.inside.lanes c.self.inside.layout c.self.inside.front c.self.inside.closed.items c.self.inside.spare.items in
    let room = lane-inside h c.args.self.now c.self.view_is c.self.invariant.served c.args.lane c.requires.there in
    let lent = c.requires.lent in
    let at = c.in-Some.ensures.1 in
    omega (arith, room, lent, at)

pub returns-in-Some-clause-clear : goal.returns-in-Some-clause-clear
returns-in-Some-clause-clear g c = λ place below.
    let h = made c.self.inside.host_bytes c.self.inside.lanes c.self.inside.layout c.self.inside.front c.self.inside.closed.items c.self.inside.spare.items in
    let room = lane-inside h c.args.self.now c.self.view_is c.self.invariant.served c.args.lane c.requires.there in
    let lent = c.requires.lent in
    let at = c.in-Some.ensures.1 in
    subst (λ (a : ℕ). byte_in (g.C.MemoryCell.bytes c.store.new.memory) (a + place) ≡ 0) at
    (zeros-stored (g.C.MemoryCell.bytes c.args.memory.now) (replicate 1040 0) (g.C.MemoryCell.bytes c.store.new.memory) c.in-Some.ring 1040 refl (length-replicate {A = ℕ} 1040 0)
    (omega (arith, room, lent, at)) c.store.ensures.bytes place below)

pub returns-in-Some-clause-alone : goal.returns-in-Some-clause-alone
returns-in-Some-clause-alone g c =
    let h = made c.self.inside.host_bytes c.self.inside.lanes c.self.inside.layout c.self.inside.front c.self.inside.closed.items c.self.inside.spare.items in
    let room = lane-inside h c.args.self.now c.self.view_is c.self.invariant.served c.args.lane c.requires.there in
    let lent = c.requires.lent in
    let at = c.in-Some.ensures.1 in
    zeros-alone c.args.self.now.setup.geometry c.args.lane (g.C.MemoryCell.bytes c.args.memory.now) (replicate 1040 0)
    (g.C.MemoryCell.bytes c.store.new.memory) c.in-Some.ring (length-replicate {A = ℕ} 1040 0) (omega (arith, room, lent, at)) at c.store.ensures.bytes
