use Rattle.std.proofs.Common.{refl, ℕ, List}
use Rattle.nv_core.proofs.Placed.{act-beside, act-nobody, made-for}
use Rattle.nv_core.specs.State.{State}
use Rattle.nv_model.specs.declared.act.Act.TheVariants as act
use Rattle.nv_core.specs.Front.{IsSideOf}
use Rattle.nv_core.proofs.KeptStates.{IsKeptOf}
use Rattle.nv_core.proofs.Sides.{of-side, own-side, own-world, quiet-in, state_in}
use Rattle.nv_world_model.specs.World.{World}
use Rattle.nv_world_model.specs.declared.event.Event.TheVariants as event
use Rattle.nv_core.proofs.front.Front.store.Goals as goal

pub returns-in_default-clause-step : goal.returns-in_default-clause-step
returns-in_default-clause-step g c = λ w is.
    let m : List ℕ = g.C.MemoryCell.bytes c.args.host.now in
    let old : State = state_in c.args.layout.now c.args.self.now m w is in
    quiet-in c.args.layout.now c.args.self.now m w is (event.Guest c.args.guest (act.Store c.args.addr c.args.bytes.now)) tt _ c.args.self.now m refl
    (act-nobody c.args.layout.now old old c.args.guest (act.Store c.args.addr c.args.bytes.now) c.in_default.ensures)

pub store-requires : goal.store-requires
store-requires g c =
    let m : List ℕ = g.C.MemoryCell.bytes c.args.host.now in
    let w : World = own-world c.args.self.now m in
    let is : IsSideOf c.args.self.now m w = own-side c.args.self.now m in
    let old : State = state_in c.args.layout.now c.args.self.now m w is in
    let of : IsKeptOf c.args.layout.now old = of-side c.args.layout.now c.args.self.now m w is c.requires in
    made-for c.args.layout.now old old c.args.guest c.in-Some.given.now c.in-Some.given.now.memory_map refl of
    c.in-Some.ensures refl

pub returns-clause-step : goal.returns-clause-step
returns-clause-step g c = λ w is.
    let m : List ℕ = g.C.MemoryCell.bytes c.args.host.now in
    let old : State = state_in c.args.layout.now c.args.self.now m w is in
    let of : IsKeptOf c.args.layout.now old = of-side c.args.layout.now c.args.self.now m w is c.requires in
    quiet-in c.args.layout.now c.args.self.now m w is (event.Guest c.args.guest (act.Store c.args.addr c.args.bytes.now)) tt _ c.args.self.now (g.C.MemoryCell.bytes c.store.new.host) refl
    (act-beside c.args.layout.now old old c.args.guest c.in-Some.given.now (act.Store c.args.addr c.args.bytes.now) c.store.result (g.C.MemoryCell.bytes c.store.new.host)
    refl of c.in-Some.ensures c.store.ensures.acted c.store.ensures.len)
