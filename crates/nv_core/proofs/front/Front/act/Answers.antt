use Rattle.std.proofs.Common.{◌≤◌, ◌<◌, length, refl, subst, arith, ◌≡◌, ℕ, List, ap, set, sym}
use Rattle.nv_core.specs.Noted.{AreNoted}
use Rattle.nv_core.proofs.Notes.{noted-set}
use Rattle.nv_core.proofs.Placed.{act-done, act-nobody, has-controller, made-for}
use Rattle.nv_core.specs.State.{State}
use Rattle.nv_core.specs.Front.{IsSideOf}
use Rattle.nv_laws_sound.specs.Side.{Side}
use Rattle.nv_core.proofs.KeptStates.{IsKeptOf}
use Rattle.nv_core.proofs.Sides.{of-side, own-side, own-world, quiet-in, state_in}
use Rattle.nv_world_model.specs.World.{World}
use Rattle.nv_world_model.specs.declared.event.Event.TheVariants as event
use Rattle.nv_core.proofs.front.Front.act.Goals as goal

pub returns-in_default-clause-ok : goal.returns-in_default-clause-ok
returns-in_default-clause-ok g c = λ w is.
    let m : List ℕ = g.C.MemoryCell.bytes c.args.host.now in
    let old : State = state_in c.args.layout.now c.args.self.now m w is in
    quiet-in c.args.layout.now c.args.self.now m w is (event.Guest c.args.guest c.args.act.now) tt _ c.args.self.now m refl
    (act-nobody c.args.layout.now old old c.args.guest c.args.act.now c.in_default.ensures)

pub returns-then-number-len-clause-ok : goal.returns-then-number-len-clause-ok
returns-then-number-len-clause-ok g c = λ w is.
    let m : List ℕ = g.C.MemoryCell.bytes c.args.host.now in
    let old : State = state_in c.args.layout.now c.args.self.now m w is in
    let s : State = record { host = m; device = old.device; lanes = c.self.inside.lanes.items; controllers = c.self.inside.controllers.items } in
    let same : s ≡ old = ap (λ (f : Side). let o : State = record { host = m; device = old.device; lanes = f.lanes; controllers = f.controllers } in o) c.self.view_is in
    let of : IsKeptOf c.args.layout.now old = of-side c.args.layout.now c.args.self.now m w is c.requires in
    let past : length c.self.inside.controllers.items ≤ c.args.guest =
    (let l = c.len.ensures in let n = c.from-number.ensures in let t = c.if-number-len.true in omega arith) in
    quiet-in c.args.layout.now c.args.self.now m w is (event.Guest c.args.guest c.args.act.now) tt _ c.args.self.now m refl
    (absurd (has-controller c.args.layout.now old old c.args.guest c.in-Some.given.now c.requires.kept.controllers c.in-Some.ensures
    (subst (λ (o : State). length o.controllers ≤ c.args.guest) same past)))

pub returns-clause-ok : goal.returns-clause-ok
returns-clause-ok g c = λ w is.
    let m : List ℕ = g.C.MemoryCell.bytes c.args.host.now in
    let old : State = state_in c.args.layout.now c.args.self.now m w is in
    let s : State = record { host = m; device = old.device; lanes = c.self.inside.lanes.items; controllers = c.self.inside.controllers.items } in
    let same : s ≡ old = ap (λ (f : Side). let o : State = record { host = m; device = old.device; lanes = f.lanes; controllers = f.controllers } in o) c.self.view_is in
    let of : IsKeptOf c.args.layout.now old = of-side c.args.layout.now c.args.self.now m w is c.requires in
    let below : c.from-number.result < length c.self.inside.controllers.items = (let l = c.len.ensures in let t = c.if-number-len.false in omega arith) in
    quiet-in c.args.layout.now c.args.self.now m w is (event.Guest c.args.guest c.args.act.now) tt _ (let n : Side = record { lanes = c.self.inside.lanes.items; tails = c.self.inside.tails.items; controllers = (set c.self.inside.controllers.items c.from-number.result c.act_in_seat.new.vctl) } in n) (g.C.MemoryCell.bytes c.act_in_seat.new.host) (ap (λ (f : Side). f.tails) c.self.view_is)
    (act-done c.args.layout.now s old c.args.guest c.from-number.result c.in-Some.given.now c.index_mut-vctl.result.now c.act_in_seat.new.vctl
    c.args.act.now c.in_ok-reply.reply (g.C.MemoryCell.bytes c.act_in_seat.new.host)
    same of c.from-number.ensures below c.index_mut-vctl.ensures.value c.in-Some.ensures c.in_ok-reply.ensures.ok c.in_ok-reply.ensures.len)

pub act_in_seat-requires : goal.act_in_seat-requires
act_in_seat-requires g c =
    let m : List ℕ = g.C.MemoryCell.bytes c.args.host.now in
    let w : World = own-world c.args.self.now m in
    let is : IsSideOf c.args.self.now m w = own-side c.args.self.now m in
    let old : State = state_in c.args.layout.now c.args.self.now m w is in
    let s : State = record { host = m; device = old.device; lanes = c.self.inside.lanes.items; controllers = c.self.inside.controllers.items } in
    let same : s ≡ old = ap (λ (f : Side). let o : State = record { host = m; device = old.device; lanes = f.lanes; controllers = f.controllers } in o) c.self.view_is in
    let of : IsKeptOf c.args.layout.now old = of-side c.args.layout.now c.args.self.now m w is c.requires in
    made-for c.args.layout.now s old c.args.guest c.in-Some.given.now c.in-Some.given.now.memory_map same of
    c.in-Some.ensures refl

pub invariant_of-self-2 : goal.invariant_of-self-2
invariant_of-self-2 g c =
    subst (λ (k : ℕ). AreNoted (set c.self.inside.controllers.items k c.act_in_seat.new.vctl) c.noted-self-inside.result) (sym c.from-number.ensures)
    (noted-set c.self.inside.controllers.items c.self.inside.noted c.args.guest c.noted-self-inside.result c.act_in_seat.new.vctl c.self.invariant c.noted-self-inside.ensures)
