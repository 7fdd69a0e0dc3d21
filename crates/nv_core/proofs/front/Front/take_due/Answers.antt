use Rattle.std.proofs.Common.{◌≡◌, ◌≤◌, ◌<◌, ◌∙◌, length, refl, subst, sym, arith, ℕ, List, ap}
use Rattle.nv_core.proofs.Dues.{due-told, take-due}
use Rattle.nv_core.proofs.Placed.{has-controller, in-place, made-for}
use Rattle.nv_core.proofs.GroupWorlds.{looked-up}
use Rattle.nv_core.proofs.Takes.{take-no_lane, take-no_queue, take-nobody}
use Rattle.nv_core.specs.State.{State, world_of}
use Rattle.nv_laws_sound.proofs.Lists.{slice_get-there}
use Rattle.nv_model.specs.declared.reply.Reply.TheVariants as reply
use Rattle.nv_world_model.specs.Due.{due}
use Rattle.nv_world_model.specs.declared.event.Event.TheVariants as event
use Rattle.nv_core.specs.Front.{IsSideOf}
use Rattle.nv_laws_sound.specs.Side.{Side}
use Rattle.nv_core.proofs.KeptStates.{IsKeptOf}
use Rattle.nv_core.proofs.Sides.{due-side, of-side, own-side, own-world, state_in}
use Rattle.nv_world_model.specs.World.{World}
use Rattle.nv_core.proofs.front.Front.take_due.Goals as goal

pub returns-in_default : goal.returns-in_default
returns-in_default g c = λ w is.
    let m : List ℕ = g.C.MemoryCell.bytes c.args.host.now in
    let old : State = state_in c.args.layout.now c.args.self.now m w is in
    (sym (due-told c.args.layout.now (event.Take c.args.guest c.args.queue c.args.lane) old old reply.Ignored
    (take-nobody c.args.layout.now old old c.args.guest c.args.queue c.args.lane c.in_default.ensures)))
    ∙ due-side c.args.layout.now c.args.self.now m w is (event.Take c.args.guest c.args.queue c.args.lane) tt

pub returns-then-number-len : goal.returns-then-number-len
returns-then-number-len g c = λ w is.
    let m : List ℕ = g.C.MemoryCell.bytes c.args.host.now in
    let old : State = state_in c.args.layout.now c.args.self.now m w is in
    let s : State = record { host = m; device = old.device; lanes = c.self.inside.lanes.items; controllers = c.self.inside.controllers.items } in
    let same : s ≡ old = ap (λ (f : Side). let o : State = record { host = m; device = old.device; lanes = f.lanes; controllers = f.controllers } in o) c.self.view_is in
    let of : IsKeptOf c.args.layout.now old = of-side c.args.layout.now c.args.self.now m w is c.requires in
    let past : length c.self.inside.controllers.items ≤ c.args.guest =
    (let l = c.len.ensures in let n = c.from-number.ensures in let t = c.if-number-len.true in omega arith) in
    absurd (has-controller c.args.layout.now old old c.args.guest c.in-Some.given.now c.requires.kept.controllers c.in-Some.ensures
    (subst (λ (o : State). length o.controllers ≤ c.args.guest) same past))

pub returns-then-at-len : goal.returns-then-at-len
returns-then-at-len g c = λ w is.
    let m : List ℕ = g.C.MemoryCell.bytes c.args.host.now in
    let old : State = state_in c.args.layout.now c.args.self.now m w is in
    let s : State = record { host = m; device = old.device; lanes = c.self.inside.lanes.items; controllers = c.self.inside.controllers.items } in
    let same : s ≡ old = ap (λ (f : Side). let o : State = record { host = m; device = old.device; lanes = f.lanes; controllers = f.controllers } in o) c.self.view_is in
    let here = slice_get-there c.self.inside.controllers.items c.args.guest (let n = c.from-number.ensures in let l = c.len.ensures in let t = c.if-number-len.false in omega arith) in
    (sym (due-told c.args.layout.now (event.Take c.args.guest c.args.queue c.args.lane) old old reply.Ignored
    (take-no_lane c.args.layout.now s old c.args.guest c.args.queue c.args.lane c.in-Some.given.now here.0 same c.in-Some.ensures here.1
    (let l = c.len-2.ensures in let n = c.from-at.ensures in let t = c.if-at-len.true in omega arith))))
    ∙ due-side c.args.layout.now c.args.self.now m w is (event.Take c.args.guest c.args.queue c.args.lane) tt

pub returns-then-not-is_io_queue : goal.returns-then-not-is_io_queue
returns-then-not-is_io_queue g c = λ w is.
    let m : List ℕ = g.C.MemoryCell.bytes c.args.host.now in
    let old : State = state_in c.args.layout.now c.args.self.now m w is in
    let s : State = record { host = m; device = old.device; lanes = c.self.inside.lanes.items; controllers = c.self.inside.controllers.items } in
    let same : s ≡ old = ap (λ (f : Side). let o : State = record { host = m; device = old.device; lanes = f.lanes; controllers = f.controllers } in o) c.self.view_is in
    let here = slice_get-there c.self.inside.controllers.items c.args.guest (let n = c.from-number.ensures in let l = c.len.ensures in let t = c.if-number-len.false in omega arith) in
    let lane = slice_get-there c.self.inside.lanes.items c.args.lane (let n = c.from-at.ensures in let l = c.len-2.ensures in let t = c.if-at-len.false in omega arith) in
    (sym (due-told c.args.layout.now (event.Take c.args.guest c.args.queue c.args.lane) old old reply.Ignored
    (take-no_queue c.args.layout.now s old c.args.guest c.args.queue c.args.lane c.in-Some.given.now here.0 same c.in-Some.ensures here.1
    lane.0 lane.1 (sym c.is_io_queue.ensures ∙ c.if-not-is_io_queue.true))))
    ∙ due-side c.args.layout.now c.args.self.now m w is (event.Take c.args.guest c.args.queue c.args.lane) tt

pub returns : goal.returns
returns g c = λ w is.
    let m : List ℕ = g.C.MemoryCell.bytes c.args.host.now in
    let old : State = state_in c.args.layout.now c.args.self.now m w is in
    let s : State = record { host = m; device = old.device; lanes = c.self.inside.lanes.items; controllers = c.self.inside.controllers.items } in
    let same : s ≡ old = ap (λ (f : Side). let o : State = record { host = m; device = old.device; lanes = f.lanes; controllers = f.controllers } in o) c.self.view_is in
    let below : c.from-number.result < length c.self.inside.controllers.items = (let l = c.len.ensures in let t = c.if-number-len.false in omega arith) in
    let found = looked-up c.self.inside.controllers.items c.args.guest c.from-number.result c.index-vctl.result.now c.from-number.ensures below c.index-vctl.ensures in
    let below_lane : c.from-at.result < length c.self.inside.lanes.items = (let l = c.len-2.ensures in let t = c.if-at-len.false in omega arith) in
    let found_lane = looked-up c.self.inside.lanes.items c.args.lane c.from-at.result c.index-ring.result.now c.from-at.ensures below_lane c.index-ring.ensures in
    (subst (λ (x : State). c.is_takeable.result ≡ due c.args.layout.now (event.Take c.args.guest c.args.queue c.args.lane) (world_of x)) same
    (c.is_takeable.ensures
    ∙ sym (take-due c.args.layout.now s c.args.guest c.args.queue c.args.lane c.in-Some.given.now c.index-vctl.result.now c.index-ring.result.now
    c.in-Some.ensures found found_lane (sym c.is_io_queue.ensures ∙ c.if-not-is_io_queue.false))))
    ∙ due-side c.args.layout.now c.args.self.now m w is (event.Take c.args.guest c.args.queue c.args.lane) tt

pub is_takeable-requires-clause-host : goal.is_takeable-requires-clause-host
is_takeable-requires-clause-host g c =
    let m : List ℕ = g.C.MemoryCell.bytes c.args.host.now in
    let w : World = own-world c.args.self.now m in
    let is : IsSideOf c.args.self.now m w = own-side c.args.self.now m in
    let old : State = state_in c.args.layout.now c.args.self.now m w is in
    let s : State = record { host = m; device = old.device; lanes = c.self.inside.lanes.items; controllers = c.self.inside.controllers.items } in
    let same : s ≡ old = ap (λ (f : Side). let o : State = record { host = m; device = old.device; lanes = f.lanes; controllers = f.controllers } in o) c.self.view_is in
    let of : IsKeptOf c.args.layout.now old = of-side c.args.layout.now c.args.self.now m w is c.requires in
    made-for c.args.layout.now s old c.args.guest c.in-Some.given.now c.in-Some.given.now.memory_map same of
    c.in-Some.ensures refl

pub is_takeable-requires-clause-in_place : goal.is_takeable-requires-clause-in_place
is_takeable-requires-clause-in_place g c =
    let m : List ℕ = g.C.MemoryCell.bytes c.args.host.now in
    let w : World = own-world c.args.self.now m in
    let is : IsSideOf c.args.self.now m w = own-side c.args.self.now m in
    let old : State = state_in c.args.layout.now c.args.self.now m w is in
    let s : State = record { host = m; device = old.device; lanes = c.self.inside.lanes.items; controllers = c.self.inside.controllers.items } in
    let same : s ≡ old = ap (λ (f : Side). let o : State = record { host = m; device = old.device; lanes = f.lanes; controllers = f.controllers } in o) c.self.view_is in
    let of : IsKeptOf c.args.layout.now old = of-side c.args.layout.now c.args.self.now m w is c.requires in
    let below : c.from-number.result < length c.self.inside.controllers.items = (let l = c.len.ensures in let t = c.if-number-len.false in omega arith) in
    in-place c.args.layout.now s old c.args.guest c.from-number.result c.in-Some.given.now c.index-vctl.result.now c.in-Some.given.now.memory_map
    same of c.from-number.ensures below c.index-vctl.ensures c.in-Some.ensures refl
