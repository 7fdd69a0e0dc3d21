use Rattle.std.proofs.Common.{◌≤◌, ◌<◌, ◌∙◌, ap, length, subst, arith, ◌≡◌, ℕ, List, refl, set, sym}
use Rattle.nv_core.specs.Noted.{AreNoted}
use Rattle.nv_core.proofs.Notes.{noted-set}
use Rattle.nv_core.proofs.Placed.{admin-done, admin-nobody, has-controller, in-place}
use Rattle.nv_core.specs.Seat.{told_by}
use Rattle.nv_core.specs.State.{State}
use Rattle.nv_ns.specs.Extents.{blocks_in}
use Rattle.nv_core.specs.Front.{IsSideOf}
use Rattle.nv_laws_sound.specs.Side.{Side}
use Rattle.nv_core.proofs.KeptStates.{IsKeptOf}
use Rattle.nv_core.proofs.Sides.{of-side, own-side, own-world, quiet-in, state_in}
use Rattle.nv_world_model.specs.World.{World}
use Rattle.nv_world_model.specs.declared.event.Event.TheVariants as event
use Rattle.nv_core.proofs.front.Front.admin.Goals as goal

pub returns-in_default-clause-step : goal.returns-in_default-clause-step
returns-in_default-clause-step g c = λ w is.
    let m : List ℕ = g.C.MemoryCell.bytes c.args.host.now in
    let old : State = state_in c.args.layout.now c.args.self.now m w is in
    quiet-in c.args.layout.now c.args.self.now m w is (event.Admin c.args.guest) tt _ c.args.self.now m refl
    (admin-nobody c.args.layout.now old old c.args.guest c.in_default.ensures)

pub returns-then-number-len-clause-step : goal.returns-then-number-len-clause-step
returns-then-number-len-clause-step g c = λ w is.
    let m : List ℕ = g.C.MemoryCell.bytes c.args.host.now in
    let old : State = state_in c.args.layout.now c.args.self.now m w is in
    let s : State = record { host = m; device = old.device; lanes = c.self.inside.lanes.items; controllers = c.self.inside.controllers.items } in
    let same : s ≡ old = ap (λ (f : Side). let o : State = record { host = m; device = old.device; lanes = f.lanes; controllers = f.controllers } in o) c.self.view_is in
    let of : IsKeptOf c.args.layout.now old = of-side c.args.layout.now c.args.self.now m w is c.requires in
    let past : length c.self.inside.controllers.items ≤ c.args.guest =
    (let l = c.len.ensures in let n = c.from-number.ensures in let t = c.if-number-len.true in omega arith) in
    quiet-in c.args.layout.now c.args.self.now m w is (event.Admin c.args.guest) tt _ c.args.self.now m refl
    (absurd (has-controller c.args.layout.now old old c.args.guest c.in-Some.given.now c.requires.kept.controllers c.in-Some.ensures
    (subst (λ (o : State). length o.controllers ≤ c.args.guest) same past)))

pub admin-requires-clause-in_place : goal.admin-requires-clause-in_place
admin-requires-clause-in_place g c =
    let m : List ℕ = g.C.MemoryCell.bytes c.args.host.now in
    let w : World = own-world c.args.self.now m in
    let is : IsSideOf c.args.self.now m w = own-side c.args.self.now m in
    let old : State = state_in c.args.layout.now c.args.self.now m w is in
    let s : State = record { host = m; device = old.device; lanes = c.self.inside.lanes.items; controllers = c.self.inside.controllers.items } in
    let same : s ≡ old = ap (λ (f : Side). let o : State = record { host = m; device = old.device; lanes = f.lanes; controllers = f.controllers } in o) c.self.view_is in
    let of : IsKeptOf c.args.layout.now old = of-side c.args.layout.now c.args.self.now m w is c.requires in
    let below : c.from-number.result < length c.self.inside.controllers.items = (let l = c.len.ensures in let t = c.if-number-len.false in omega arith) in
    in-place c.args.layout.now s old c.args.guest c.from-number.result c.in-Some.given.now c.index_mut-vctl.result.now c.map.result.now
    same of c.from-number.ensures below c.index_mut-vctl.ensures.value c.in-Some.ensures c.map.ensures

pub returns-clause-step : goal.returns-clause-step
returns-clause-step g c = λ w is.
    let m : List ℕ = g.C.MemoryCell.bytes c.args.host.now in
    let old : State = state_in c.args.layout.now c.args.self.now m w is in
    let s : State = record { host = m; device = old.device; lanes = c.self.inside.lanes.items; controllers = c.self.inside.controllers.items } in
    let same : s ≡ old = ap (λ (f : Side). let o : State = record { host = m; device = old.device; lanes = f.lanes; controllers = f.controllers } in o) c.self.view_is in
    let below : c.from-number.result < length c.self.inside.controllers.items = (let l = c.len.ensures in let t = c.if-number-len.false in omega arith) in
    quiet-in c.args.layout.now c.args.self.now m w is (event.Admin c.args.guest) tt _ (let n : Side = record { lanes = c.self.inside.lanes.items; tails = c.self.inside.tails.items; controllers = (set c.self.inside.controllers.items c.from-number.result c.admin.new.vctl) } in n) (g.C.MemoryCell.bytes c.admin.new.host) (ap (λ (f : Side). f.tails) c.self.view_is)
    (admin-done c.args.layout.now s old c.args.guest c.from-number.result c.in-Some.given.now c.index_mut-vctl.result.now c.admin.new.vctl
    c.map.result.now c.blocks-block_count.result c.reply_of.result (g.C.MemoryCell.bytes c.admin.new.host)
    same c.from-number.ensures below c.index_mut-vctl.ensures.value c.in-Some.ensures c.map.ensures
    (c.blocks-block_count.ensures.value ∙ ap blocks_in c.ns.ensures)
    (c.reply_of.ensures ∙ ap told_by c.admin.ensures.reply, (c.admin.ensures.controller, c.admin.ensures.host)) c.admin.ensures.len)

pub invariant_of-self : goal.invariant_of-self
invariant_of-self g c =
    subst (λ (k : ℕ). AreNoted (set c.self.inside.controllers.items k c.admin.new.vctl) c.noted-self-inside.result) (sym c.from-number.ensures)
    (noted-set c.self.inside.controllers.items c.self.inside.noted c.args.guest c.noted-self-inside.result c.admin.new.vctl c.self.invariant c.noted-self-inside.ensures)
