use Rattle.std.proofs.Common.{◌≡◌, ◌≤◌, ◌<◌, length, subst, sym, arith, ◌∙◌, ap}
use Rattle.nv_core.proofs.Dues.{admin-due, due-told}
use Rattle.nv_core.proofs.Placed.{admin-nobody, has-controller}
use Rattle.nv_core.proofs.GroupWorlds.{looked-up}
use Rattle.nv_core.specs.State.{State, world_of}
use Rattle.nv_model.specs.declared.reply.Reply.TheVariants as reply
use Rattle.nv_world_model.specs.Due.{due}
use Rattle.nv_world_model.specs.declared.event.Event.TheVariants as event
use Rattle.nv_laws_sound.specs.Side.{Side}
use Rattle.nv_core.proofs.Sides.{due-side, state_in}
use Rattle.nv_core.proofs.front.Front.admin_due.Goals as goal

pub returns-in_default : goal.returns-in_default
returns-in_default c = λ m w is.
    let old : State = state_in c.args.layout.now c.args.self.now m w is in
    (sym (due-told c.args.layout.now (event.Admin c.args.guest) old old reply.Ignored
    (admin-nobody c.args.layout.now old old c.args.guest c.in_default.ensures)))
    ∙ due-side c.args.layout.now c.args.self.now m w is (event.Admin c.args.guest) tt

pub returns-then-number-len : goal.returns-then-number-len
returns-then-number-len c = λ m w is.
    let old : State = state_in c.args.layout.now c.args.self.now m w is in
    let s : State = record { host = m; device = old.device; lanes = c.self.inside.lanes.items; controllers = c.self.inside.controllers.items } in
    let same : s ≡ old = ap (λ (f : Side). let o : State = record { host = m; device = old.device; lanes = f.lanes; controllers = f.controllers } in o) c.self.view_is in
    let past : length c.self.inside.controllers.items ≤ c.args.guest =
    (let l = c.len.ensures in let n = c.from-number.ensures in let t = c.if-number-len.true in omega arith) in
    absurd (has-controller c.args.layout.now old old c.args.guest c.in-Some._given.now c.requires.controllers c.in-Some.ensures
    (subst (λ (o : State). length o.controllers ≤ c.args.guest) same past))

pub returns : goal.returns
returns c = λ m w is.
    let old : State = state_in c.args.layout.now c.args.self.now m w is in
    let s : State = record { host = m; device = old.device; lanes = c.self.inside.lanes.items; controllers = c.self.inside.controllers.items } in
    let same : s ≡ old = ap (λ (f : Side). let o : State = record { host = m; device = old.device; lanes = f.lanes; controllers = f.controllers } in o) c.self.view_is in
    let below : c.from-number.result < length c.self.inside.controllers.items = (let l = c.len.ensures in let t = c.if-number-len.false in omega arith) in
    let found = looked-up c.self.inside.controllers.items c.args.guest c.from-number.result c.index-vctl.result.now c.from-number.ensures below c.index-vctl.ensures in
    (subst (λ (x : State). c.is_due.result ≡ due c.args.layout.now (event.Admin c.args.guest) (world_of x)) same
    (admin-due c.args.layout.now s c.args.guest c.in-Some._given.now c.index-vctl.result.now c.in-Some.ensures found c.is_due.result c.is_due.ensures))
    ∙ due-side c.args.layout.now c.args.self.now m w is (event.Admin c.args.guest) tt
