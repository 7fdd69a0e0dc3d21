use Rattle.std.proofs.Common.{length, ◌≡◌, ◌∙◌, ℕ, None, cond, is_some, slice_get, true, false, ap, sym, subst, arith, List, []}
use Rattle.nv_core.proofs.Dues.{none-by, post-due, post-nobody, post-not, post-waits}
use Rattle.nv_core.proofs.GroupWorlds.{ended-below, ended-here, ended-is, ended-led, ended-there, looked-up}
use Rattle.nv_core.specs.State.{State, world_of}
use Rattle.nv_laws_sound.proofs.Lists.{slice_get-below}
use Rattle.nv_model.specs.Controller.{is_enabled, post}
use Rattle.nv_world_model.specs.Due.{due}
use Rattle.nv_world_model.specs.World.{Command, World}
use Rattle.nv_world_model.specs.declared.event.Event.TheVariants as event
use Rattle.nv_core.specs.Front.{IsSideOf}
use Rattle.nv_laws_sound.specs.Side.{Side}
use Rattle.nv_core.proofs.Sides.{due-side, own-side, own-world, state_in}
use Rattle.nv_core.proofs.front.Front.post_due.Goals as goal

pub returns-then-is_some : goal.returns-then-is_some
returns-then-is_some c = λ m w is.
    let old : State = state_in c.args.layout.now c.args.self.now m w is in
    (sym (post-not c.args.layout.now old c.args.lane c.args.tag c.unended.result c.unended.ensures (sym c.is_some.ensures ∙ c.if-is_some.true)))
    ∙ due-side c.args.layout.now c.args.self.now m w is (event.Post c.args.lane c.args.tag) tt

pub index-ring-requires : goal.index-ring-requires
index-ring-requires c =
    let m : List ℕ = [] in
    let w : World = own-world c.args.self.now m in
    let is : IsSideOf c.args.self.now m w = own-side c.args.self.now m in
    let old : State = state_in c.args.layout.now c.args.self.now m w is in
    let s : State = record { host = m; device = old.device; lanes = c.self.inside.lanes.items; controllers = c.self.inside.controllers.items } in
    let same : s ≡ old = ap (λ (f : Side). let o : State = record { host = m; device = old.device; lanes = f.lanes; controllers = f.controllers } in o) c.self.view_is in
    let t = ended-here s old c.args.lane c.args.tag c.unended.result same c.unended.ensures (none-by c.unended.result c.is_some.result c.is_some.ensures c.if-is_some.false) in
    let below = ended-below c.self.inside.lanes.items c.args.lane c.args.tag t in
    let number = c.from-at.ensures in omega arith

pub have_ended-requires-clause-ended : goal.have_ended-requires-clause-ended
have_ended-requires-clause-ended c =
    let m : List ℕ = [] in
    let w : World = own-world c.args.self.now m in
    let is : IsSideOf c.args.self.now m w = own-side c.args.self.now m in
    let old : State = state_in c.args.layout.now c.args.self.now m w is in
    let s : State = record { host = m; device = old.device; lanes = c.self.inside.lanes.items; controllers = c.self.inside.controllers.items } in
    let same : s ≡ old = ap (λ (f : Side). let o : State = record { host = m; device = old.device; lanes = f.lanes; controllers = f.controllers } in o) c.self.view_is in
    let t = ended-here s old c.args.lane c.args.tag c.unended.result same c.unended.ensures (none-by c.unended.result c.is_some.result c.is_some.ensures c.if-is_some.false) in
    ended-is c.self.inside.lanes.items c.args.lane c.args.tag t c.from-at.result c.index-ring.result.now c.from-at.ensures c.index-ring.ensures

pub have_ended-requires-clause-led : goal.have_ended-requires-clause-led
have_ended-requires-clause-led c =
    let m : List ℕ = [] in
    let w : World = own-world c.args.self.now m in
    let is : IsSideOf c.args.self.now m w = own-side c.args.self.now m in
    let old : State = state_in c.args.layout.now c.args.self.now m w is in
    let s : State = record { host = m; device = old.device; lanes = c.self.inside.lanes.items; controllers = c.self.inside.controllers.items } in
    let same : s ≡ old = ap (λ (f : Side). let o : State = record { host = m; device = old.device; lanes = f.lanes; controllers = f.controllers } in o) c.self.view_is in
    let t = ended-here s old c.args.lane c.args.tag c.unended.result same c.unended.ensures (none-by c.unended.result c.is_some.result c.is_some.ensures c.if-is_some.false) in
    ended-led c.self.inside.lanes.items c.args.lane c.args.tag t c.from-at.result c.index-ring.result.now c.from-at.ensures c.index-ring.ensures

pub returns-then-not-have_ended : goal.returns-then-not-have_ended
returns-then-not-have_ended c = λ m w is.
    let old : State = state_in c.args.layout.now c.args.self.now m w is in
    let s : State = record { host = m; device = old.device; lanes = c.self.inside.lanes.items; controllers = c.self.inside.controllers.items } in
    let same : s ≡ old = ap (λ (f : Side). let o : State = record { host = m; device = old.device; lanes = f.lanes; controllers = f.controllers } in o) c.self.view_is in
    let t = ended-here s old c.args.lane c.args.tag c.unended.result same c.unended.ensures (none-by c.unended.result c.is_some.result c.is_some.ensures c.if-is_some.false) in
    (subst (λ (x : State). false ≡ due c.args.layout.now (event.Post c.args.lane c.args.tag) (world_of x)) same
    (sym (post-waits c.args.layout.now s c.args.lane c.args.tag c.from-at.result c.index-ring.result.now t c.from-at.ensures c.index-ring.ensures c.have_ended.result c.have_ended.ensures
    c.if-not-have_ended.true)))
    ∙ due-side c.args.layout.now c.args.self.now m w is (event.Post c.args.lane c.args.tag) tt

pub ended-claim-requires : goal.ended-claim-requires
ended-claim-requires c =
    let m : List ℕ = [] in
    let w : World = own-world c.args.self.now m in
    let is : IsSideOf c.args.self.now m w = own-side c.args.self.now m in
    let old : State = state_in c.args.layout.now c.args.self.now m w is in
    let s : State = record { host = m; device = old.device; lanes = c.self.inside.lanes.items; controllers = c.self.inside.controllers.items } in
    let same : s ≡ old = ap (λ (f : Side). let o : State = record { host = m; device = old.device; lanes = f.lanes; controllers = f.controllers } in o) c.self.view_is in
    let t = ended-here s old c.args.lane c.args.tag c.unended.result same c.unended.ensures (none-by c.unended.result c.is_some.result c.is_some.ensures c.if-is_some.false) in
    ended-is c.self.inside.lanes.items c.args.lane c.args.tag t c.from-at.result c.index-ring.result.now c.from-at.ensures c.index-ring.ensures

pub returns-in_default : goal.returns-in_default
returns-in_default c = λ m w is.
    let old : State = state_in c.args.layout.now c.args.self.now m w is in
    let s : State = record { host = m; device = old.device; lanes = c.self.inside.lanes.items; controllers = c.self.inside.controllers.items } in
    let same : s ≡ old = ap (λ (f : Side). let o : State = record { host = m; device = old.device; lanes = f.lanes; controllers = f.controllers } in o) c.self.view_is in
    let t = ended-here s old c.args.lane c.args.tag c.unended.result same c.unended.ensures (none-by c.unended.result c.is_some.result c.is_some.ensures c.if-is_some.false) in
    let claim = c.ended-claim.ensures t.command t.st t.share
    (ended-there c.self.inside.lanes.items c.args.lane c.args.tag t c.from-at.result c.index-ring.result.now c.from-at.ensures c.index-ring.ensures) in
    let guest = ap (λ (d : Command). d.guest) claim in
    (subst (λ (x : State). false ≡ due c.args.layout.now (event.Post c.args.lane c.args.tag) (world_of x)) same
    (sym (post-nobody c.args.layout.now s c.args.lane c.args.tag c.from-at.result c.index-ring.result.now t c.from-at.ensures c.index-ring.ensures c.have_ended.result c.have_ended.ensures
    (subst (λ (n : ℕ). slice_get c.args.layout.now.guests n ≡ None) guest c.in_default.ensures))))
    ∙ due-side c.args.layout.now c.args.self.now m w is (event.Post c.args.lane c.args.tag) tt

pub index-vctl-requires : goal.index-vctl-requires
index-vctl-requires c =
    let m : List ℕ = [] in
    let w : World = own-world c.args.self.now m in
    let is : IsSideOf c.args.self.now m w = own-side c.args.self.now m in
    let old : State = state_in c.args.layout.now c.args.self.now m w is in
    let s : State = record { host = m; device = old.device; lanes = c.self.inside.lanes.items; controllers = c.self.inside.controllers.items } in
    let same : s ≡ old = ap (λ (f : Side). let o : State = record { host = m; device = old.device; lanes = f.lanes; controllers = f.controllers } in o) c.self.view_is in
    let t = ended-here s old c.args.lane c.args.tag c.unended.result same c.unended.ensures (none-by c.unended.result c.is_some.result c.is_some.ensures c.if-is_some.false) in
    let below = slice_get-below c.args.layout.now.guests c.ended-claim.result.now.guest c.in-Some._given.now c.in-Some.ensures in
    let many = ap (λ (f : Side). length f.controllers) c.self.view_is ∙ c.requires.controllers in
    let number = c.from.ensures in omega arith

pub returns : goal.returns
returns c = λ m w is.
    let old : State = state_in c.args.layout.now c.args.self.now m w is in
    let s : State = record { host = m; device = old.device; lanes = c.self.inside.lanes.items; controllers = c.self.inside.controllers.items } in
    let same : s ≡ old = ap (λ (f : Side). let o : State = record { host = m; device = old.device; lanes = f.lanes; controllers = f.controllers } in o) c.self.view_is in
    let t = ended-here s old c.args.lane c.args.tag c.unended.result same c.unended.ensures (none-by c.unended.result c.is_some.result c.is_some.ensures c.if-is_some.false) in
    let claim = c.ended-claim.ensures t.command t.st t.share
    (ended-there c.self.inside.lanes.items c.args.lane c.args.tag t c.from-at.result c.index-ring.result.now c.from-at.ensures c.index-ring.ensures) in
    let guest = ap (λ (d : Command). d.guest) claim in
    let within = slice_get-below c.args.layout.now.guests c.ended-claim.result.now.guest c.in-Some._given.now c.in-Some.ensures in
    let many = ap (λ (f : Side). length f.controllers) c.self.view_is ∙ c.requires.controllers in
    let found = looked-up c.self.inside.controllers.items t.command.guest c.from.result c.index-vctl.result.now (c.from.ensures ∙ guest)
    (let number = c.from.ensures in omega (arith, within, many)) c.index-vctl.ensures in
    let there = ap (slice_get c.args.layout.now.guests) (sym guest) ∙ c.in-Some.ensures in
    (subst (λ (x : State). c.may_end.result ≡ due c.args.layout.now (event.Post c.args.lane c.args.tag) (world_of x)) same
    (post-due c.args.layout.now s c.args.lane c.args.tag c.from-at.result c.index-ring.result.now t c.from-at.ensures c.index-ring.ensures
    c.have_ended.result c.have_ended.ensures c.in-Some._given.now c.index-vctl.result.now there found c.if-not-have_ended.false c.may_end.result
    (λ cid st. c.may_end.ensures cid st
    ∙ ap (λ (n : ℕ). cond (is_enabled c.index-vctl.result.now) (is_some (post c.index-vctl.result.now n 0 cid st)) true) (ap (λ (d : Command). d.queue) claim))))
    ∙ due-side c.args.layout.now c.args.self.now m w is (event.Post c.args.lane c.args.tag) tt
