use Rattle.std.proofs.Common.{sym, arith, ◌≡◌, ◌∙◌, ℕ, List, Some, slice_get, ap, set}
use Rattle.nv_core.proofs.GiveUps.{give_up-done, give_up-not, give_up-step}
use Rattle.nv_core.proofs.GroupWorlds.{all-taken, taken-below, taken-found, taken-in, taken-led}
use Rattle.nv_laws_sound.specs.Side.{Side}
use Rattle.nv_world_model.specs.World.{Lane}
use Rattle.nv_core.proofs.front.Front.give_up.Goals as goal

pub returns-in-Some-clause-call : goal.returns-in-Some-clause-call
returns-in-Some-clause-call c =
    give_up-not c.args._layout.now c.args.lane c.args.tag c.args.self.now c.untaken.result c.in-Some.reply c.untaken.ensures c.in-Some.is

pub returns-in-Some-clause-step : goal.returns-in-Some-clause-step
returns-in-Some-clause-step c = λ m.
    give_up-step c.args._layout.now c.args.lane c.args.tag c.args.self.now c.args.self.now m c.in-Some.reply
    (give_up-not c.args._layout.now c.args.lane c.args.tag c.args.self.now c.untaken.result c.in-Some.reply c.untaken.ensures c.in-Some.is)

pub index_mut-requires : goal.index_mut-requires
index_mut-requires c =
    let lanes : List Lane = c.self.inside.lanes.items in
    let t = taken-in lanes c.args.self.now.lanes c.args.lane c.args.tag c.untaken.result (ap (λ (f : Side). f.lanes) c.self.view_is) c.untaken.ensures c.in_default.is in
    let below = taken-below lanes c.args.lane c.args.tag t in
    let number = c.from.ensures in omega arith

pub answer-requires-clause-led : goal.answer-requires-clause-led
answer-requires-clause-led c =
    let lanes : List Lane = c.self.inside.lanes.items in
    let t = taken-in lanes c.args.self.now.lanes c.args.lane c.args.tag c.untaken.result (ap (λ (f : Side). f.lanes) c.self.view_is) c.untaken.ensures c.in_default.is in
    taken-led lanes c.args.lane c.args.tag t c.from.result c.index_mut.result.now c.from.ensures c.index_mut.ensures.value

pub answer-requires-clause-together : goal.answer-requires-clause-together
answer-requires-clause-together c =
    let lanes : List Lane = c.self.inside.lanes.items in
    let t = taken-in lanes c.args.self.now.lanes c.args.lane c.args.tag c.untaken.result (ap (λ (f : Side). f.lanes) c.self.view_is) c.untaken.ensures c.in_default.is in
    let found : slice_get c.args.self.now.lanes c.args.lane ≡ Some c.index_mut.result.now =
    ap (λ (f : Side). slice_get f.lanes c.args.lane) (sym c.self.view_is)
    ∙ taken-found lanes c.args.lane c.args.tag t c.from.result c.index_mut.result.now c.from.ensures c.index_mut.ensures.value in
    all-taken c.args._layout.now lanes c.args.lane c.args.tag
    c.from.result c.index_mut.result.now (c.requires.lanes c.args.lane c.index_mut.result.now found) t c.from.ensures c.index_mut.ensures.value

pub returns-clause-call : goal.returns-clause-call
returns-clause-call c =
    let s : Side = record { lanes = c.self.inside.lanes.items; tails = c.self.inside.tails.items; controllers = c.self.inside.controllers.items } in
    let t = taken-in s.lanes c.args.self.now.lanes c.args.lane c.args.tag c.untaken.result (ap (λ (f : Side). f.lanes) c.self.view_is) c.untaken.ensures c.in_default.is in
    give_up-done c.args._layout.now c.args.lane c.args.tag s c.args.self.now c.from.result c.index_mut.result.now c.answer.new.self c.status.result c.self.view_is t
    c.from.ensures c.index_mut.ensures.value c.status.ensures c.answer.ensures

pub returns-clause-step : goal.returns-clause-step
returns-clause-step c = λ m.
    let s : Side = record { lanes = c.self.inside.lanes.items; tails = c.self.inside.tails.items; controllers = c.self.inside.controllers.items } in
    let t = taken-in s.lanes c.args.self.now.lanes c.args.lane c.args.tag c.untaken.result (ap (λ (f : Side). f.lanes) c.self.view_is) c.untaken.ensures c.in_default.is in
    give_up-step c.args._layout.now c.args.lane c.args.tag c.args.self.now _ m _
    (give_up-done c.args._layout.now c.args.lane c.args.tag s c.args.self.now c.from.result c.index_mut.result.now c.answer.new.self c.status.result c.self.view_is t
    c.from.ensures c.index_mut.ensures.value c.status.ensures c.answer.ensures)
