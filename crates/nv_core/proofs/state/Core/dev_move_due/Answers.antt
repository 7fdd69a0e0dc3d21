use Rattle.std.proofs.Common.{◌≡◌, false, ◌∙◌, length, sym, subst}
use Rattle.nv_core.proofs.DeviceSteps.{both-below, move-no_slot}
use Rattle.nv_core.proofs.Dues.{dev_move-due, due-told}
use Rattle.nv_core.specs.State.{IsOf, State, state_of, world_of}
use Rattle.nv_model.specs.declared.reply.Reply.TheVariants as reply
use Rattle.nv_world_model.specs.Area.{tag_count}
use Rattle.nv_world_model.specs.Due.{due}
use Rattle.nv_world_model.specs.declared.event.Event.TheVariants as event
use Rattle.nv_core.proofs.state.Core.dev_move_due.Goals as goal

pub returns-then-not-has_slot : goal.returns-then-not-has_slot
returns-then-not-has_slot c =
    let s : State = state_of c.self.inside.host c.self.inside.device c.self.inside.front in
    let is = subst (IsOf c.args._layout.now) (sym c.self.view_is) c.requires in
    let e = event.DevMove c.args.lane c.args.slot c.args.number in
    subst (λ (x : State). false ≡ due c.args._layout.now e (world_of x)) c.self.view_is
    (sym (due-told c.args._layout.now e s s reply.Ignored
    (move-no_slot c.args._layout.now s is c.args.lane c.args.slot c.args.number (sym c.has_slot.ensures ∙ c.if-not-has_slot.true))))

pub returns : goal.returns
returns c =
    let s : State = state_of c.self.inside.host c.self.inside.device c.self.inside.front in
    let is = subst (IsOf c.args._layout.now) (sym c.self.view_is) c.requires in
    let there = both-below c.args.lane (length c.self.inside.device.lanes) c.args.slot tag_count c.has_slot.result c.has_slot.ensures c.if-not-has_slot.false in
    subst (λ (x : State). c.has_left.result ≡ due c.args._layout.now (event.DevMove c.args.lane c.args.slot c.args.number) (world_of x)) c.self.view_is
    (c.has_left.ensures ∙ sym (dev_move-due c.args._layout.now s is c.args.lane there.0 c.args.slot there.1 c.args.number))
