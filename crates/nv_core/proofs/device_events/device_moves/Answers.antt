use Rattle.std.proofs.Common.{◌∙◌, length, sym, subst}
use Rattle.nv_core.proofs.Delegated.{controllers-step, tails-moved}
use Rattle.nv_core.proofs.DeviceNeeds.{may-move}
use Rattle.nv_core.proofs.DeviceSteps.{both-below, move-no_slot, move-step}
use Rattle.nv_core.specs.Answers.{said}
use Rattle.nv_core.specs.State.{IsStep, State, state_of}
use Rattle.nv_model.specs.declared.reply.Reply.{Reply}
use Rattle.nv_world_model.specs.Area.{tag_count}
use Rattle.nv_world_model.specs.declared.event.Event.TheVariants as event
use Rattle.nv_core.proofs.device_events.device_moves.Goals as goal

pub returns-then-not-has_slot-clause-step : goal.returns-then-not-has_slot-clause-step
returns-then-not-has_slot-clause-step c =
    let s : State = state_of c.args.host.now c.args.device.now c.args._front.now in
    move-no_slot c.args._layout.now s c.requires c.args.lane c.args.slot c.args.number (sym c.has_slot.ensures ∙ c.if-not-has_slot.true)

pub move_unit-response-requires-clause-may : goal.move_unit-response-requires-clause-may
move_unit-response-requires-clause-may c =
    let s : State = state_of c.args.host.now c.args.device.now c.args._front.now in
    let there = both-below c.args.lane (length s.device.lanes) c.args.slot tag_count c.has_slot.result c.has_slot.ensures c.if-not-has_slot.false in
    may-move c.args._layout.now s c.args.lane c.args.slot c.args.number c.requires there.0

pub returns-clause-step : goal.returns-clause-step
returns-clause-step c =
    let s : State = state_of c.args.host.now c.args.device.now c.args._front.now in
    let there = both-below c.args.lane (length s.device.lanes) c.args.slot tag_count c.has_slot.result c.has_slot.ensures c.if-not-has_slot.false in
    let new : State = state_of c.move_unit-response.new.host c.move_unit-response.new.self c.args._front.now in
    subst (λ (r : Reply). IsStep c.args._layout.now (event.DevMove c.args.lane c.args.slot c.args.number) s r new) (sym c.reply_of.ensures)
    (controllers-step c.args._layout.now c.args.host.now c.args.device.now c.args._front.now c.requires
    (event.DevMove c.args.lane c.args.slot c.args.number) tt (said c.move_unit-response.result)
    (record s { host = c.move_unit-response.new.host; device = c.move_unit-response.new.self })
    (move-step c.args._layout.now s c.requires c.args.lane c.args.slot c.args.number c.move_unit-response.result c.move_unit-response.new.host c.move_unit-response.new.self
    there.0 there.1 c.move_unit-response.ensures.response c.move_unit-response.ensures.done c.move_unit-response.ensures.idle
    c.move_unit-response.ensures.host_size c.move_unit-response.ensures.disk_size))

pub returns-clause-tails : goal.returns-clause-tails
returns-clause-tails c =
    tails-moved c.args.lane c.args.slot c.args.host.now c.move_unit-response.new.host c.args.device.now c.move_unit-response.new.self c.args.number
    c.move_unit-response.result c.move_unit-response.ensures.response c.move_unit-response.ensures.done c.move_unit-response.ensures.idle
