use Rattle.std.proofs.Common.{◌∙◌, length, sym, ap}
use Rattle.nv_core.proofs.Delegated.{controllers-step, tails-posted}
use Rattle.nv_core.proofs.DeviceNeeds.{holding-at}
use Rattle.nv_core.proofs.DevicePosts.{answered, fail-done, fail-idle, fail-no_slot, fail-success, some-there_by, success-told}
use Rattle.nv_core.proofs.DeviceSteps.{both-below}
use Rattle.nv_core.specs.State.{State, state_of}
use Rattle.nv_device.specs.Physical.{done_where, held_at}
use Rattle.nv_model.specs.declared.reply.Reply.TheVariants as reply
use Rattle.nv_world_model.specs.Area.{tag_count}
use Rattle.nv_world_model.specs.declared.event.Event.TheVariants as event
use Rattle.nv_core.proofs.device_events.device_fails.Goals as goal

pub returns-then-not-has_slot-clause-step : goal.returns-then-not-has_slot-clause-step
returns-then-not-has_slot-clause-step c =
    let s : State = state_of c.args.host.now c.args.device.now c.args._front.now in
    fail-no_slot c.args._layout.now s c.requires c.args.lane c.args.slot c.args.status (sym c.has_slot.ensures ∙ c.if-not-has_slot.true)

pub returns-then-not-holds-clause-step : goal.returns-then-not-holds-clause-step
returns-then-not-holds-clause-step c =
    let s : State = state_of c.args.host.now c.args.device.now c.args._front.now in
    let there = both-below c.args.lane (length s.device.lanes) c.args.slot tag_count c.has_slot.result c.has_slot.ensures c.if-not-has_slot.false in
    fail-idle c.args._layout.now s c.requires c.args.lane c.args.slot c.args.status there.0 there.1 (sym c.holds.ensures ∙ c.if-not-holds.true)

pub returns-then-is_success-clause-step : goal.returns-then-is_success-clause-step
returns-then-is_success-clause-step c =
    let s : State = state_of c.args.host.now c.args.device.now c.args._front.now in
    let there = both-below c.args.lane (length s.device.lanes) c.args.slot tag_count c.has_slot.result c.has_slot.ensures c.if-not-has_slot.false in
    let o = some-there_by (held_at s.device c.args.lane c.args.slot) c.holds.result c.holds.ensures c.if-not-holds.false in
    let a = holding-at c.args._layout.now s c.args.lane c.args.slot o.0 c.requires there.0 o.1 in
    fail-success c.args._layout.now s c.requires c.args.lane c.args.slot c.args.status o.0 a (success-told c.args.status c.is_success.result c.is_success.ensures ∙ c.if-is_success.true)

pub returns-clause-step : goal.returns-clause-step
returns-clause-step c =
    let s : State = state_of c.args.host.now c.args.device.now c.args._front.now in
    let there = both-below c.args.lane (length s.device.lanes) c.args.slot tag_count c.has_slot.result c.has_slot.ensures c.if-not-has_slot.false in
    let o = some-there_by (held_at s.device c.args.lane c.args.slot) c.holds.result c.holds.ensures c.if-not-holds.false in
    let a = holding-at c.args._layout.now s c.args.lane c.args.slot o.0 c.requires there.0 o.1 in
    controllers-step c.args._layout.now c.args.host.now c.args.device.now c.args._front.now c.requires
    (event.DevFail c.args.lane c.args.slot c.args.status) tt reply.Done
    (record s { host = c.fail.new.host; device = c.fail.new.self; lanes = answered c.args._layout.now s c.args.lane c.args.slot o.0 a })
    (fail-done c.args._layout.now s c.requires c.args.lane c.args.slot c.args.status o.0 c.fail.new.host c.fail.new.self a
    (success-told c.args.status c.is_success.result c.is_success.ensures ∙ c.if-is_success.false)
    (c.fail.ensures.done (c.fail.ensures.response ∙ ap done_where (sym c.holds.ensures ∙ c.if-not-holds.false))) c.fail.ensures.size)

pub returns-clause-tails : goal.returns-clause-tails
returns-clause-tails c =
    tails-posted c.args.lane c.args.slot c.args.host.now c.fail.new.host c.args.device.now c.fail.new.self c.args.status
    (c.fail.ensures.done (c.fail.ensures.response ∙ ap done_where (sym c.holds.ensures ∙ c.if-not-holds.false)))
