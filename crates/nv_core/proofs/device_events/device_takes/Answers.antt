use Rattle.std.proofs.Common.{◌≡◌, ◌<◌, ◌≤◌, ◌∙◌, true, length, set, sym, ap, arith}
use Rattle.nv_core.proofs.Delegated.{controllers-step, tails-taken}
use Rattle.nv_core.proofs.DeviceNeeds.{may-take, next-at}
use Rattle.nv_core.proofs.DeviceTakes.{take-done, take-idle, take-no_device}
use Rattle.nv_laws_sound.specs.Side.{tails_of}
use Rattle.nv_core.specs.State.{State, state_of}
use Rattle.nv_device.specs.State.{Physical}
use Rattle.nv_device.specs.Taking.{waits}
use Rattle.nv_model.specs.declared.reply.Reply.TheVariants as reply
use Rattle.nv_world_model.specs.World.{Flying, InDevice, tag_changed}
use Rattle.nv_world_model.specs.declared.event.Event.TheVariants as event
use Rattle.nv_core.proofs.device_events.device_takes.Goals as goal

pub returns-then-lane-lanes-clause-ok : goal.returns-then-lane-lanes-clause-ok
returns-then-lane-lanes-clause-ok c =
    let s : State = state_of c.args.host.now c.args.device.now c.args._front.now in
    let past : length s.device.lanes ≤ c.args.lane = (let many = c.lanes.ensures.value in let t = c.if-lane-lanes.true in omega arith) in
    take-no_device c.args._layout.now s c.requires c.args.lane past

pub returns-then-not-waits-clause-ok : goal.returns-then-not-waits-clause-ok
returns-then-not-waits-clause-ok c =
    let s : State = state_of c.args.host.now c.args.device.now c.args._front.now in
    let below : c.args.lane < length s.device.lanes = (let many = c.lanes.ensures.value in let t = c.if-lane-lanes.false in omega arith) in
    take-idle c.args._layout.now s c.requires c.args.lane below (sym c.waits.ensures ∙ c.if-not-waits.true)

pub take-requires-clause-may : goal.take-requires-clause-may
take-requires-clause-may c =
    let s : State = state_of c.args.host.now c.args.device.now c.args._front.now in
    let below : c.args.lane < length s.device.lanes = (let many = c.lanes.ensures.value in let t = c.if-lane-lanes.false in omega arith) in
    may-take c.args._layout.now s c.args.lane c.requires below

pub returns-clause-ok : goal.returns-clause-ok
returns-clause-ok c =
    let s : State = state_of c.args.host.now c.args.device.now c.args._front.now in
    let below : c.args.lane < length s.device.lanes = (let many = c.lanes.ensures.value in let t = c.if-lane-lanes.false in omega arith) in
    let waiting : waits c.args.lane s.device ≡ true = sym c.waits.ensures ∙ c.if-not-waits.false in
    let a = next-at c.args._layout.now s c.args.lane c.requires below waiting in
    controllers-step c.args._layout.now c.args.host.now c.args.device.now c.args._front.now c.requires (event.DevTake c.args.lane) tt reply.Done
    (record s { device = c.take.new.self; lanes = set s.lanes c.args.lane (tag_changed a.tag (Flying a.next.command a.next.share InDevice) a.sides.l) })
    (take-done c.args._layout.now s c.requires c.args.lane a c.take.new.self waiting c.in_ok-take.ensures.state)

pub returns-clause-tails : goal.returns-clause-tails
returns-clause-tails c =
    ap (λ (p : Physical). tails_of p.lanes) c.in_ok-take.ensures.state ∙ tails-taken c.args.lane c.args.host.now c.args.device.now
