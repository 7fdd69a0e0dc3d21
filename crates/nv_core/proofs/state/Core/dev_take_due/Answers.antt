use Rattle.std.proofs.Common.{◌≡◌, ◌<◌, ◌≤◌, ◌∙◌, length, sym, subst, arith}
use Rattle.nv_core.proofs.DeviceTakes.{take-no_device}
use Rattle.nv_core.proofs.Dues.{dev_take-due, due-told}
use Rattle.nv_core.specs.State.{IsOf, State, state_of, world_of}
use Rattle.nv_model.specs.declared.reply.Reply.TheVariants as reply
use Rattle.nv_world_model.specs.Due.{due}
use Rattle.nv_world_model.specs.declared.event.Event.TheVariants as event
use Rattle.nv_core.proofs.state.Core.dev_take_due.Goals as goal

pub returns-then-lane-lanes : goal.returns-then-lane-lanes
returns-then-lane-lanes c =
    let past : length c.self.inside.device.lanes ≤ c.args.lane = (let many = c.lanes.ensures.value in let t = c.if-lane-lanes.true in omega arith) in
    sym (due-told c.args._layout.now (event.DevTake c.args.lane) c.args.self.now c.args.self.now reply.Ignored
    (take-no_device c.args._layout.now c.args.self.now c.requires c.args.lane
    (subst (λ (x : State). length x.device.lanes ≤ c.args.lane) c.self.view_is past)))

pub returns : goal.returns
returns c =
    let s : State = state_of c.self.inside.host c.self.inside.device c.self.inside.front in
    let is = subst (IsOf c.args._layout.now) (sym c.self.view_is) c.requires in
    let below : c.args.lane < length s.device.lanes = (let many = c.lanes.ensures.value in let t = c.if-lane-lanes.false in omega arith) in
    subst (λ (x : State). c.waits.result ≡ due c.args._layout.now (event.DevTake c.args.lane) (world_of x)) c.self.view_is
    (c.waits.ensures ∙ sym (dev_take-due c.args._layout.now s is c.args.lane below))
