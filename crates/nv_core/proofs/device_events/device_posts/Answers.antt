use Rattle.std.proofs.Common.{◌≡◌, ◌∙◌, length, refl, sym, ap, subst}
use Rattle.std.specs.Prelude.{IfSome}
use Rattle.nv_core.proofs.Delegated.{posts-step, tails-completed}
use Rattle.nv_core.proofs.DevicePosts.{post-no_slot}
use Rattle.nv_core.proofs.DeviceSteps.{both-below}
use Rattle.nv_laws_sound.specs.Side.{tails_of}
use Rattle.nv_core.specs.State.{IsStep, State, state_of}
use Rattle.nv_device.specs.Physical.{done_where, has_ended, held_at}
use Rattle.nv_device.specs.Posting.{IsPosted}
use Rattle.nv_device.specs.State.{Physical}
use Rattle.nv_device.specs.declared.response.Response.{Response}
use Rattle.nv_device.specs.declared.response.Response.TheVariants as response
use Rattle.nv_model.specs.declared.reply.Reply.{Reply}
use Rattle.nv_world_model.specs.Area.{tag_count}
use Rattle.nv_world_model.specs.Device.{held_status}
use Rattle.nv_world_model.specs.declared.event.Event.TheVariants as event
use Rattle.nv_core.proofs.device_events.device_posts.Goals as goal

pub returns-then-not-has_slot-clause-step : goal.returns-then-not-has_slot-clause-step
returns-then-not-has_slot-clause-step c =
    let s : State = state_of c.args.host.now c.args.device.now c.args._front.now in
    post-no_slot c.args._layout.now s c.requires c.args.lane c.args.slot (sym c.has_slot.ensures ∙ c.if-not-has_slot.true)

pub returns-clause-step : goal.returns-clause-step
returns-clause-step c =
    let s : State = state_of c.args.host.now c.args.device.now c.args._front.now in
    let there = both-below c.args.lane (length s.device.lanes) c.args.slot tag_count c.has_slot.result c.has_slot.ensures c.if-not-has_slot.false in
    subst (λ (r : Reply). IsStep c.args._layout.now (event.DevPost c.args.lane c.args.slot) s r (state_of c.post-response.new.host c.post-response.new.self c.args._front.now))
    (sym c.reply_of.ensures)
    (posts-step c.args._layout.now c.args.host.now c.args.device.now c.args._front.now c.requires c.args.lane c.args.slot c.post-response.result
    c.post-response.new.host c.post-response.new.self there.0 there.1 c.post-response.ensures.response c.post-response.ensures.done c.post-response.ensures.idle
    c.post-response.ensures.size)

pub returns-clause-tails : goal.returns-clause-tails
returns-clause-tails c =
    by-response c.post-response.result c.post-response.ensures.response c.post-response.ensures.done c.post-response.ensures.idle
  where
    by-response : (r : Response) → r ≡ done_where (has_ended (held_at c.args.device.now c.args.lane c.args.slot))
        → (r ≡ response.Done → IfSome (held_at c.args.device.now c.args.lane c.args.slot)
        (λ h. IsPosted c.args.lane c.args.slot (held_status h) c.args.host.now c.args.device.now c.post-response.new.host c.post-response.new.self))
        → (r ≡ response.Idle → (c.post-response.new.self ≡ c.args.device.now) × (c.post-response.new.host ≡ c.args.host.now))
        → tails_of c.post-response.new.self.lanes ≡ tails_of c.args.device.now.lanes
    by-response response.Done told done idle =
        tails-completed c.args.lane c.args.slot c.args.host.now c.post-response.new.host c.args.device.now c.post-response.new.self response.Done refl told done
    by-response response.Idle told done idle = ap (λ (p : Physical). tails_of p.lanes) (idle refl).0
