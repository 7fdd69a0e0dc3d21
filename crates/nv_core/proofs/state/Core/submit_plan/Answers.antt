use Rattle.nv_core.proofs.Alike.{current-alike}
use Rattle.nv_core.proofs.PlacesFollow.{lanes-unplaced}
use Rattle.nv_model.specs.Memory.{byte_in}
use Rattle.nv_core.proofs.LentHost.{after-lent}
use Rattle.nv_mem.specs.Lent.{bytes_of_hosts}
use Rattle.nv_core.proofs.Delegated.{lent-kept, lent-rung, tails-after}
use Rattle.nv_core.specs.Front.{HasTailMoved}
use Rattle.nv_laws_sound.specs.Side.{Side, tails_of}
use Rattle.nv_core.specs.State.{IsStep, State, state_of}
use Rattle.nv_core.specs.Submit.{IsCurrentIn}
use Rattle.nv_device.specs.State.{Physical}
use Rattle.nv_world_model.specs.declared.event.Event.TheVariants as event
use Rattle.std.proofs.Common.{◌≡◌, ◌∙◌, ℕ, List, ap, refl, subst, sym}
use Rattle.std.specs.List.{slice_index_or}
use Rattle.nv_core.proofs.state.Core.submit_plan.Goals as goal

pub submit_plan-requires : goal.submit_plan-requires
submit_plan-requires c =
    lent-kept c.args.layout.now c.from_mut-host.result.now c.self.inside.host c.from_mut-host.ensures.value c.self.inside.device c.self.inside.front c.args.self.now c.self.view_is c.requires c.self.invariant

pub invariant_of-self-2 : goal.invariant_of-self-2
invariant_of-self-2 c =
    ap (λ (p : Physical). tails_of p.lanes) c.ring.ensures
    ∙ tails-after c.self.inside.device c.args.plan.job.lane c.submit_plan.new.self.tails
    (subst (λ (ts : List ℕ). HasTailMoved c.args.plan.job.lane ts c.submit_plan.new.self.tails) (sym c.self.invariant) c.submit_plan.ensures.tails)

pub returns-clause-some : goal.returns-clause-some
returns-clause-some c =
    let is = c.in_ok-reply.ensures.some in (
      subst (λ (o : State). IsCurrentIn c.args.layout.now o.lanes c.args.plan) c.self.view_is
          (current-alike c.self.inside.front.lanes (state_of c.self.inside.host c.self.inside.device c.self.inside.front).lanes
          (sym (lanes-unplaced c.self.inside.device.mediator 0 (byte_in c.self.inside.host) c.self.inside.device.lanes c.self.inside.front.lanes)) c.args.layout.now c.args.plan is.0),
      subst (λ (p : Physical). IsStep c.args.layout.now (event.Submit c.args.plan.job.lane c.args.plan.job.tag) c.args.self.now c.in_ok-reply.reply
          (state_of (slice_index_or c.submit_plan.new.host 0 c.self.inside.host) p c.submit_plan.new.self))
          (sym c.ring.ensures)
          (lent-rung c.args.layout.now c.from_mut-host.result.now c.self.inside.host c.from_mut-host.ensures.value c.self.inside.device c.self.inside.front c.args.self.now c.self.view_is c.requires c.self.invariant c.submit_plan.new.host c.submit_plan.ensures.len
          (event.Submit c.args.plan.job.lane c.args.plan.job.tag) c.in_ok-reply.reply c.submit_plan.new.self is.1),
    )

pub returns-in_err-reply-clause-none : goal.returns-in_err-reply-clause-none
returns-in_err-reply-clause-none c = λ none.
    let host : List ℕ = c.self.inside.host in
    let device : Physical = c.self.inside.device in
    let front : Side = c.self.inside.front in
    let s : State = state_of host device front in
    let stays = c.in_err-reply.ensures.none refl in
    let same : slice_index_or c.submit_plan.new.host 0 host ≡ host =
    sym (after-lent c.from_mut-host.result.now host c.from_mut-host.ensures.value c.submit_plan.new.host c.submit_plan.ensures.len)
    ∙ stays.1.0 ∙ ap bytes_of_hosts c.from_mut-host.ensures.value in (
      ap (λ (h : List ℕ). state_of h device c.submit_plan.new.self) same ∙ ap (λ (f : Side). state_of host device f) stays.0 ∙ c.self.view_is,
      λ current. stays.1.1
          (current-alike s.lanes front.lanes (lanes-unplaced device.mediator 0 (byte_in host) device.lanes front.lanes) c.args.layout.now c.args.plan
          (subst (λ (o : State). IsCurrentIn c.args.layout.now o.lanes c.args.plan) (sym c.self.view_is) current)),
    )
