use Rattle.nv_core.proofs.Delegated.{lent-kept, lent-rung, tails-after}
use Rattle.nv_core.specs.Front.{HasTailMoved}
use Rattle.nv_laws_sound.specs.Side.{tails_of}
use Rattle.nv_core.specs.State.{IsStep, state_of}
use Rattle.nv_device.specs.State.{Physical}
use Rattle.nv_world_model.specs.declared.event.Event.TheVariants as event
use Rattle.std.proofs.Common.{◌∙◌, ℕ, List, ap, subst, sym}
use Rattle.std.specs.List.{slice_index_or}
use Rattle.nv_core.proofs.state.Core.submit.Goals as goal

pub submit-requires : goal.submit-requires
submit-requires c =
    lent-kept c.args.layout.now c.from_mut-host.result.now c.self.inside.host c.from_mut-host.ensures.value c.self.inside.device c.self.inside.front c.args.self.now c.self.view_is c.requires c.self.invariant

pub invariant_of-self-2 : goal.invariant_of-self-2
invariant_of-self-2 c =
    ap (λ (p : Physical). tails_of p.lanes) c.ring.ensures
    ∙ tails-after c.self.inside.device c.args.lane c.submit.new.self.tails
    (subst (λ (ts : List ℕ). HasTailMoved c.args.lane ts c.submit.new.self.tails) (sym c.self.invariant) c.submit.ensures.tails)

pub returns-clause-ok : goal.returns-clause-ok
returns-clause-ok c =
    subst (λ (p : Physical). IsStep c.args.layout.now (event.Submit c.args.lane c.args.tag) c.args.self.now c.in_ok-reply.reply
    (state_of (slice_index_or c.submit.new.host 0 c.self.inside.host) p c.submit.new.self))
    (sym c.ring.ensures)
    (lent-rung c.args.layout.now c.from_mut-host.result.now c.self.inside.host c.from_mut-host.ensures.value c.self.inside.device c.self.inside.front c.args.self.now c.self.view_is c.requires c.self.invariant c.submit.new.host c.submit.ensures.len
    (event.Submit c.args.lane c.args.tag) c.in_ok-reply.reply c.submit.new.self c.in_ok-reply.ensures.ok)
