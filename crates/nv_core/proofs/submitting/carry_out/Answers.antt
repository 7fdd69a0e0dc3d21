use Rattle.std.proofs.Common.{◌≡◌, ◌⊎◌, ◌∙◌, Some, sym, subst, refl}
use Rattle.nv_core.proofs.SubmitJobs.{kind-answer, kind-goes}
use Rattle.nv_core.specs.Submit.{IsCarriedOut}
use Rattle.nv_model.specs.Memory.{byte_in}
use Rattle.nv_plan.specs.declared.kind.PlanKind.{PlanKind}
use Rattle.nv_plan.specs.declared.kind.PlanKind.TheVariants as kind
use Rattle.nv_plan.specs.Made.{plan_made}
use Rattle.nv_world_model.specs.Plan.{Plan}
use Rattle.nv_world_model.specs.World.{group_in}
use Rattle.nv_core.proofs.submitting.carry_out.Goals as goal

pub hand_on-requires-clause-goes : goal.hand_on-requires-clause-goes
hand_on-requires-clause-goes g c =
    kind-goes (plan_made c.args.plan)
    (subst (λ (k : PlanKind). (k ≡ kind.NoData) ⊎ ((k ≡ kind.Direct) ⊎ (k ≡ kind.Bounced))) c.kind.ensures.made c.in-NoData.is)

pub returns-in-Answer-clause-done : goal.returns-in-Answer-clause-done
returns-in-Answer-clause-done g c = λ command reads there.
    let p = c.args.plan in
    let place = c.args.place in
    let plan = kind-answer (plan_made p) c.in-Answer.status (sym c.kind.ensures.made ∙ c.in-Answer.is) in
    subst (λ (q : Plan). IsCarriedOut q p.given place.mediator place.lane (group_in (Some c.args.ring.now) place.tag) command
    (byte_in (g.C.MemoryCell.bytes c.args.host.now)) (byte_in (g.C.MemoryCell.bytes c.args.host.now)) c.args.tail.now c.args.tail.now c.args.ring.now c.answer.new.self) (sym plan)
    (record { memory = refl; tail = refl; tags_are = c.answer.ensures command reads there })
