use Rattle.std.proofs.Common.{◌≡◌, ◌∙◌, ◌++◌, ◌∷◌, [], List, inr, ap, sym, subst}
use Rattle.nv_model.specs.declared.reply.Reply.{Reply}
use Rattle.nv_model.specs.declared.reply.Reply.TheVariants as reply
use Rattle.nv_plan.specs.declared.job.Job.{Job}
use Rattle.nv_world.proofs.Steps.{keeping, made-logged, made-running}
use Rattle.nv_world.specs.Mediated.{IsSubmitted, Kept, mediated}
use Rattle.nv_world_model.specs.declared.event.Event.{Event}
use Rattle.nv_world_model.specs.declared.event.Event.TheVariants as event
use Rattle.nv_world_model.specs.declared.logged.Logged.{Logged}
use Rattle.nv_world.proofs.world.World.submit_made.Goals as goal

pub invariant_of-self-2 : goal.invariant_of-self-2
invariant_of-self-2 c =
    let k : Kept = record { geometry = c.self.inside.mediator.geometry; state = c.self.inside.mediator.state; log = c.self.inside.log.items } in
    let e : Event = event.Submit c.args.plan.job.lane c.args.plan.job.tag in
    let joined : c.push_reserved.new.self.items ≡ k.log ++ record { event = e; reply = c.in-Some.reply } ∷ [] =
    c.push_reserved.ensures.items
    ∙ ap (λ (log : List Logged). log ++ record { event = event.Submit c.job-job.result.now.lane c.job-job.result.now.tag; reply = reply.Done } ∷ []) c.reserve.ensures.items
    ∙ ap (λ (j : Job). k.log ++ record { event = event.Submit j.lane j.tag; reply = reply.Done } ∷ []) c.job-job.ensures.value
    ∙ ap (λ (r : Reply). k.log ++ record { event = e; reply = r } ∷ []) (sym c.in-Some.ensures.done) in
    made-running k c.submit_plan.new.self e c.in-Some.reply c.in-Some.ensures.some.1 c.push_reserved.new.self.items joined c.self.invariant

pub returns : goal.returns
returns c =
    let k : Kept = record { geometry = c.self.inside.mediator.geometry; state = c.self.inside.mediator.state; log = c.self.inside.log.items } in
    let e : Event = event.Submit c.args.plan.job.lane c.args.plan.job.tag in
    let joined : c.push_reserved.new.self.items ≡ k.log ++ record { event = e; reply = c.in-Some.reply } ∷ [] =
    c.push_reserved.ensures.items
    ∙ ap (λ (log : List Logged). log ++ record { event = event.Submit c.job-job.result.now.lane c.job-job.result.now.tag; reply = reply.Done } ∷ []) c.reserve.ensures.items
    ∙ ap (λ (j : Job). k.log ++ record { event = event.Submit j.lane j.tag; reply = reply.Done } ∷ []) c.job-job.ensures.value
    ∙ ap (λ (r : Reply). k.log ++ record { event = e; reply = r } ∷ []) (sym c.in-Some.ensures.done) in
    subst (λ (o : Kept). IsSubmitted c.args.plan (mediated o) c.in-Some.reply
    (mediated (keeping c.submit_plan.new.self c.push_reserved.new.self.items))) c.self.view_is
    (inr (inr (c.in-Some.ensures.some.0, made-logged k c.submit_plan.new.self e c.in-Some.reply c.in-Some.ensures.some.1 c.push_reserved.new.self.items joined)))
