use Rattle.std.proofs.Common.{◌≡◌, ◌∙◌, ◌++◌, ◌∷◌, [], List, ap, subst}
use Rattle.nv_world.proofs.Steps.{keeping, made-logged, made-running}
use Rattle.nv_world.specs.Mediated.{IsAdvanced, Kept, mediated}
use Rattle.nv_world_model.specs.declared.logged.Logged.{Logged}
use Rattle.nv_world.proofs.world.World.advance_any.Goals as goal

pub invariant_of-self-2 : goal.invariant_of-self-2
invariant_of-self-2 c =
    let k : Kept = record { geometry = c.self.inside.mediator.geometry; state = c.self.inside.mediator.state; log = c.self.inside.log.items } in
    let joined : c.put.new.log.items ≡ k.log ++ record { event = c.args.event; reply = c.in_ok-reply.reply } ∷ [] =
    c.put.ensures ∙ ap (λ (log : List Logged). log ++ record { event = c.args.event; reply = c.in_ok-reply.reply } ∷ []) c.in_ok-reserve.ensures.items in
    made-running k c.step.new.self c.args.event c.in_ok-reply.reply c.in_ok-reply.ensures.ok c.put.new.log.items joined c.self.invariant

pub returns-clause-ok : goal.returns-clause-ok
returns-clause-ok c =
    let k : Kept = record { geometry = c.self.inside.mediator.geometry; state = c.self.inside.mediator.state; log = c.self.inside.log.items } in
    let joined : c.put.new.log.items ≡ k.log ++ record { event = c.args.event; reply = c.in_ok-reply.reply } ∷ [] =
    c.put.ensures ∙ ap (λ (log : List Logged). log ++ record { event = c.args.event; reply = c.in_ok-reply.reply } ∷ []) c.in_ok-reserve.ensures.items in
    subst (λ (o : Kept). IsAdvanced c.args.event (mediated o)
    (mediated (keeping c.step.new.self c.put.new.log.items))) c.self.view_is
    (c.in_ok-reply.reply, made-logged k c.step.new.self c.args.event c.in_ok-reply.reply c.in_ok-reply.ensures.ok c.put.new.log.items joined)
