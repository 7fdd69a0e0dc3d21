use Rattle.std.proofs.Common.{◌≡◌, ◌∙◌, ◌++◌, ◌∷◌, [], List, inr, ap, subst}
use Rattle.nv_model.specs.declared.reply.Reply.{Reply}
use Rattle.nv_world.proofs.Steps.{keeping, made-logged, made-running}
use Rattle.nv_world.specs.Mediated.{IsLogged, Kept, mediated}
use Rattle.nv_world_model.specs.declared.logged.Logged.{Logged}
use Rattle.nv_world.proofs.world.World.step_any.Goals as goal

pub invariant_of-self-2 : goal.invariant_of-self-2
invariant_of-self-2 c =
    let k : Kept = record { geometry = c.self.inside.mediator.geometry; state = c.self.inside.mediator.state; log = c.self.inside.log.items } in
    let joined : c.push_reserved.new.self.items ≡ k.log ++ record { event = c.args.event; reply = c.in-Ok.reply } ∷ [] =
    c.push_reserved.ensures.items
    ∙ ap (λ (log : List Logged). log ++ record { event = c.args.event; reply = c.in-Ok.logged } ∷ []) c.reserve.ensures.items
    ∙ ap (λ (r : Reply). k.log ++ record { event = c.args.event; reply = r } ∷ []) c.in-Ok.ensures.again in
    made-running k c.step_twice-told.new.self c.args.event c.in-Ok.reply c.in-Ok.ensures.ok c.push_reserved.new.self.items joined c.self.invariant

pub returns : goal.returns
returns c =
    let k : Kept = record { geometry = c.self.inside.mediator.geometry; state = c.self.inside.mediator.state; log = c.self.inside.log.items } in
    let joined : c.push_reserved.new.self.items ≡ k.log ++ record { event = c.args.event; reply = c.in-Ok.reply } ∷ [] =
    c.push_reserved.ensures.items
    ∙ ap (λ (log : List Logged). log ++ record { event = c.args.event; reply = c.in-Ok.logged } ∷ []) c.reserve.ensures.items
    ∙ ap (λ (r : Reply). k.log ++ record { event = c.args.event; reply = r } ∷ []) c.in-Ok.ensures.again in
    inr (subst (λ (o : Kept). IsLogged c.args.event (mediated o) c.in-Ok.reply
    (mediated (keeping c.step_twice-told.new.self c.push_reserved.new.self.items))) c.self.view_is
    (made-logged k c.step_twice-told.new.self c.args.event c.in-Ok.reply c.in-Ok.ensures.ok c.push_reserved.new.self.items joined))
