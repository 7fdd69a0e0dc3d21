use Rattle.std.proofs.Common.{◌≡◌, ◌∙◌, ◌++◌, ◌∷◌, [], List, ap, subst}
use Rattle.nv_model.specs.declared.reply.Reply.{Reply}
use Rattle.nv_mediator.proofs.Quiet.{made-plain}
use Rattle.nv_world.proofs.Steps.{keeping, made-logged, made-running}
use Rattle.nv_world.specs.Mediated.{IsLogged, Kept, mediated}
use Rattle.nv_world_model.specs.declared.event.Event.{Event}
use Rattle.nv_world_model.specs.declared.event.Event.TheVariants as event
use Rattle.nv_world_model.specs.declared.logged.Logged.{Logged}
use Rattle.nv_world.proofs.world.World.move_unit.Goals as goal

pub word-again-requires : goal.word-again-requires
word-again-requires c =
    made-plain c.args.lane c.args.slot c.args.number c.self.inside.mediator c.dev_move-reply.new.self c.dev_move-reply.result c.dev_move-reply.ensures

pub invariant_of-self-2 : goal.invariant_of-self-2
invariant_of-self-2 c =
    let k : Kept = record { geometry = c.self.inside.mediator.geometry; state = c.self.inside.mediator.state; log = c.self.inside.log.items } in
    let e : Event = event.DevMove c.args.lane c.args.slot c.args.number in
    let joined : c.push.new.log.items ≡ k.log ++ record { event = e; reply = c.dev_move-reply.result } ∷ [] =
    c.push.ensures
    ∙ ap (λ (log : List Logged). log ++ record { event = e; reply = c.word-again.result } ∷ []) c.in_ok-reserve.ensures.items
    ∙ ap (λ (r : Reply). k.log ++ record { event = e; reply = r } ∷ []) c.word-again.ensures in
    made-running k c.dev_move-reply.new.self e c.dev_move-reply.result c.dev_move-reply.ensures c.push.new.log.items joined c.self.invariant

pub returns-clause-ok : goal.returns-clause-ok
returns-clause-ok c =
    let k : Kept = record { geometry = c.self.inside.mediator.geometry; state = c.self.inside.mediator.state; log = c.self.inside.log.items } in
    let e : Event = event.DevMove c.args.lane c.args.slot c.args.number in
    let joined : c.push.new.log.items ≡ k.log ++ record { event = e; reply = c.dev_move-reply.result } ∷ [] =
    c.push.ensures
    ∙ ap (λ (log : List Logged). log ++ record { event = e; reply = c.word-again.result } ∷ []) c.in_ok-reserve.ensures.items
    ∙ ap (λ (r : Reply). k.log ++ record { event = e; reply = r } ∷ []) c.word-again.ensures in
    subst (λ (o : Kept). IsLogged e (mediated o) c.dev_move-reply.result
    (mediated (keeping c.dev_move-reply.new.self c.push.new.log.items))) c.self.view_is
    (made-logged k c.dev_move-reply.new.self e c.dev_move-reply.result c.dev_move-reply.ensures c.push.new.log.items joined)
