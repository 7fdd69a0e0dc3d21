use Rattle.std.proofs.Common.{◌≡◌, false, ◌∙◌, subst, sym}
use Rattle.nv_model.specs.declared.reply.Reply.TheVariants as reply
use Rattle.nv_model.specs.Private.{AdminQueueStep}
use Rattle.nv_world_model.specs.Laws.{LeadsTo, OnlyInSeat}
use Rattle.nv_world_model.specs.Step.{After, is_done}
use Rattle.nv_world_model.proofs.Seats.{owner_of-is}
use Rattle.nv_world_model.proofs.SeatSteps.{admin-cannot, admin-done, admin-only, admin-step, own_admin, private-admin}
use Rattle.nv_world_model.proofs.laws.seats.an_admin_step_is_the_private_controllers.Goals as goal

pub returns-clause-done : goal.returns-clause-done
returns-clause-done c = λ geometry number o w e sound is_done.
    let same = admin-step geometry number o w e in
    subst (λ (x : After). LeadsTo geometry o AdminQueueStep w x.world) (sym same)
    (admin-done geometry w o (owner_of-is geometry w number o e) sound (own_admin o w)
    (subst (λ (x : After). x.reply ≡ reply.Done) same is_done) (private-admin geometry o w))

pub returns-clause-cannot : goal.returns-clause-cannot
returns-clause-cannot c = λ geometry number o w e not_done.
    private-admin geometry o w
    ∙ admin-cannot geometry w o (own_admin o w) (subst (λ (x : After). is_done x.reply ≡ false) (admin-step geometry number o w e) not_done)

pub returns-clause-only : goal.returns-clause-only
returns-clause-only c = λ geometry number o w e.
    subst (λ (x : After). OnlyInSeat o w x.world) (sym (admin-step geometry number o w e)) (admin-only geometry w o (own_admin o w))
