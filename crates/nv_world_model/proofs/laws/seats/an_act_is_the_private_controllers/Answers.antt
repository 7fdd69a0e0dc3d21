use Rattle.std.proofs.Common.{ap, ◌∙◌, subst, sym}
use Rattle.nv_model.specs.Private.{acted}
use Rattle.nv_world_model.specs.Geometry.{shape_of}
use Rattle.nv_world_model.specs.Laws.{IsSeatOf, OnlyInSeat}
use Rattle.nv_world_model.specs.Seat.{seat}
use Rattle.nv_world_model.specs.Step.{After}
use Rattle.nv_world_model.proofs.Seats.{owner_of-is}
use Rattle.nv_world_model.proofs.SeatSteps.{act-plain, guest-step, only-acted, reply-acted, seat-acted}
use Rattle.nv_world_model.proofs.laws.seats.an_act_is_the_private_controllers.Goals as goal

pub returns-clause-reply : goal.returns-clause-reply
returns-clause-reply c = λ geometry number o a w e.
    let there = acted (shape_of o.given) a (seat geometry o w) in
    ap (λ (x : After). x.reply) (guest-step geometry number o a w e) ∙ reply-acted geometry w o there (act-plain geometry o a w)

pub returns-clause-state : goal.returns-clause-state
returns-clause-state c = λ geometry number o a w e sound.
    let there = acted (shape_of o.given) a (seat geometry o w) in
    subst (λ (x : After). IsSeatOf o.number o.given x.world there.state) (sym (guest-step geometry number o a w e))
    (seat-acted geometry w o (owner_of-is geometry w number o e) sound there (act-plain geometry o a w))

pub returns-clause-only : goal.returns-clause-only
returns-clause-only c = λ geometry number o a w e.
    let there = acted (shape_of o.given) a (seat geometry o w) in
    subst (λ (x : After). OnlyInSeat o w x.world) (sym (guest-step geometry number o a w e))
    (only-acted geometry w o there (act-plain geometry o a w))
