use Rattle.nv_world_model.proofs.SeatTags.{take-is, take-leads}
use Rattle.nv_world_model.proofs.laws.seats.a_take_is_the_private_controllers.Goals as goal

pub returns-clause-done : goal.returns-clause-done
returns-clause-done c = take-leads

pub returns-clause-only : goal.returns-clause-only
returns-clause-only c =
    (λ geometry number queue lane o l w owns there is_done. (let taken = (take-is geometry number queue lane o l w owns there is_done).1 in
    (taken.addr, taken.tags, taken.front, taken.lowest, taken.world)))
