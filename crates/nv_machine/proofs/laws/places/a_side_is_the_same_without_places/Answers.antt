use Rattle.nv_machine.proofs.PlaceSides.{places-back, side-unplaced}
use Rattle.nv_machine.proofs.laws.places.a_side_is_the_same_without_places.Goals as goal
use Rattle.std.proofs.Common.{sym}

pub returns-clause-unplaced : goal.returns-clause-unplaced
returns-clause-unplaced c = λ s. side-unplaced s

pub returns-clause-back : goal.returns-clause-back
returns-clause-back c = λ s z same. places-back s z same

pub returns-clause-sides : goal.returns-clause-sides
returns-clause-sides c = λ w v same. record { lanes = sym same.lanes; tails = sym same.tails; controllers = sym same.controllers }

pub returns-clause-worlds : goal.returns-clause-worlds
returns-clause-worlds c = λ w v same. record { lanes = sym same.lanes; controllers = sym same.controllers; tails = sym same.tails }
