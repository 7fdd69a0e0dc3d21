use Rattle.std.proofs.Common.{IfSome, Option, subst}
use Rattle.nv_model.specs.Private.{After, Run}
use Rattle.nv_model.specs.Laws.{IsInPlace}
use Rattle.nv_model.proofs.InPlace.{IsInPlace-start, run_of-in_place, step-in_place}
use Rattle.nv_model.proofs.laws.unseen.states_stay_in_place.Goals as goal

pub returns-clause-start : goal.returns-clause-start
returns-clause-start c shape memory disk = IsInPlace-start shape memory disk

pub returns-clause-step : goal.returns-clause-step
returns-clause-step c shape s p a place is =
    subst (λ (o : Option After). IfSome o (λ b. IsInPlace shape b.state)) is (step-in_place shape s p place)

pub returns-clause-run : goal.returns-clause-run
returns-clause-run c shape steps p r place is =
    subst (λ (o : Option Run). IfSome o (λ b. IsInPlace shape b.state)) is (run_of-in_place shape steps p place)
