use Rattle.std.proofs.Common.{IfSome, Option, Some, subst}
use Rattle.nv_model.specs.Private.{Run, run_of, start_with}
use Rattle.nv_model.specs.Laws.{IsInPlace, RunsAlike}
use Rattle.nv_model.proofs.InPlace.{IsInPlace-start, run_of-in_place}
use Rattle.nv_model.proofs.StepsAlike.{run_of-alike}
use Rattle.nv_model.proofs.laws.unseen.runs_do_the_same.Goals as goal

pub returns-clause-alike : goal.returns-clause-alike
returns-clause-alike c = run_of-alike

pub returns-clause-seen : goal.returns-clause-seen
returns-clause-seen c shape steps p q r s alike place one other =
    (subst (λ (o : Option Run). RunsAlike shape (Some r) o) other
    (subst (λ (o : Option Run). RunsAlike shape o (run_of shape steps q)) one (run_of-alike shape steps p q alike place))).0

pub returns-clause-from_start : goal.returns-clause-from_start
returns-clause-from_start c memory disk shape before steps r q is alike =
    run_of-alike shape steps r.state q alike
    (subst (λ (o : Option Run). IfSome o (λ b. IsInPlace shape b.state)) is (run_of-in_place shape before (start_with memory disk) (IsInPlace-start shape memory disk)))
