use Rattle.std.proofs.Common.{IfSome, Option, subst}
use Rattle.nv_model.specs.Private.{After, Run, start_with}
use Rattle.nv_model.specs.Running.{IsRunning}
use Rattle.nv_model.proofs.Running.{run_of-running, start-running, step-running}
use Rattle.nv_model.proofs.laws.running.runs_stay_consistent.Goals as goal

pub returns-clause-start : goal.returns-clause-start
returns-clause-start c = start-running

pub returns-clause-step : goal.returns-clause-step
returns-clause-step c shape s p a was is =
    subst (λ (o : Option After). IfSome o (λ b. IsRunning b.state)) is (step-running shape s p was)

pub returns-clause-run : goal.returns-clause-run
returns-clause-run c shape steps p r was is =
    subst (λ (o : Option Run). IfSome o (λ e. IsRunning e.state)) is (run_of-running shape steps p was)

pub returns-clause-from_start : goal.returns-clause-from_start
returns-clause-from_start c memory disk shape steps r is = returns-clause-run c shape steps (start_with memory disk) r (start-running memory disk) is
