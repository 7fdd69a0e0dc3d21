use Rattle.std.proofs.Common.{◌<◌, IfSome, IsSome, Option, subst}
use Rattle.nv_model.specs.Controller.{Deletion, submission_queue}
use Rattle.nv_model.proofs.Running.{along-running}
use Rattle.nv_model.proofs.RunningFacts.{completion-there, none-there, submission-there}
use Rattle.nv_model.proofs.laws.running.queues_of_taken_commands_are_there.Goals as goal

pub returns-clause-submission : goal.returns-clause-submission
returns-clause-submission c memory disk shape steps r is name t on there =
    submission-there r.state.controller r.state.bag name t (along-running memory disk shape steps r is) on there

pub returns-clause-completion : goal.returns-clause-completion
returns-clause-completion c memory disk shape steps r is y q there =
    completion-there r.state.controller r.state.bag y q (along-running memory disk shape steps r is) there

pub returns-clause-while_disabled : goal.returns-clause-while_disabled
returns-clause-while_disabled c memory disk shape steps r is y out =
    none-there r.state.controller r.state.bag y (along-running memory disk shape steps r is) out

pub returns-clause-deletion : goal.returns-clause-deletion
returns-clause-deletion c memory disk shape steps r is d waits =
    subst (λ (o : Option Deletion). IfSome o (λ w. (0 < w.queue) × IsSome (submission_queue r.state.controller w.queue))) waits (along-running memory disk shape steps r is).together.deletion_there
