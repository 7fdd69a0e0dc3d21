use Rattle.std.proofs.Common.{IfSome, Option, subst, true}
use Rattle.nv_model.specs.Private.{Run, start_with}
use Rattle.nv_model.specs.Laws.{IsCompletionInOrder, IsSubmissionInOrder, QueuesInOrder}
use Rattle.nv_model.proofs.QueueOrder.{IsKept-in_order}
use Rattle.nv_model.proofs.QueuesKept.{QueuesHave-opening}
use Rattle.nv_model.proofs.StepsKept.{run_of-kept}
use Rattle.nv_model.proofs.laws.queues.runs_keep_queues_in_order.Goals as goal

pub returns-clause-start : goal.returns-clause-start
returns-clause-start c memory disk =
    QueuesHave-opening (λ _. true) IsSubmissionInOrder IsCompletionInOrder (IsKept-in_order (λ _. true))

pub returns-clause-run : goal.returns-clause-run
returns-clause-run c shape steps p r order is =
    subst (λ (o : Option Run). IfSome o (λ e. QueuesInOrder e.state.controller)) is
    (run_of-kept shape IsSubmissionInOrder IsCompletionInOrder (IsKept-in_order shape.mapped) steps p order)

pub returns-clause-from_start : goal.returns-clause-from_start
returns-clause-from_start c memory disk shape steps r is = returns-clause-run c shape steps (start_with memory disk) r (returns-clause-start c memory disk) is
