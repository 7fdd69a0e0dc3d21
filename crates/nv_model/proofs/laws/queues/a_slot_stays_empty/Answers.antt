use Rattle.std.proofs.Common.{true}
use Rattle.nv_model.specs.Laws.{IsCompletionInOrder, IsSubmissionInOrder}
use Rattle.nv_model.proofs.QueueCounts.{ahead-full, full-ahead}
use Rattle.nv_model.proofs.QueueOrder.{IsKept-in_order, ahead-below}
use Rattle.nv_model.proofs.QueuesKept.{completion_queue-has, submission_queue-has}
use Rattle.nv_model.proofs.laws.queues.a_slot_stays_empty.Goals as goal

pub returns-clause-submission : goal.returns-clause-submission
returns-clause-submission c was y q order found =
    ahead-below q.size q.head q.tail (submission_queue-has (λ _. true) IsSubmissionInOrder IsCompletionInOrder (IsKept-in_order (λ _. true)) was y q order found)

pub returns-clause-completion : goal.returns-clause-completion
returns-clause-completion c was y q order found =
    ahead-below q.size q.head q.tail (completion_queue-has (λ _. true) IsSubmissionInOrder IsCompletionInOrder (IsKept-in_order (λ _. true)) was y q order found)

pub returns-clause-full : goal.returns-clause-full
returns-clause-full c was y q order found =
    let there = completion_queue-has (λ _. true) IsSubmissionInOrder IsCompletionInOrder (IsKept-in_order (λ _. true)) was y q order found in
    (full-ahead q.size q.head q.tail there, ahead-full q.size q.head q.tail there)
