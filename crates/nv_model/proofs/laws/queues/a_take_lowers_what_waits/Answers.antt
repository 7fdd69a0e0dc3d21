use Rattle.std.proofs.Common.{true}
use Rattle.nv_model.specs.Laws.{IsCompletionInOrder, IsSubmissionInOrder}
use Rattle.nv_model.proofs.QueueCounts.{ahead-some, ahead-taken, front-waits, took-behind}
use Rattle.nv_model.proofs.QueueOrder.{IsKept-in_order}
use Rattle.nv_model.proofs.QueuesKept.{submission_queue-has}
use Rattle.nv_model.proofs.laws.queues.a_take_lowers_what_waits.Goals as goal

pub returns-clause-had_one : goal.returns-clause-had_one
returns-clause-had_one c was y addr q order is found =
    ahead-some q.size q.head q.tail (submission_queue-has (λ _. true) IsSubmissionInOrder IsCompletionInOrder (IsKept-in_order (λ _. true)) was y q order is)
    (front-waits was y addr q is found)

pub returns-clause-behind : goal.returns-clause-behind
returns-clause-behind c = took-behind

pub returns-clause-one_less : goal.returns-clause-one_less
returns-clause-one_less c was y addr q order is found =
    ahead-taken q.size q.head q.tail (submission_queue-has (λ _. true) IsSubmissionInOrder IsCompletionInOrder (IsKept-in_order (λ _. true)) was y q order is)
    (front-waits was y addr q is found)
