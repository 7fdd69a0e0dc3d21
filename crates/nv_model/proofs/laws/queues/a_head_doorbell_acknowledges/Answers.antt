use Rattle.std.proofs.Common.{true}
use Rattle.nv_model.specs.Laws.{IsCompletionInOrder, IsSubmissionInOrder}
use Rattle.nv_model.proofs.QueueCounts.{head_rung-acknowledges}
use Rattle.nv_model.proofs.QueueOrder.{IsKept-in_order}
use Rattle.nv_model.proofs.QueuesKept.{completion_queue-has}
use Rattle.nv_model.proofs.laws.queues.a_head_doorbell_acknowledges.Goals as goal

pub returns : goal.returns
returns c was after y head q order is rung =
    let there = completion_queue-has (λ _. true) IsSubmissionInOrder IsCompletionInOrder (IsKept-in_order (λ _. true)) was y q order is in
    let done = head_rung-acknowledges was after y head q there is rung in
    (done.now, (done.behind, (done.tail, done.less)))
