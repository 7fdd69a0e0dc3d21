use Rattle.std.proofs.Common.{arith, true}
use Rattle.nv_model.specs.Queue.{next_slot}
use Rattle.nv_model.specs.Laws.{IsCompletionInOrder, IsSubmissionInOrder}
use Rattle.nv_model.proofs.QueueOrder.{IsInOrder-tail, IsKept-in_order, ahead-below, ahead-next}
use Rattle.nv_model.proofs.QueuesKept.{completion_queue-has, post-posts}
use Rattle.nv_model.proofs.laws.queues.a_post_raises_what_is_unacknowledged.Goals as goal

pub returns-clause-had_room : goal.returns-clause-had_room
returns-clause-had_room c was y dw0 cid st q cq r from to posts =
    (post-posts was y dw0 cid st q cq r from to posts).had_room

pub returns-clause-behind : goal.returns-clause-behind
returns-clause-behind c was y dw0 cid st q cq r from to posts =
    (post-posts was y dw0 cid st q cq r from to posts).behind

pub returns-clause-one_more : goal.returns-clause-one_more
returns-clause-one_more c was y dw0 cid st q cq r order from to posts =
    ahead-next cq.size cq.head cq.tail
    (completion_queue-has (λ _. true) IsSubmissionInOrder IsCompletionInOrder (IsKept-in_order (λ _. true)) was q.completes_to cq order to)
    (post-posts was y dw0 cid st q cq r from to posts).had_room

pub returns-clause-still_room : goal.returns-clause-still_room
returns-clause-still_room c was y dw0 cid st q cq r order from to posts =
    let there = completion_queue-has (λ _. true) IsSubmissionInOrder IsCompletionInOrder (IsKept-in_order (λ _. true)) was q.completes_to cq order to in
    let more = ahead-next cq.size cq.head cq.tail there (post-posts was y dw0 cid st q cq r from to posts).had_room in
    let most = ahead-below cq.size cq.head (next_slot cq.size cq.tail) (IsInOrder-tail cq.size cq.head cq.tail there) in
    let some = there.at_least in
    omega arith
