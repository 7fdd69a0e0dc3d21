use Rattle.std.proofs.Common.{arith, sym}
use Rattle.nv_admin.proofs.Effects.{IsIoQueue-there}
use Rattle.nv_admin.proofs.queues.delete_submission_queue.Goals as goal

pub delete_submission_queue-requires-clause-number : goal.delete_submission_queue-requires-clause-number
delete_submission_queue-requires-clause-number c =
    IsIoQueue-there c.args.vctl.now.submission c.queue-queue.result c.is_ready-known.ensures.whole.together.submission_count
    (let some = c.if-queue-eq0.false in omega arith) (sym c.if-not-has_submission_queue.ensures)

pub close_submission_queue-requires-clause-number : goal.close_submission_queue-requires-clause-number
close_submission_queue-requires-clause-number c =
    IsIoQueue-there c.args.vctl.now.submission c.queue-queue.result c.is_ready-known.ensures.whole.together.submission_count
    (let some = c.if-queue-eq0.false in omega arith) (sym c.if-not-has_submission_queue.ensures)
