use Rattle.std.proofs.Common.{None, ap, arith, sym, ◌∙◌}
use Rattle.nv_model.specs.Controller.{Controller, completion_queue, is_ready}
use Rattle.nv_admin.proofs.Effects.{IsIoQueue-there, queue_of-set_other}
use Rattle.nv_admin.proofs.queues.delete_completion_queue.Goals as goal

pub delete_completion_queue-requires-clause-number : goal.delete_completion_queue-requires-clause-number
delete_completion_queue-requires-clause-number c =
    IsIoQueue-there c.args.vctl.now.completion_queues c.queue-queue.result c.is_ready-known.ensures.whole.together.completion_count
    (let some = c.if-queue-eq0.false in omega arith) (sym c.if-not-has_completion_queue.ensures)

pub returns-clause-keeps : goal.returns-clause-keeps
returns-clause-keeps c =
    let some = c.if-queue-eq0.false in
    record {
      ready = ap (λ (d : Controller). is_ready d) c.delete_completion_queue.ensures.state;
      admin_queue =
          ap (λ (d : Controller). completion_queue d 0) c.delete_completion_queue.ensures.state
          ∙ queue_of-set_other c.args.vctl.now.completion_queues c.queue-queue.result None (omega arith);
    }
