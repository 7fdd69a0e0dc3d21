use Rattle.std.proofs.Common.{Some, sym, ap, subst}
use Rattle.nv_model.specs.Controller.{Controller, with_completion}
use Rattle.nv_model.specs.Queue.{CompletionQueue, new_completion}
use Rattle.nv_vctl.specs.Vctl.{IsWhole}
use Rattle.nv_vctl.proofs.Whole.{ready-on, whole-completion}
use Rattle.nv_vctl.proofs.vctl.Vctl.create_completion_queue.Goals as goal

pub invariant_of-self : goal.invariant_of-self
invariant_of-self c =
    let made : CompletionQueue = new_completion c.args.base c.args.size c.args.vector in
    rw (c.from.ensures, c.new-made.ensures)
    (subst IsWhole (ap (λ (v : Controller). with_completion v c.args.queue (Some made)) (sym c.self.view_is))
    (whole-completion c.args.self.now c.args.queue made (ready-on c.args.self.now c.requires.ready)
    (subst IsWhole c.self.view_is c.self.invariant)))
