use Rattle.std.proofs.Common.{Some, sym, ap, subst}
use Rattle.nv_model.specs.Controller.{Controller, with_submission}
use Rattle.nv_model.specs.Queue.{SubmissionQueue, new_submission}
use Rattle.nv_vctl.specs.Vctl.{IsWhole}
use Rattle.nv_vctl.proofs.Whole.{whole-made}
use Rattle.nv_vctl.proofs.vctl.Vctl.create_submission_queue.Goals as goal

pub invariant_of-self : goal.invariant_of-self
invariant_of-self c =
    let made : SubmissionQueue = new_submission c.args.base c.args.size c.args.completes_to in
    rw (c.from.ensures, c.new-made.ensures)
    (subst IsWhole (ap (λ (v : Controller). with_submission v c.args.queue (Some made)) (sym c.self.view_is))
    (whole-made c.args.self.now c.args.queue made c.requires.ready c.requires.number c.requires.completion
    (subst IsWhole c.self.view_is c.self.invariant)))
