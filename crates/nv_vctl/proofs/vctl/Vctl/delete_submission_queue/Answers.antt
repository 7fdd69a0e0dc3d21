use Rattle.std.proofs.Common.{None, sym, ap, subst}
use Rattle.nv_model.specs.Controller.{Controller, with_submission}
use Rattle.nv_vctl.specs.Vctl.{IsWhole}
use Rattle.nv_vctl.proofs.Whole.{whole-deleted}
use Rattle.nv_vctl.proofs.vctl.Vctl.delete_submission_queue.Goals as goal

pub invariant_of-self : goal.invariant_of-self
invariant_of-self c =
    rw c.from.ensures
    (subst IsWhole (ap (λ (v : Controller). with_submission v c.args.queue None) (sym c.self.view_is))
    (whole-deleted c.args.self.now c.args.queue c.requires.ready c.requires.number c.requires.idle c.requires.no_deletion
    (subst IsWhole c.self.view_is c.self.invariant)))
