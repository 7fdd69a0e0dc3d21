use Rattle.std.proofs.Common.{None, sym, ap, subst}
use Rattle.nv_model.specs.Controller.{Controller, with_completion}
use Rattle.nv_vctl.specs.Vctl.{IsWhole}
use Rattle.nv_vctl.proofs.Whole.{whole-completion_deleted}
use Rattle.nv_vctl.proofs.vctl.Vctl.delete_completion_queue.Goals as goal

pub invariant_of-self : goal.invariant_of-self
invariant_of-self c =
    rw c.from.ensures
    (subst IsWhole (ap (λ (v : Controller). with_completion v c.args.queue None) (sym c.self.view_is))
    (whole-completion_deleted c.args.self.now c.args.queue c.requires.ready c.requires.number c.requires.unused
    (subst IsWhole c.self.view_is c.self.invariant)))
