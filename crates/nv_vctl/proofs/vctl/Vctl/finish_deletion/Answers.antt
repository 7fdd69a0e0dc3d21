use Rattle.std.proofs.Common.{◌≡◌, Option, Some, sym, ap, ◌∙◌, subst}
use Rattle.nv_model.specs.Controller.{Controller, Deletion}
use Rattle.nv_vctl.specs.Vctl.{IsWhole, MayFinish, finished_from}
use Rattle.nv_vctl.proofs.Whole.{whole-finished}
use Rattle.nv_vctl.proofs.vctl.Vctl.finish_deletion.Goals as goal

pub invariant_of-self : goal.invariant_of-self
invariant_of-self c =
    let is : c.args.self.now.deletion ≡ Some c.in-Some.waiting = ap (λ (v : Controller). v.deletion) (sym c.self.view_is) ∙ c.in-Some.is in
    rw (c.from.ensures, c.queue.ensures)
    (subst IsWhole (ap (λ (v : Controller). finished_from (Some c.in-Some.waiting) v) (sym c.self.view_is))
    (whole-finished c.args.self.now c.in-Some.waiting c.requires.ready is
    (subst (λ (o : Option Deletion). MayFinish o c.args.self.now.taken) is c.requires.may) (subst IsWhole c.self.view_is c.self.invariant)))
