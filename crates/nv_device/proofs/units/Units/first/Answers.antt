use Rattle.std.proofs.Common.{◌==◌, ◌∙◌, ap, subst, sym, false, Some, None, get_or}
use Rattle.std.specs.List.{list_any}
use Rattle.nv_device.specs.Units.{IsLowest, numbers_marked}
use Rattle.nv_device.proofs.UnitMarks.{lowest-marked}
use Rattle.nv_device.proofs.units.Units.first.Goals as goal

pub returns-in_err-number : goal.returns-in_err-number
returns-in_err-number c =
    let is = ap (numbers_marked 0) c.deref.ensures.value ∙ c.self.view_is in
    subst (IsLowest (λ number. list_any (λ k. k == number) c.args.self.now)) (sym c.from_residual.ensures)
    (lowest-marked c.deref.result.now c.args.self.now None is
    (subst (IsLowest (λ n. get_or c.deref.result.now n false)) c.in_err-number.was c.first_mark.ensures))

pub returns : goal.returns
returns c =
    let is = ap (numbers_marked 0) c.deref.ensures.value ∙ c.self.view_is in
    lowest-marked c.deref.result.now c.args.self.now (Some _) is
    (subst (IsLowest (λ n. get_or c.deref.result.now n false)) c.in_ok-number.was c.first_mark.ensures)
