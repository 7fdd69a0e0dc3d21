use Rattle.std.proofs.Common.{◌≡◌, ℕ, List, length, slice_get, Some, ap, sym, subst, ◌∙◌, arith}
use Rattle.nv_plan.specs.Outline.{Portion}
use Rattle.nv_plan.specs.Runs.{runs}
use Rattle.nv_plan.specs.Told.{of_ranges, portions_of}
use Rattle.nv_plan.specs.declared.portions.CutRanges.{CutRanges}
use Rattle.nv_plan.proofs.KeptPortions.{bare-told, length-told, no-ranges, run-told}
use Rattle.nv_plan.proofs.portions.Portions.ranges.Goals as goal

pub run-requires-clause-part : goal.run-requires-clause-part
run-requires-clause-part c =
    let told = length-told of_ranges c.in-Ranged.cut.value.ranges.items c.in-Ranged.cut.value.ends c.args.self.now (sym (ap portions_of c.in-Ranged.is) ∙ c.self.view_is) in
    let same = ap (λ (cut : CutRanges). length cut.ends) c.deref-in-Ranged.ensures in
    let below = c.requires in omega arith

pub returns-in-Bare : goal.returns-in-Bare
returns-in-Bare c = λ portion is.
    ap (λ (p : Portion). p.ranges) (bare-told (_) c.args.self.now c.args.part portion (sym (ap portions_of c.in-Bare.is) ∙ c.self.view_is) is)

pub returns-in-Placed : goal.returns-in-Placed
returns-in-Placed c = λ portion is. no-ranges (_) c.args.self.now c.args.part portion (sym (ap portions_of c.in-Placed.is) ∙ c.self.view_is) is

pub returns-in-Ranged : goal.returns-in-Ranged
returns-in-Ranged c = λ portion is.
    ap (λ (p : Portion). p.ranges)
    (run-told of_ranges c.in-Ranged.cut.value.ranges.items c.run.result.now c.in-Ranged.cut.value.ends c.args.self.now c.args.part portion
    (sym (ap portions_of c.in-Ranged.is) ∙ c.self.view_is)
    (subst (λ (ranges : List (List ℕ)). slice_get (runs ranges 0 c.in-Ranged.cut.value.ends) c.args.part ≡ Some c.run.result.now)
    (c.deref-in-Ranged-3.ensures.value ∙ ap (λ (cut : CutRanges). cut.ranges.items) c.deref-in-Ranged-2.ensures)
    (subst (λ (ends : List ℕ). slice_get (runs c.deref-in-Ranged-3.result.now 0 ends) c.args.part ≡ Some c.run.result.now)
    (ap (λ (cut : CutRanges). cut.ends) c.deref-in-Ranged.ensures) c.run.ensures)) is)
