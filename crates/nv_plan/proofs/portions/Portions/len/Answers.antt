use Rattle.std.proofs.Common.{ap, length, sym, ◌∙◌}
use Rattle.nv_plan.specs.Told.{of_places, of_ranges, portions_of}
use Rattle.nv_plan.specs.declared.portions.CutPlaces.{CutPlaces}
use Rattle.nv_plan.specs.declared.portions.CutRanges.{CutRanges}
use Rattle.nv_plan.proofs.KeptPortions.{length-told}
use Rattle.nv_plan.proofs.portions.Portions.len.Goals as goal

pub returns-in-Placed : goal.returns-in-Placed
returns-in-Placed c =
    c.len.ensures ∙ ap (λ (cut : CutPlaces). length cut.ends) c.deref.ensures
    ∙ sym (length-told of_places (_) c.in-Placed.cut.value.ends c.args.self.now (sym (ap portions_of c.in-Placed.is) ∙ c.self.view_is))

pub returns-in-Ranged : goal.returns-in-Ranged
returns-in-Ranged c =
    c.len-in-Ranged.ensures ∙ ap (λ (cut : CutRanges). length cut.ends) c.deref-in-Ranged.ensures
    ∙ sym (length-told of_ranges (_) c.in-Ranged.cut.value.ends c.args.self.now (sym (ap portions_of c.in-Ranged.is) ∙ c.self.view_is))
