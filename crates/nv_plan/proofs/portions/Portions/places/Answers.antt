use Rattle.std.proofs.Common.{◌≡◌, ℕ, List, length, slice_get, Some, ap, sym, subst, ◌∙◌, arith}
use Rattle.nv_mem.specs.declared.piece.Piece.{Piece}
use Rattle.nv_plan.specs.Outline.{Portion}
use Rattle.nv_plan.specs.Runs.{runs}
use Rattle.nv_plan.specs.Told.{of_places, portions_of}
use Rattle.nv_plan.specs.declared.portions.CutPlaces.{CutPlaces}
use Rattle.nv_plan.proofs.KeptPortions.{bare-told, length-told, no-places, run-told}
use Rattle.nv_plan.proofs.portions.Portions.places.Goals as goal

pub run-requires-clause-part : goal.run-requires-clause-part
run-requires-clause-part c =
    let told = length-told of_places c.in-Placed.cut.value.places c.in-Placed.cut.value.ends c.args.self.now (sym (ap portions_of c.in-Placed.is) ∙ c.self.view_is) in
    let same = ap (λ (cut : CutPlaces). length cut.ends) c.deref.ensures in
    let below = c.requires in omega arith

pub returns-in-Bare : goal.returns-in-Bare
returns-in-Bare c = λ portion is.
    ap (λ (p : Portion). p.places) (bare-told (_) c.args.self.now c.args.part portion (sym (ap portions_of c.in-Bare.is) ∙ c.self.view_is) is)

pub returns-in-Placed : goal.returns-in-Placed
returns-in-Placed c = λ portion is.
    ap (λ (p : Portion). p.places)
    (run-told of_places c.in-Placed.cut.value.places c.run.result.now c.in-Placed.cut.value.ends c.args.self.now c.args.part portion
    (sym (ap portions_of c.in-Placed.is) ∙ c.self.view_is)
    (subst (λ (pieces : List Piece). slice_get (runs pieces 0 c.in-Placed.cut.value.ends) c.args.part ≡ Some c.run.result.now)
    (c.pieces-in-Placed.ensures ∙ ap (λ (cut : CutPlaces). cut.places) c.deref-in-Placed.ensures)
    (subst (λ (ends : List ℕ). slice_get (runs c.pieces-in-Placed.result.now 0 ends) c.args.part ≡ Some c.run.result.now)
    (ap (λ (cut : CutPlaces). cut.ends) c.deref.ensures) c.run.ensures)) is)

pub returns-in-Ranged : goal.returns-in-Ranged
returns-in-Ranged c = λ portion is. no-places (_) c.args.self.now c.args.part portion (sym (ap portions_of c.in-Ranged.is) ∙ c.self.view_is) is
