-- Portions as they are kept: what each of them has.
use Rattle.std.proofs.Common.{◌≡◌, ℕ, zero, suc, List, [], replicate, length, map, slice_get, Option, None, Some, ap, sym, ◌∙◌}
use Rattle.std.specs.Option.{option_map}
use Rattle.std.proofs.lemmas.List.{length-map}
use Rattle.std.proofs.lemmas.Option.{slice_get-map}
use Rattle.nv_mem.specs.declared.piece.Piece.{Piece}
use Rattle.nv_plan.specs.Outline.{Portion}
use Rattle.nv_plan.specs.Runs.{runs}
use Rattle.nv_plan.specs.Told.{of_places, of_ranges}
use Rattle.nv_plan.proofs.CutRuns.{length-runs}

some-same : (p q : Portion) → Some p ≡ Some q → p ≡ q
some-same p q e = cc

-- as many as ends
pub length-told : {X : Type 0} (told : List X → Portion) (items : List X) (ends : List ℕ) (portions : List Portion)
    → map told (runs items 0 ends) ≡ portions → length portions ≡ length ends
length-told told items ends portions are =
    sym (ap (λ (ps : List Portion). length ps) are) ∙ length-map (runs items 0 ends) told ∙ length-runs items 0 ends

-- one that has a run of a list
pub run-told : {X : Type 0} (told : List X → Portion) (items run : List X) (ends : List ℕ) (portions : List Portion) (k : ℕ) (portion : Portion)
    → map told (runs items 0 ends) ≡ portions → slice_get (runs items 0 ends) k ≡ Some run → slice_get portions k ≡ Some portion → told run ≡ portion
run-told told items run ends portions k portion are there is =
    some-same (told run) portion
    (sym (ap (λ (ps : List Portion). slice_get ps k) (sym are) ∙ slice_get-map told (runs items 0 ends) k ∙ ap (option_map told) there) ∙ is)

-- one of places has no ranges, and one of ranges no places
pub no-ranges : (runs : List (List Piece)) (portions : List Portion) (k : ℕ) (portion : Portion) → map of_places runs ≡ portions
    → slice_get portions k ≡ Some portion → [] ≡ portion.ranges
no-ranges runs portions k portion are is =
    by_run (slice_get runs k) (sym (ap (λ (ps : List Portion). slice_get ps k) (sym are) ∙ slice_get-map of_places runs k) ∙ is)
  where
    by_run : (o : Option (List Piece)) → option_map of_places o ≡ Some portion → [] ≡ portion.ranges
    by_run None e = absurd (cc)
    by_run (Some run) e = ap (λ (p : Portion). p.ranges) (some-same (of_places run) portion e)

pub no-places : (runs : List (List (List ℕ))) (portions : List Portion) (k : ℕ) (portion : Portion) → map of_ranges runs ≡ portions
    → slice_get portions k ≡ Some portion → [] ≡ portion.places
no-places runs portions k portion are is =
    by_run (slice_get runs k) (sym (ap (λ (ps : List Portion). slice_get ps k) (sym are) ∙ slice_get-map of_ranges runs k) ∙ is)
  where
    by_run : (o : Option (List (List ℕ))) → option_map of_ranges o ≡ Some portion → [] ≡ portion.places
    by_run None e = absurd (cc)
    by_run (Some run) e = ap (λ (p : Portion). p.places) (some-same (of_ranges run) portion e)

-- a bare one has neither
pub bare-told : (count : ℕ) (portions : List Portion) (k : ℕ) (portion : Portion) → replicate count (of_places []) ≡ portions
    → slice_get portions k ≡ Some portion → of_places [] ≡ portion
bare-told count portions k portion are is = each count k (ap (λ (ps : List Portion). slice_get ps k) are ∙ is)
  where
    each : (n k : ℕ) → slice_get (replicate n (of_places [])) k ≡ Some portion → of_places [] ≡ portion
    each zero k e = absurd (cc)
    each (suc n) zero e = some-same (of_places []) portion e
    each (suc n) (suc k) e = each n k e
