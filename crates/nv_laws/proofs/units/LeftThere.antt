-- The numbers that a unit of a share stands for are among those that are left.
use Rattle.std.proofs.Common.{◌≡◌, ℕ, Bool, true, false, ◌||◌, ◌==◌, cond, List, [], ◌∷◌, ◌++◌, All, filter, length, slice_get}
use Rattle.std.proofs.Common.{Option, Some, None, arith, refl, sym, ap, ◌∙◌, eqb-true, subst}
use Rattle.std.specs.List.{cons_option, filter_map, list_any}
use Rattle.std.proofs.lemmas.List.Elements.{All-cons, All-head, All-nil, All-tail}
use Rattle.nv_model.specs.Judge.{Work, form_of}
use Rattle.nv_model.specs.Private.{numbers_of}
use Rattle.nv_world_model.specs.Geometry.{Guest}
use Rattle.nv_world_model.specs.Share.{Share}
use Rattle.nv_world_model.specs.Seat.{Rest, form_numbers, numbers_behind, numbers_by, rest, units_behind, work_of}
use Rattle.nv_laws_sound.specs.Consistent.{IsPlanned}
use Rattle.nv_laws_sound.proofs.Lists.{slice_get-below}
use Rattle.nv_laws_sound.proofs.PlanSizes.{own_work}
use Rattle.nv_laws.proofs.units.AllPlaces.{has-row}
use Rattle.nv_laws.proofs.units.OwnShares.{own-share}
use Rattle.nv_laws.proofs.units.Progress.{has, has-behind, has-numbers, in_rests, in_rests-append}
use Rattle.nv_laws.proofs.units.Renamed.{part-of}
use Rattle.nv_laws.proofs.units.Runs.{one-among}

-- what the numbers at some places have
behind-each : (P Q : ℕ → Type 0) (numbers ds : List ℕ) → All Q ds → ((i n : ℕ) → Q i → slice_get numbers i ≡ Some n → P n)
    → All P (filter_map (slice_get numbers) ds)
behind-each P Q numbers [] each give = All-nil P
behind-each P Q numbers (d ∷ ds) each give =
    by_found (slice_get numbers d) refl (All-head Q d ds each) (behind-each P Q numbers ds (All-tail Q d ds each) give)
  where
    by_found : (o : Option ℕ) → slice_get numbers d ≡ o → Q d → All P (filter_map (slice_get numbers) ds) → All P (cons_option o (filter_map (slice_get numbers) ds))
    by_found None is here rest = rest
    by_found (Some n) is here rest = All-cons P n (filter_map (slice_get numbers) ds) (give d n here is) rest

-- a number that passes stays
has-filter : (p : ℕ → Bool) (k : ℕ) (xs : List ℕ) → p k ≡ true → has k xs ≡ true → has k (filter p xs) ≡ true
has-filter p k [] passes is = cc
has-filter p k (x ∷ xs) passes is =
    by_same (x == k) refl (has-filter p k xs passes) is
  where
    drop_or : (b : Bool) (ys : List ℕ) → (has k xs ≡ true → has k ys ≡ true) → has k xs ≡ true → has k (cond b (x ∷ ys) ys) ≡ true
    drop_or true ys more any =
        (let rest = more any in elim (x == k) as (λ b. (b || has k ys) ≡ true) [ true ↦ refl | false ↦ rest ])
    drop_or false ys more any = more any

    by_same : (b : Bool) → (x == k) ≡ b → (has k xs ≡ true → has k (filter p xs) ≡ true) → (b || has k xs) ≡ true
        → has k (cond (p x) (x ∷ filter p xs) (filter p xs)) ≡ true
    by_same true same more any =
        (let passed : p x ≡ true = ap p (eqb-true x k same) ∙ passes in
        ap (λ b. has k (cond b (x ∷ filter p xs) (filter p xs))) passed ∙ ap (λ b. b || has k (filter p xs)) same)
    by_same false same more any = drop_or (p x) (filter p xs) more any

-- what is behind a share's units is of the share
pub behind-among : (share : Share) (left : List ℕ) (k : ℕ) → has k (numbers_behind share left) ≡ true → has k share.numbers ≡ true
unfolding units_behind
behind-among share left k is = by_work (work_of share.plan) is
  where
    by_work : (o : Option Work) → has k (numbers_by o share.numbers left) ≡ true → has k share.numbers ≡ true
    by_work None any = cc
    by_work (Some own) any = has-numbers share.numbers k (units_behind own left) any

-- where a unit of a share is left, those that it stands for are among those of the whole that some share has left
pub numbers-there : (guest : Guest) (entry : List ℕ) (share : Share) (is : IsPlanned guest entry share) (unit : ℕ) (left : List ℕ) (front back : List Rest) (differed : Bool)
    → list_any (λ k. k == unit) left ≡ true
    → All (λ k. has k (filter (λ n. in_rests n (front ++ rest (numbers_behind share left) differed ∷ back)) (numbers_of is.work)) ≡ true)
    (numbers_behind share (unit ∷ []))
unfolding units_behind
numbers-there guest entry share is unit left front back differed there =
    let part = own-share guest entry share is in
    let own : Work = own_work guest entry share is in
    let whole = part-of guest entry share is own part.goes in
    let by = λ (ls : List ℕ). ap (λ o. numbers_by o share.numbers ls) part.goes in
    let P = λ (k : ℕ). has k (filter (λ n. in_rests n (front ++ rest (numbers_behind share left) differed ∷ back)) (numbers_of is.work)) ≡ true in
    subst (All P) (sym (by (unit ∷ [])))
    (behind-each P (λ i. has i (units_behind own left) ≡ true) share.numbers (units_behind own (unit ∷ []))
    (one-among left unit 0 (form_numbers (form_of own.opcode) own) there)
    (λ i k among at.
    (let each = whole.each i k at in
    let below = slice_get-below is.work.units k each.0 each.1.1.0 in
    let own_has : has k (numbers_behind share left) ≡ true = ap (has k) (by left) ∙ has-behind share.numbers part.grow i k at (units_behind own left) ∙ among in
    has-filter (λ n. in_rests n (front ++ rest (numbers_behind share left) differed ∷ back)) k (numbers_of is.work)
    (in_rests-append k front (rest (numbers_behind share left) differed ∷ back) ∙ ap (λ b. in_rests k front || (b || in_rests k back)) own_has ∙ either (in_rests k front))
    (has-row k (length is.work.units) 0 (omega arith) (omega (arith, below))))))
  where
    either : (b : Bool) → (b || true) ≡ true
    either true = refl
    either false = refl
