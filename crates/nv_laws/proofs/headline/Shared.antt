-- A command's progress where each of its tags has all units of its share left.
use Rattle.std.proofs.Common.{◌≡◌, ℕ, zero, suc, ◌^◌, ◌<◌, Bool, true, false, cond, ◌||◌, ◌==◌, List, [], ◌∷◌, All, filter, flat_map, length, map}
use Rattle.std.proofs.Common.{slice_get, Some, arith, refl, sym, ap, ◌∙◌, eqb-true, subst}
use Rattle.std.specs.List.{list_any}
use Rattle.std.proofs.lemmas.List.Elements.{All-head, All-tail}
use Rattle.std.proofs.lemmas.List.Folds.{list_any-append}
use Rattle.std.proofs.lemmas.List.Sums.{length-filter}
use Rattle.nv_mem.specs.GuestMap.{mapped}
use Rattle.nv_model.proofs.AnyAnswers.{end-sound}
use Rattle.nv_model.specs.Judge.{Clear, Form, Go, Keep, Manage, Transfer, Work, deallocates, form_of, range_units}
use Rattle.nv_model.specs.Private.{AtWork, numbers_of}
use Rattle.nv_ns.specs.Extents.{blocks_in}
use Rattle.nv_world_model.specs.Geometry.{Guest, regions_of, shape_of}
use Rattle.nv_world_model.specs.Plan.{Plan, plan_of}
use Rattle.nv_world_model.specs.Share.{Share, shares_of}
use Rattle.nv_world_model.proofs.AllShares.{shares_of-times}
use Rattle.nv_world_model.specs.ShareArea.{is_no_command, is_no_plan, is_no_work}
use Rattle.nv_world_model.specs.Seat.{Rest, rest, work_progress}
use Rattle.nv_laws_sound.specs.Consistent.{IsPlanned}
use Rattle.nv_laws_sound.proofs.Named.{row-all}
use Rattle.nv_laws_sound.proofs.Planned.{IsWhole}
use Rattle.nv_laws_sound.proofs.PlanSizes.{own_work, planned-kinds}
use Rattle.nv_laws.proofs.units.OwnShares.{AreUnitsOf, IsOwnShare, own-share}
use Rattle.nv_laws.proofs.units.Renamed.{part-of}
use Rattle.nv_laws.proofs.related.Keeping.{row-any}
use Rattle.nv_laws.proofs.related.Within.{planned-own}

-- ---- lists

some-length : (p : ℕ → Bool) (xs : List ℕ) → list_any p xs ≡ true → 0 < length (filter p xs)
some-length p [] e = cc
some-length p (x ∷ xs) e =
    (elim (p x) as (λ b. (b || list_any p xs) ≡ true → 0 < length (cond b (x ∷ filter p xs) (filter p xs))) [
      | true ↦ λ any. omega arith
      | false ↦ λ any. some-length p xs any
    ]) e

length-some : (p : ℕ → Bool) (xs : List ℕ) → 0 < length (filter p xs) → list_any p xs ≡ true
length-some p [] e = absurd (omega (arith, e))
length-some p (x ∷ xs) e =
    (elim (p x) as (λ b. 0 < length (cond b (x ∷ filter p xs) (filter p xs)) → (b || list_any p xs) ≡ true) [
      | true ↦ λ some. refl
      | false ↦ λ some. length-some p xs some
    ]) e

filter-whole : (test : ℕ → Bool) (xs : List ℕ) → All (λ x. test x ≡ true) xs → filter test xs ≡ xs
filter-whole test [] each = refl
filter-whole test (x ∷ xs) each =
    ap (λ b. cond b (x ∷ filter test xs) (filter test xs)) (All-head (λ x. test x ≡ true) x xs each)
    ∙ ap (λ ys. x ∷ ys) (filter-whole test xs (All-tail (λ x. test x ≡ true) x xs each))

-- two lists member by member
pub map-pairs : {X Y : Type 0} (f : ℕ → Y) (g : X → Y) (ns : List ℕ) (xs : List X) → length ns ≡ length xs
    → ((i b : ℕ) (x : X) → slice_get ns i ≡ Some b → slice_get xs i ≡ Some x → f b ≡ g x) → map f ns ≡ map g xs
map-pairs f g [] [] count each = refl
map-pairs f g [] (x ∷ xs) count each = absurd (omega (arith, count))
map-pairs f g (n ∷ ns) [] count each = absurd (omega (arith, count))
map-pairs f g (n ∷ ns) (x ∷ xs) count each =
    ap (λ y. y ∷ map f ns) (each zero n x refl refl)
    ∙ ap (λ ys. g x ∷ ys) (map-pairs f g ns xs (omega (arith, count)) (λ i b y at there. each (suc i) b y at there))

-- ---- shares with all their units left

abbrev pub whole_rest : Share → Rest
whole_rest share = rest share.numbers false

none-differed : (shares : List Share) → list_any (λ (r : Rest). r.differed) (map whole_rest shares) ≡ false
none-differed [] = refl
none-differed (share ∷ shares) = none-differed shares

left-in : (p : ℕ → Bool) (shares : List Share)
    → list_any p (flat_map (λ (s : Share). s.numbers) shares) ≡ list_any (λ (r : Rest). list_any p r.left) (map whole_rest shares)
left-in p [] = refl
left-in p (share ∷ shares) =
    list_any-append p share.numbers (flat_map (λ (s : Share). s.numbers) shares) ∙ ap (λ b. list_any p share.numbers || b) (left-in p shares)

module _ (guest : Guest) (entry : List ℕ) (plan : Plan) (is : IsWhole guest entry plan) where
  -- each unit is in some share
  each-left : (number : ℕ) → list_any (λ n. n == number) (numbers_of is.work) ≡ true
      → list_any (λ n. n == number) (flat_map (λ (s : Share). s.numbers) (shares_of guest.namespace entry plan)) ≡ true
  each-left number there =
      let test : ℕ → Bool = λ n. n == number in
      let all : List ℕ = flat_map (λ (s : Share). s.numbers) (shares_of guest.namespace entry (plan_of (regions_of guest) (Go is.work))) in
      let some = some-length test (numbers_of is.work) there in
      let here = length-filter test (numbers_of is.work) in
      let same = shares_of-times number (regions_of guest) (mapped (regions_of guest)) guest.namespace entry is.work
      (end-sound (mapped (regions_of guest)) guest.limit (shape_of guest).blocks entry is.work is.verdict) in
      let count : length (filter test all) ≡ length (filter test (numbers_of is.work)) = length-filter test all ∙ same ∙ sym here in
      subst (λ (x : Plan). list_any test (flat_map (λ (s : Share). s.numbers) (shares_of guest.namespace entry x)) ≡ true) (sym is.plan_is)
      (length-some test all (omega (arith, some, count)))

  pub whole-progress : (rests : List Rest) → rests ≡ map whole_rest (shares_of guest.namespace entry plan)
      → work_progress (Some is.work) rests ≡ AtWork is.work (numbers_of is.work) false
  whole-progress rests same =
      ap (work_progress (Some is.work)) same
      ∙ ap (λ b. AtWork is.work (filter (λ k. list_any (λ (r : Rest). list_any (λ other. other == k) r.left) rest_list) (numbers_of is.work)) b)
      (none-differed (shares_of guest.namespace entry plan))
      ∙ ap (λ ns. AtWork is.work ns false)
      (filter-whole (λ k. list_any (λ (r : Rest). list_any (λ other. other == k) r.left) rest_list) (numbers_of is.work)
      (row-all (λ k. list_any (λ (r : Rest). list_any (λ other. other == k) r.left) rest_list ≡ true) 0 (length is.work.units)
      (λ at low high. sym (left-in (λ n. n == at) (shares_of guest.namespace entry plan)) ∙ each-left at (row-any at 0 (length is.work.units) low high))))
    where
      rest_list : List Rest
      rest_list = map whole_rest (shares_of guest.namespace entry plan)

-- ---- a share that is no physical command

zero-ranges : (deallocate : Bool) (ranges : List (List ℕ)) → length ranges ≡ 0 → length (range_units deallocate ranges) ≡ 0
unfolding range_units
zero-ranges deallocate [] none = refl
zero-ranges deallocate (range ∷ ranges) none = absurd (omega (arith, none))

no-numbers : (ns : List ℕ) → length ns ≡ 0 → ns ≡ []
no-numbers [] none = refl
no-numbers (n ∷ ns) none = absurd (omega (arith, none))

pub record IsNoWork (own : Work) : Type 0 where
  pub form : form_of own.opcode ≡ Manage
  pub none : length own.ranges ≡ 0

no-form : (form : Form) (own : Work) → is_no_work form own ≡ true → (form ≡ Manage) × (length own.ranges ≡ 0)
no-form (Transfer dest) own e = cc
no-form Clear own e = cc
no-form Manage own e = (refl, eqb-true (length own.ranges) 0 e)
no-form Keep own e = cc

module _ (guest : Guest) (entry : List ℕ) (share : Share) (is : IsPlanned guest entry share) (none : is_no_command share ≡ true) where
  abbrev own : Work
  own = own_work guest entry share is

  pub over-form : IsNoWork own
  over-form =
      let same : is_no_plan share.plan ≡ is_no_work (form_of own.opcode) own =
      planned-kinds (λ p. is_no_plan p ≡ is_no_work (form_of own.opcode) own) guest entry share is refl (λ fits. refl) refl in
      let both = no-form (form_of own.opcode) own (sym same ∙ none) in
      record { form = both.0; none = both.1 }

  pub over-none : blocks_in guest.namespace < 2 ^ 32 → share.numbers ≡ []
  over-none few =
      let mine : IsOwnShare guest entry share own = own-share guest entry share is in
      let part = part-of guest entry share is own (planned-own guest entry share is) in
      let units : AreUnitsOf Manage guest.namespace entry mine.first own =
      subst (λ f. AreUnitsOf f guest.namespace entry mine.first own) over-form.form mine.units in
      let count = ap length (units few) ∙ zero-ranges (deallocates entry) own.ranges over-form.none in
      let size = part.size in
      no-numbers share.numbers (sym size ∙ count)
