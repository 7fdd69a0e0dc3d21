-- What is left of a command's units behind one of a share, and what others' comparisons change.
use Rattle.std.proofs.Common.{◌≡◌, ℕ, zero, suc, ◌+◌, ◌<◌, ◌≤◌, ◌⊎◌, inl, inr, Bool, true, false, not, ◌||◌, ◌&&◌}
use Rattle.std.proofs.Common.{◌==◌, eqb, cond, List, [], ◌∷◌, ◌++◌}
use Rattle.std.proofs.Common.{filter, length, slice_get, Option, Some, None, arith, refl, sym, ap, ◌∙◌, eq-eqb, eqb-true}
use Rattle.std.specs.List.{cons_option, filter_map, list_any, range_with_len}
use Rattle.std.proofs.lemmas.Bool.{cases_eq, cases_lt, ne_eqb}
use Rattle.std.proofs.lemmas.List.Sums.{sum_by-append, sum_by-cons}
use Rattle.nv_mem.specs.GuestMap.{mapped}
use Rattle.nv_model.specs.Carried.{moved_on, units_moved}
use Rattle.nv_model.specs.Judge.{Work, WorkUnit, form_of}
use Rattle.nv_model.specs.Private.{Moved, numbers_of, others, unit_moved}
use Rattle.nv_model.proofs.AnyAnswers.{end-sound}
use Rattle.nv_world_model.specs.Geometry.{Guest, regions_of, shape_of}
use Rattle.nv_world_model.specs.Share.{Share, shares_of}
use Rattle.nv_world_model.proofs.AllShares.{all_numbers, shares_of-times}
use Rattle.nv_world_model.proofs.ShareNumbers.{times}
use Rattle.nv_world_model.specs.Seat.{Rest, form_numbers, numbers_behind, numbers_by, rest, units_behind}
use Rattle.nv_laws_sound.specs.Consistent.{IsPlanned}
use Rattle.nv_laws.specs.Units.{left_without}
use Rattle.nv_laws.proofs.units.Growing.{later-more, without-left}
use Rattle.nv_laws.proofs.units.OwnShares.{own-share}
use Rattle.nv_laws.proofs.units.Runs.{Grow, places-without}
use Rattle.nv_laws_sound.proofs.PlanSizes.{own_work}

abbrev pub has : (k : ℕ) → List ℕ → Bool
has k numbers = list_any (λ n. n == k) numbers

-- ---- no number is of two shares

pub has-times : (k : ℕ) (xs : List ℕ) → has k xs ≡ true → 1 ≤ times k xs
has-times k [] is = cc
has-times k (x ∷ xs) is =
    let sum = sum_by-cons (λ n. cond (eqb n k) 1 0) x xs in
    (elim (eqb x k) as (λ b. cond b 1 0 + times k xs ≡ times k (x ∷ xs) → (b || has k xs) ≡ true → 1 ≤ times k (x ∷ xs)) [
      | true ↦ λ both any. omega (arith, both)
      | false ↦ λ both any. (let rest = has-times k xs any in omega (arith, both, rest))
    ]) (sym sum) is

one-times : (k i : ℕ) (shares : List Share) (a : Share) → slice_get shares i ≡ Some a → times k a.numbers ≤ times k (all_numbers shares)
one-times k i [] a at = cc
one-times k zero (share ∷ shares) a at =
    let same : share ≡ a = cc in
    let both = sum_by-append (λ n. cond (eqb n k) 1 0) share.numbers (all_numbers shares) in
    let here : times k share.numbers ≡ times k a.numbers = ap (λ (s : Share). times k s.numbers) same in
    omega (arith, both, here)
one-times k (suc i) (share ∷ shares) a at =
    let both = sum_by-append (λ n. cond (eqb n k) 1 0) share.numbers (all_numbers shares) in
    let rest = one-times k i shares a at in omega (arith, both, rest)

two-times : (k i j : ℕ) (shares : List Share) (a b : Share) → i < j → slice_get shares i ≡ Some a → slice_get shares j ≡ Some b
    → times k a.numbers + times k b.numbers ≤ times k (all_numbers shares)
two-times k i j [] a b order first second = cc
two-times k zero zero (share ∷ shares) a b order first second = absurd (omega (arith, order))
two-times k zero (suc j) (share ∷ shares) a b order first second =
    let same : share ≡ a = cc in
    let both = sum_by-append (λ n. cond (eqb n k) 1 0) share.numbers (all_numbers shares) in
    let here : times k share.numbers ≡ times k a.numbers = ap (λ (s : Share). times k s.numbers) same in
    let rest = one-times k j shares b second in omega (arith, both, here, rest)
two-times k (suc i) zero (share ∷ shares) a b order first second = absurd (omega (arith, order))
two-times k (suc i) (suc j) (share ∷ shares) a b order first second =
    let both = sum_by-append (λ n. cond (eqb n k) 1 0) share.numbers (all_numbers shares) in
    let rest = two-times k i j shares a b (omega (arith, order)) first second in omega (arith, both, rest)

row-none : (k n from : ℕ) → k < from → times k (range_with_len from n) ≡ 0
row-none k zero from past = refl
row-none k (suc n) from past =
    let sum = sum_by-cons (λ m. cond (eqb m k) 1 0) from (range_with_len (from + 1) n) in
    let rest = row-none k n (from + 1) (omega (arith, past)) in
    let other : ◌≡◌ {A = ℕ} (cond (eqb from k) 1 0) 0 = ap {B = ℕ} (λ b. cond b 1 0) (ne_eqb from k (λ same. absurd (omega (arith, same, past)))) in
    omega (arith, sum, rest, other)

row-once : (k n from : ℕ) → times k (range_with_len from n) ≤ 1
row-once k zero from = omega arith
row-once k (suc n) from =
    let sum = sum_by-cons (λ m. cond (eqb m k) 1 0) from (range_with_len (from + 1) n) in
    elim (cases_eq from k) [
      | inl same ↦
          (let rest = row-none k n (from + 1) (omega (arith, same)) in
          let one : ◌≡◌ {A = ℕ} (cond (eqb from k) 1 0) 1 = ap {B = ℕ} (λ b. cond b 1 0) (eq-eqb from k same) in
          omega (arith, sum, rest, one))
      | inr differ ↦
          (let rest = row-once k n (from + 1) in
          let other : ◌≡◌ {A = ℕ} (cond (eqb from k) 1 0) 0 = ap {B = ℕ} (λ b. cond b 1 0) (ne_eqb from k differ) in
          omega (arith, sum, rest, other))
    ]

-- a number of one share is in no other
pub numbers-apart : (guest : Guest) (entry : List ℕ) (share : Share) (is : IsPlanned guest entry share) (i j : ℕ) (a b : Share)
    → slice_get (shares_of guest.namespace entry share.whole) i ≡ Some a → slice_get (shares_of guest.namespace entry share.whole) j ≡ Some b
    → (i ≡ j → ⊥) → (k : ℕ) → has k a.numbers ≡ true → has k b.numbers ≡ false
numbers-apart guest entry share is i j a b first second differ k there =
    let sound = end-sound (mapped (regions_of guest)) guest.limit (shape_of guest).blocks entry is.work is.verdict in
    let shares = shares_of guest.namespace entry share.whole in
    let all : times k (all_numbers shares) ≡ times k (numbers_of is.work) =
    ap (λ p. times k (all_numbers (shares_of guest.namespace entry p))) is.whole_is
    ∙ shares_of-times k (regions_of guest) (mapped (regions_of guest)) guest.namespace entry is.work sound in
    let once = row-once k (length is.work.units) 0 in
    let one = has-times k a.numbers there in
    by_other (has k b.numbers) refl shares first second all once one
  where
    by_other : (other : Bool) → has k b.numbers ≡ other → (shares : List Share) → slice_get shares i ≡ Some a → slice_get shares j ≡ Some b
        → times k (all_numbers shares) ≡ times k (numbers_of is.work) → times k (numbers_of is.work) ≤ 1 → 1 ≤ times k a.numbers → has k b.numbers ≡ false
    by_other false has_b shares at too all once one = has_b
    by_other true has_b shares at too all once one =
        (let more = has-times k b.numbers has_b in
        elim (cases_lt i j) [
          | inl before ↦ (let two = two-times k i j shares a b before at too in absurd (omega (arith, two, all, once, one, more)))
          | inr behind ↦
              elim (cases_eq i j) [
                | inl same ↦ absurd (differ same)
                | inr other ↦ (let two = two-times k j i shares b a (omega (arith, behind, other)) too at in absurd (omega (arith, two, all, once, one, more)))
              ]
        ])

-- ---- the numbers of a share that are left

-- where numbers grow, each stands at one place
one-place : (numbers : List ℕ) (i j n : ℕ) → Grow numbers → slice_get numbers i ≡ Some n → slice_get numbers j ≡ Some n → i ≡ j
one-place numbers i j n grow first second =
    elim (cases_lt i j) [
      | inl before ↦ (let more = later-more numbers i j n n grow before first second in absurd (omega (arith, more)))
      | inr behind ↦
          elim (cases_eq i j) [
            | inl same ↦ same
            | inr differ ↦ (let more = later-more numbers j i n n grow (omega (arith, behind, differ)) second first in absurd (omega (arith, more)))
          ]
    ]

pub has-behind : (numbers : List ℕ) → Grow numbers → (k n : ℕ) → slice_get numbers k ≡ Some n → (ds : List ℕ)
    → has n (filter_map (slice_get numbers) ds) ≡ has k ds
has-behind numbers grow k n at [] = refl
has-behind numbers grow k n at (d ∷ ds) = by_found (slice_get numbers d) refl (has-behind numbers grow k n at ds)
  where
    some-same : (x y : ℕ) → Some x ≡ Some y → x ≡ y
    some-same x y e = cc

    by_found : (o : Option ℕ) → slice_get numbers d ≡ o → has n (filter_map (slice_get numbers) ds) ≡ has k ds
        → has n (cons_option o (filter_map (slice_get numbers) ds)) ≡ ((d == k) || has k ds)
    by_found None is rest =
        rest ∙ sym (ap (λ b. b || has k ds) (ne_eqb d k (λ same. (let both : Some n ≡ None = sym at ∙ ap (slice_get numbers) (sym same) ∙ is in absurd (cc)))))
    by_found (Some m) is rest =
        ap (λ b. b || has n (filter_map (slice_get numbers) ds)) (tests (cases_eq d k)) ∙ ap (λ b. (d == k) || b) rest
      where
        tests : (d ≡ k) ⊎ (d ≡ k → ⊥) → (m == n) ≡ (d == k)
        tests (inl same) = eq-eqb m n (some-same m n (sym is ∙ ap (slice_get numbers) same ∙ at)) ∙ sym (eq-eqb d k same)
        tests (inr differ) =
            ne_eqb m n (λ same. differ (one-place numbers d k n grow (is ∙ ap (λ x. Some x) same) at)) ∙ sym (ne_eqb d k differ)

-- what goes at some places goes among the numbers there
behind-without : (numbers : List ℕ) → Grow numbers → (ds ks : List ℕ)
    → filter_map (slice_get numbers) (left_without ds ks) ≡ left_without (filter_map (slice_get numbers) ds) (filter_map (slice_get numbers) ks)
behind-without numbers grow ds [] = refl
behind-without numbers grow ds (k ∷ ks) = by_found (slice_get numbers k) refl (behind-without numbers grow ds ks)
  where
    by_test : (b : Bool) (o : Option ℕ) → slice_get numbers k ≡ o
        → filter_map (slice_get numbers) (cond (not b) (k ∷ left_without ds ks) (left_without ds ks))
        ≡ cond (not b) (cons_option o (filter_map (slice_get numbers) (left_without ds ks))) (filter_map (slice_get numbers) (left_without ds ks))
    by_test true o is = refl
    by_test false o is = ap (λ x. cons_option x (filter_map (slice_get numbers) (left_without ds ks))) is

    none : (b : Bool) (xs : List ℕ) → cond (not b) xs xs ≡ xs
    none true xs = refl
    none false xs = refl

    by_found : (o : Option ℕ) → slice_get numbers k ≡ o
        → filter_map (slice_get numbers) (left_without ds ks) ≡ left_without (filter_map (slice_get numbers) ds) (filter_map (slice_get numbers) ks)
        → filter_map (slice_get numbers) (cond (not (has k ds)) (k ∷ left_without ds ks) (left_without ds ks))
        ≡ left_without (filter_map (slice_get numbers) ds) (cons_option o (filter_map (slice_get numbers) ks))
    by_found None is rest = by_test (has k ds) None is ∙ none (has k ds) (filter_map (slice_get numbers) (left_without ds ks)) ∙ rest
    by_found (Some n) is rest =
        by_test (has k ds) (Some n) is
        ∙ ap (λ b. cond (not b) (n ∷ filter_map (slice_get numbers) (left_without ds ks)) (filter_map (slice_get numbers) (left_without ds ks)))
        (sym (has-behind numbers grow k n is ds))
        ∙ ap (λ xs. cond (not (has n (filter_map (slice_get numbers) ds))) (n ∷ xs) xs) rest

-- a share without a unit
pub numbers-gone : (guest : Guest) (entry : List ℕ) (share : Share) → IsPlanned guest entry share → (unit : ℕ) (left : List ℕ)
    → numbers_behind share (others unit left) ≡ left_without (numbers_behind share (unit ∷ [])) (numbers_behind share left)
unfolding units_behind
numbers-gone guest entry share is unit left =
    let part = own-share guest entry share is in
    let own : Work = own_work guest entry share is in
    let places = form_numbers (form_of own.opcode) own in
    let by = λ (ls : List ℕ). ap (λ o. numbers_by o share.numbers ls) part.goes in
    by (others unit left)
    ∙ ap (filter_map (slice_get share.numbers)) (sym (places-without left unit 0 places) ∙ without-left (units_behind own (unit ∷ [])) (units_behind own left))
    ∙ behind-without share.numbers part.grow (units_behind own (unit ∷ [])) (units_behind own left)
    ∙ sym (ap (λ g. left_without g (numbers_behind share left)) (by (unit ∷ [])) ∙ ap (left_without (filter_map (slice_get share.numbers) (units_behind own (unit ∷ [])))) (by left))

-- ---- the whole's that are left

has-without : (k : ℕ) (gone xs : List ℕ) → has k (left_without gone xs) ≡ (has k xs && not (has k gone))
has-without k gone [] = refl
has-without k gone (x ∷ xs) = by_test (has x gone) refl (has-without k gone xs)
  where
    falls : (a b : Bool) → b ≡ true → (a && not b) ≡ false
    falls true b is = ap not is
    falls false b is = refl

    stays : (a b : Bool) → b ≡ false → (true && not b) ≡ true
    stays a b is = ap not is

    by_same : (e : Bool) → (x == k) ≡ e → has x gone ≡ true → has k (left_without gone xs) ≡ (has k xs && not (has k gone))
        → has k (left_without gone xs) ≡ ((e || has k xs) && not (has k gone))
    by_same true is out rest =
        (let same = eqb-true x k is in
        let gone_k : has k gone ≡ true = ap (λ y. has y gone) (sym same) ∙ out in
        rest ∙ falls (has k xs) (has k gone) gone_k ∙ sym (falls true (has k gone) gone_k))
    by_same false is out rest = rest

    by_stay : (e : Bool) → (x == k) ≡ e → has x gone ≡ false → has k (left_without gone xs) ≡ (has k xs && not (has k gone))
        → (e || has k (left_without gone xs)) ≡ ((e || has k xs) && not (has k gone))
    by_stay true is out rest =
        (let same = eqb-true x k is in
        sym (stays true (has k gone) (ap (λ y. has y gone) (sym same) ∙ out)))
    by_stay false is out rest = rest

    by_test : (b : Bool) → has x gone ≡ b → has k (left_without gone xs) ≡ (has k xs && not (has k gone))
        → has k (cond (not b) (x ∷ left_without gone xs) (left_without gone xs)) ≡ (((x == k) || has k xs) && not (has k gone))
    by_test true out rest = by_same (x == k) refl out rest
    by_test false out rest = by_stay (x == k) refl out rest

-- a number that is behind places is one of them all
has-at : (k : ℕ) (xs : List ℕ) (i n : ℕ) → slice_get xs i ≡ Some n → n ≡ k → has k xs ≡ true
has-at k [] i n at same = cc
has-at k (x ∷ xs) zero n at same =
    let here : x ≡ n = cc in ap (λ b. b || has k xs) (eq-eqb x k (here ∙ same))
has-at k (x ∷ xs) (suc i) n at same =
    let more = has-at k xs i n at same in elim (x == k) as (λ b. (b || has k xs) ≡ true) [ true ↦ refl | false ↦ more ]

pub has-numbers : (numbers : List ℕ) (k : ℕ) (ds : List ℕ) → has k (filter_map (slice_get numbers) ds) ≡ true → has k numbers ≡ true
has-numbers numbers k [] is = cc
has-numbers numbers k (d ∷ ds) is = by_found (slice_get numbers d) refl (λ any. has-numbers numbers k ds any) is
  where
    by_found : (o : Option ℕ) → slice_get numbers d ≡ o → (has k (filter_map (slice_get numbers) ds) ≡ true → has k numbers ≡ true)
        → has k (cons_option o (filter_map (slice_get numbers) ds)) ≡ true → has k numbers ≡ true
    by_found None at more any = more any
    by_found (Some n) at more any =
        ((elim (n == k) as (λ b. (n == k) ≡ b → (b || has k (filter_map (slice_get numbers) ds)) ≡ true → has k numbers ≡ true) [
          | true ↦ λ same any. has-at k numbers d n at (eqb-true n k same)
          | false ↦ λ same any. more any
        ]) refl any)

-- whether some rest has a number
abbrev pub in_rests : (k : ℕ) → List Rest → Bool
in_rests k rests = list_any (λ (r : Rest). list_any (λ other. other == k) r.left) rests

pub in_rests-append : (k : ℕ) (front back : List Rest) → in_rests k (front ++ back) ≡ (in_rests k front || in_rests k back)
in_rests-append k [] back = refl
in_rests-append k (r ∷ front) back = ap (λ b. has k r.left || b) (in_rests-append k front back) ∙ assoc (has k r.left) (in_rests k front) (in_rests k back)
  where
    assoc : (a b c : Bool) → (a || (b || c)) ≡ ((a || b) || c)
    assoc true b c = refl
    assoc false b c = refl

filter-filter : (g p q : ℕ → Bool) → ((k : ℕ) → (p k && g k) ≡ q k) → (xs : List ℕ) → filter g (filter p xs) ≡ filter q xs
filter-filter g p q each [] = refl
filter-filter g p q each (x ∷ xs) =
    let more = filter-filter g p q each xs in
    (elim (p x) as (λ a. (a && g x) ≡ q x → filter g (cond a (x ∷ filter p xs) (filter p xs)) ≡ cond (q x) (x ∷ filter q xs) (filter q xs)) [
      | true ↦ λ both. ap (λ ys. cond (g x) (x ∷ ys) ys) more ∙ ap (λ t. cond t (x ∷ filter q xs) (filter q xs)) both
      | false ↦ λ both. more ∙ ap (λ t. cond t (x ∷ filter q xs) (filter q xs)) both
    ]) (each x)

-- behind a unit of one share the others' numbers are left as they were
pub progress-left : (guest : Guest) (entry : List ℕ) (share : Share) → IsPlanned guest entry share → (unit : ℕ) (left all : List ℕ) (front back : List Rest) (a b : Bool)
    → ((k : ℕ) → has k share.numbers ≡ true → in_rests k (front ++ back) ≡ false)
    → left_without (numbers_behind share (unit ∷ [])) (filter (λ k. in_rests k (front ++ rest (numbers_behind share left) a ∷ back)) all)
    ≡ filter (λ k. in_rests k (front ++ rest (numbers_behind share (others unit left)) b ∷ back)) all
progress-left guest entry share is unit left all front back a b apart =
    let gone : List ℕ = numbers_behind share (unit ∷ []) in
    let part = own-share guest entry share is in
    filter-filter (λ k. not (has k gone)) (λ k. in_rests k (front ++ rest (numbers_behind share left) a ∷ back))
    (λ k. in_rests k (front ++ rest (numbers_behind share (others unit left)) b ∷ back))
    (λ k.
    ap (λ t. t && not (has k gone)) (in_rests-append k front (rest (numbers_behind share left) a ∷ back))
    ∙ by_gone k (has k gone) refl (in_rests k front) (in_rests k back) (has k (numbers_behind share left))
    (λ out. sym (in_rests-append k front back) ∙ apart k (among k out))
    ∙ ap (λ t. in_rests k front || (t || in_rests k back)) (sym (ap (has k) (numbers-gone guest entry share is unit left) ∙ has-without k gone (numbers_behind share left)))
    ∙ sym (in_rests-append k front (rest (numbers_behind share (others unit left)) b ∷ back))) all
  where
    among : (k : ℕ) → has k (numbers_behind share (unit ∷ [])) ≡ true → has k share.numbers ≡ true
    among k out =
        (let goes = (own-share guest entry share is).goes in
        has-numbers share.numbers k (units_behind (own_work guest entry share is) (unit ∷ []))
        (ap (has k) (sym (ap (λ o. numbers_by o share.numbers (unit ∷ [])) goes)) ∙ out))

    by_gone : (k : ℕ) (g : Bool) → has k (numbers_behind share (unit ∷ [])) ≡ g → (f t l : Bool)
        → (has k (numbers_behind share (unit ∷ [])) ≡ true → (f || t) ≡ false)
        → ((f || (l || t)) && not (has k (numbers_behind share (unit ∷ [])))) ≡ (f || ((l && not (has k (numbers_behind share (unit ∷ [])))) || t))
    by_gone k true is f t l none =
        (let neither = none is in
        ap (λ g. (f || (l || t)) && not g) is ∙ zero_of f t l neither ∙ sym (ap (λ g. f || ((l && not g) || t)) is))
      where
        zero_of : (f t l : Bool) → (f || t) ≡ false → ((f || (l || t)) && false) ≡ (f || ((l && false) || t))
        zero_of true t l e = cc
        zero_of false true l e = cc
        zero_of false false true e = refl
        zero_of false false false e = refl
    by_gone k false is f t l none = ap (λ g. (f || (l || t)) && not g) is ∙ one_of f t l ∙ sym (ap (λ g. f || ((l && not g) || t)) is)
      where
        one_of : (f t l : Bool) → ((f || (l || t)) && true) ≡ (f || ((l && true) || t))
        one_of true t l = refl
        one_of false t true = refl
        one_of false true false = refl
        one_of false false false = refl

-- ---- a Compare that has differed

-- that one has differed before changes nothing but that it has
pub differed-before : (units : List WorkUnit) (work : Work) (m : Moved) (b : Bool)
    → units_moved units work (record m { differed = b || m.differed })
    ≡ record (units_moved units work m) { differed = b || (units_moved units work m).differed }
unfolding units_moved
differed-before [] work m b = refl
differed-before (unit ∷ units) work m b =
    ap (λ d. units_moved units work (record (moved_on unit work m) { differed = d })) (assoc b m.differed (unit_moved unit work m.memory m.disk m.kept).differed)
    ∙ differed-before units work (moved_on unit work m) b
  where
    assoc : (a c d : Bool) → ((a || c) || d) ≡ (a || (c || d))
    assoc true c d = refl
    assoc false c d = refl
