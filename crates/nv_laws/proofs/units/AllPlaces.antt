-- Each place of a transfer is one of some share's.
use Rattle.std.proofs.Common.{◌≡◌, ℕ, zero, suc, ◌+◌, ◌*◌, ◌<◌, ◌≤◌, Bool, true, false, ◌||◌, ◌==◌, eqb, cond, List}
use Rattle.std.proofs.Common.{[], ◌∷◌, ◌++◌, All, drop, length, map, slice_get, Some}
use Rattle.std.proofs.Common.{arith, refl, sym, ap, ◌∙◌, eq-eqb, eqb-true, subst, inl, inr}
use Rattle.std.specs.List.{Contains, enumerate_from, range_with_len}
use Rattle.std.proofs.lemmas.Bool.{cases_eq}
use Rattle.std.proofs.lemmas.List.Elements.{All-contains, All-contains_itself, All-cons, All-drop, All-head, All-nil, All-tail, All-take}
use Rattle.std.proofs.lemmas.List.Sums.{sum_by-cons}
use Rattle.nv_entry.specs.Submission.{slba_of}
use Rattle.nv_mem.specs.GuestMap.{mapped}
use Rattle.nv_mem.specs.Places.{Place, places_of, total_len}
use Rattle.nv_mem.proofs.PlaceLists.{length-places_of}
use Rattle.nv_ns.specs.Extents.{Cut, Namespace, Placed, cuts, placed}
use Rattle.nv_model.specs.Judge.{Clear, Form, Keep, Manage, Transfer, Work, count_of, form_of, form_transfer_len, form_units}
use Rattle.nv_model.specs.Limits.{block}
use Rattle.nv_model.specs.Private.{numbers_of, places_of_block}
use Rattle.nv_model.proofs.AnyAnswers.{end-sound}
use Rattle.nv_model.proofs.Units.{length-move_units}
use Rattle.nv_world_model.specs.Geometry.{Guest, regions_of, shape_of}
use Rattle.nv_world_model.specs.Plan.{Answer, Bounced, Direct, NoData, Plan}
use Rattle.nv_world_model.specs.Share.{Share, block_share, range_share, shares_by, shares_of, whole_share}
use Rattle.nv_world_model.proofs.AllShares.{all_numbers, shares_of-times}
use Rattle.nv_world_model.proofs.ShareNumbers.{times}
use Rattle.nv_world_model.specs.Seat.{work_of}
use Rattle.nv_laws_sound.specs.Consistent.{IsPlanned}
use Rattle.nv_laws_sound.proofs.PlanSizes.{own_work}
use Rattle.nv_laws.proofs.units.OwnShares.{own-share}
use Rattle.nv_laws.proofs.units.Progress.{has, has-times}
use Rattle.nv_laws.proofs.units.SharePlaces.{blocks-all, share-blocks}

-- ---- the shares of a plan

-- each has the plan as its whole
abbrev IsOf : Plan → Share → Type 0
IsOf plan share = share.whole ≡ plan

cuts-of : (plan : Plan) (work : Work) (all : List Cut) → All (IsOf plan) (map (block_share plan work) all)
cuts-of plan work [] = All-nil (IsOf plan)
cuts-of plan work (cut ∷ all) = All-cons (IsOf plan) (block_share plan work cut) (map (block_share plan work) all) refl (cuts-of plan work all)

extents-of : (plan : Plan) (work : Work) (from : ℕ) (ats : List Placed)
    → All (IsOf plan) (map (λ p. range_share plan work p.0 p.1) (enumerate_from from ats))
extents-of plan work from [] = All-nil (IsOf plan)
extents-of plan work from (at ∷ ats) =
    All-cons (IsOf plan) (range_share plan work from at) (map (λ p. range_share plan work p.0 p.1) (enumerate_from (from + 1) ats)) refl
    (extents-of plan work (from + 1) ats)

form-of : (form : Form) (ns : Namespace) (entry : List ℕ) (plan : Plan) (work : Work) → All (IsOf plan) (shares_by form ns entry plan work)
form-of (Transfer dest) ns entry plan work = cuts-of plan work (cuts ns (slba_of entry) (count_of entry))
form-of Clear ns entry plan work = cuts-of plan work (cuts ns (slba_of entry) (count_of entry))
form-of Manage ns entry plan work = extents-of plan work 0 (placed 0 ns)
form-of Keep ns entry plan work = All-cons (IsOf plan) (whole_share plan work) [] refl (All-nil (IsOf plan))

shares-of : (ns : Namespace) (entry : List ℕ) (plan : Plan) → All (IsOf plan) (shares_of ns entry plan)
shares-of ns entry (Answer st) = All-nil (IsOf (Answer st))
shares-of ns entry (NoData work) = form-of (form_of work.opcode) ns entry (NoData work) work
shares-of ns entry (Direct work) = form-of (form_of work.opcode) ns entry (Direct work) work
shares-of ns entry (Bounced work) = form-of (form_of work.opcode) ns entry (Bounced work) work

-- so each other share of a planned share's command is planned
pub other-planned : (guest : Guest) (entry : List ℕ) (share : Share) → IsPlanned guest entry share → (other : Share)
    → Contains (shares_of guest.namespace entry share.whole) other → IsPlanned guest entry other
other-planned guest entry share is other among =
    let same = All-contains (IsOf share.whole) (shares_of guest.namespace entry share.whole) other (shares-of guest.namespace entry share.whole) among in
    record {
      work = is.work;
      verdict = is.verdict;
      whole_is = same ∙ is.whole_is;
      is_share = subst (λ p. Contains (shares_of guest.namespace entry p) other) (sym same) among;
    }

-- ---- the share of a number

has-append : (k : ℕ) (xs ys : List ℕ) → has k (xs ++ ys) ≡ (has k xs || has k ys)
has-append k [] ys = refl
has-append k (x ∷ xs) ys = ap (λ b. (x == k) || b) (has-append k xs ys) ∙ assoc (x == k) (has k xs) (has k ys)
  where
    assoc : (a b c : Bool) → (a || (b || c)) ≡ ((a || b) || c)
    assoc true b c = refl
    assoc false b c = refl

-- a number that is counted is there
times-has : (k : ℕ) (xs : List ℕ) → 1 ≤ times k xs → has k xs ≡ true
times-has k [] some = absurd (omega (arith, some))
times-has k (x ∷ xs) some =
    let sum = sum_by-cons (λ n. cond (eqb n k) 1 0) x xs in
    (elim (eqb x k) as (λ b. cond b 1 0 + times k xs ≡ times k (x ∷ xs) → (b || has k xs) ≡ true) [
      | true ↦ λ both. refl
      | false ↦ λ both. times-has k xs (omega (arith, both, some))
    ]) (sym sum)

pub has-row : (k n from : ℕ) → from ≤ k → k < from + n → has k (range_with_len from n) ≡ true
has-row k zero from low high = absurd (omega (arith, low, high))
has-row k (suc n) from low high =
    elim (cases_eq from k) [
      | inl same ↦ ap (λ b. b || has k (range_with_len (from + 1) n)) (eq-eqb from k same)
      | inr differ ↦
          (let rest = has-row k n (from + 1) (omega (arith, low, differ)) (omega (arith, high)) in
          elim (from == k) as (λ b. (b || has k (range_with_len (from + 1) n)) ≡ true) [ true ↦ refl | false ↦ rest ])
    ]

-- it stands somewhere
pub data StandsIn (k : ℕ) (numbers : List ℕ) : Type 0 where
  At : (i : ℕ) → slice_get numbers i ≡ Some k → StandsIn k numbers

stands-in : (k : ℕ) (numbers : List ℕ) → has k numbers ≡ true → StandsIn k numbers
stands-in k [] is = cc
stands-in k (x ∷ numbers) is = by_test (x == k) refl (λ any. stands-in k numbers any) is
  where
    by_test : (b : Bool) → (x == k) ≡ b → (has k numbers ≡ true → StandsIn k numbers) → (b || has k numbers) ≡ true → StandsIn k (x ∷ numbers)
    by_test true same more any = At 0 (ap (λ n. Some n) (eqb-true x k same))
    by_test false same more any = further (more any)
      where
        further : StandsIn k numbers → StandsIn k (x ∷ numbers)
        further (At i at) = At (suc i) at

-- in one of these
pub data IsOfOne (Q : Share → Type 0) (k : ℕ) : Type 0 where
  Of : (share : Share) → Q share → StandsIn k share.numbers → IsOfOne Q k

one-of : (Q : Share → Type 0) (k : ℕ) (shares : List Share) → All Q shares → has k (all_numbers shares) ≡ true → IsOfOne Q k
one-of Q k [] each is = cc
one-of Q k (share ∷ shares) each is =
    by_test (has k share.numbers) refl (λ any. one-of Q k shares (All-tail Q share shares each) any) (sym (has-append k share.numbers (all_numbers shares)) ∙ is)
  where
    by_test : (b : Bool) → has k share.numbers ≡ b → (has k (all_numbers shares) ≡ true → IsOfOne Q k) → (b || has k (all_numbers shares)) ≡ true → IsOfOne Q k
    by_test true here more any = Of share (All-head Q share shares each) (stands-in k share.numbers here)
    by_test false here more any = more any

-- ---- places

-- what holds of the places of all shares of a transfer holds of the whole's
pub places-all : (P : Place → Type 0) (guest : Guest) (entry : List ℕ) (share : Share) (is : IsPlanned guest entry share) (dest : Bool) → form_of is.work.opcode ≡ Transfer dest
    → ((other : Share) → Contains (shares_of guest.namespace entry share.whole) other → (own : Work) → work_of other.plan ≡ Some own → All P (places_of own.pieces))
    → All P (places_of is.work.pieces)
unfolding other-planned
places-all P guest entry share is dest form each =
    let sound = end-sound (mapped (regions_of guest)) guest.limit (shape_of guest).blocks entry is.work is.verdict in
    let units : length is.work.units ≡ count_of entry =
    ap length (sound.units ∙ ap (λ f. form_units f (shape_of guest).blocks entry is.work.ranges) form) ∙ length-move_units (slba_of entry) (count_of entry) in
    let total : total_len is.work.pieces ≡ block * count_of entry = sound.total ∙ ap (λ f. form_transfer_len f entry) form in
    let size = length-places_of is.work.pieces in
    let shares = shares_of guest.namespace entry share.whole in
    let all = λ (k : ℕ). ap (λ p. times k (all_numbers (shares_of guest.namespace entry p))) is.whole_is
    ∙ shares_of-times k (regions_of guest) (mapped (regions_of guest)) guest.namespace entry is.work sound in
    blocks-all P (length is.work.units) (places_of is.work.pieces) (omega (arith, size, total, units))
    (λ k below.
    (let there = has-times k (numbers_of is.work) (has-row k (length is.work.units) 0 (omega arith) (omega (arith, below))) in
    let counted = all k in
    of_one k (one-of (Contains shares) k shares (All-contains_itself shares) (times-has k (all_numbers shares) (omega (arith, there, counted))))))
  where
    of_one : (k : ℕ) → IsOfOne (Contains (shares_of guest.namespace entry share.whole)) k → All P (places_of_block is.work k)
    of_one k (Of other among (At i at)) =
        (let planned = other-planned guest entry share is other among in
        let goes = (own-share guest entry other planned).goes in
        let own : Work = own_work guest entry other planned in
        subst (All P) (share-blocks guest entry other planned own goes dest form i k at)
        (All-take P block (drop (block * i) (places_of own.pieces)) (All-drop P (block * i) (places_of own.pieces) (each other among own goes))))
