-- The shares of a plan that was made.
use Rattle.std.proofs.Common.{◌≡◌, ℕ, zero, suc, ◌+◌, ◌<◌, ◌≤◌, true, false, IsTrue, List, [], ◌∷◌, length, map, slice_get}
use Rattle.std.proofs.Common.{Option, Some, None, refl, ap, sym, subst, ◌∙◌, arith}
use Rattle.std.specs.List.{All, enumerate_from}
use Rattle.std.specs.Option.{option_map}
use Rattle.std.proofs.lemmas.Bool.Decides.{nat_tests}
use Rattle.std.proofs.lemmas.List.{length-map}
use Rattle.std.proofs.lemmas.Option.{slice_get-map}
use Rattle.std.proofs.lemmas.List.Elements.{All-head, All-tail}
use Rattle.nv_entry.specs.Submission.{slba_of}
use Rattle.nv_mem.specs.declared.region.Region.{Region}
use Rattle.nv_ns.specs.Extents.{Cut, Namespace, Placed, blocks_in, cuts, is_namespace, placed}
use Rattle.nv_ns.specs.Laws.{NamesBlocks}
use Rattle.nv_ns.proofs.Spelled.{cuts-name, cuts-some}
use Rattle.nv_model.specs.Endings.{MayEndIn}
use Rattle.nv_model.specs.Judge.{Clear, Form, Go, Keep, Manage, Refuse, Transfer, Verdict, Work, count_of, form_has_blocks, form_of, judge}
use Rattle.nv_model.specs.Transcript.{Outcome as Come, Settled as Ended, Wanted as Asked, in_transcript}
use Rattle.nv_model.proofs.AnyAnswers.{end-sound, settled-may}
use Rattle.nv_model.proofs.InParts.{judge-in_parts}
use Rattle.nv_model.proofs.Judged.{IsSoundWork}
use Rattle.nv_prp.specs.Fits.{places_fit}
use Rattle.nv_mem.specs.GuestMap.{mapped}
use Rattle.nv_world_model.specs.Geometry.{Guest, regions_of, shape_of}
use Rattle.nv_world_model.specs.Plan.{Answer, Bounced, Direct, NoData, Plan, go_plan, plan_of, plan_over, planned, transfer_plan}
use Rattle.nv_world_model.specs.Seat.{work_of}
use Rattle.nv_world_model.specs.Share.{Share, block_share, range_share, shares_by, shares_of, tags_of_entry, whole_share}
use Rattle.nv_world_model.proofs.TagCounts.{shares_of-tags, tags_of_entry-some}
use Rattle.nv_plan.specs.Made.{IsJobsPlan, MadePlan, outcome_of, plan_come, plan_made, share_made, shares_made}
use Rattle.nv_plan.specs.Outline.{Outline, kind_of, outline_of, outlined, portion_of}

-- ---- what is made is what the definition says

pub outline-made : (p : MadePlan) → IsJobsPlan p → p.outline ≡ outline_of p.given.namespace p.job.sqe (plan_made p)
outline-made p is = by_outcome (outcome_of p.given p.job) is.settled
  where
    by_outcome : (o : Come Plan) → outlined p.given.namespace p.job.sqe o ≡ Ended p.outline
        → p.outline ≡ outline_of p.given.namespace p.job.sqe (plan_come o)
    by_outcome (Asked addr len) e = (cc)
    by_outcome (Ended plan) e = (cc)

-- some answers lead to a verdict, whose plan it is
pub record IsVerdicts (given : Guest) (entry : List ℕ) (plan : Plan) : Type 0 where
  pub verdict : Verdict
  pub may : MayEndIn (judge (shape_of given).mapped given.limit (blocks_in given.namespace) entry) verdict
  pub is : plan ≡ plan_of (regions_of given) verdict

pub made-verdict : (p : MadePlan) → IsJobsPlan p → IsVerdicts p.given p.job.sqe (plan_made p)
unfolding plan_over
made-verdict p is =
    by_outcome (in_transcript (judge (shape_of p.given).mapped p.given.limit (blocks_in p.given.namespace) p.job.sqe) [] p.job.reads) refl is.settled
  where
    by_outcome : (o : Come Verdict)
        → in_transcript (judge (shape_of p.given).mapped p.given.limit (blocks_in p.given.namespace) p.job.sqe) [] p.job.reads ≡ o
        → outlined p.given.namespace p.job.sqe (planned (regions_of p.given) o) ≡ Ended p.outline
        → IsVerdicts p.given p.job.sqe (plan_come (planned (regions_of p.given) o))
    by_outcome (Asked addr len) came e = (cc)
    by_outcome (Ended verdict) came e =
        record {
          verdict = verdict;
          may =
              settled-may (judge (shape_of p.given).mapped p.given.limit (blocks_in p.given.namespace) p.job.sqe) 0 [] p.job.reads verdict
              (judge-in_parts (shape_of p.given).mapped p.given.limit (blocks_in p.given.namespace) p.job.sqe) came;
          is = refl;
        }

-- ---- a plan that goes

pub record IsGoing (given : Guest) (entry : List ℕ) (plan : Plan) (work : Work) : Type 0 where
  pub may : MayEndIn (judge (shape_of given).mapped given.limit (blocks_in given.namespace) entry) (Go work)
  pub sound : IsSoundWork (mapped (regions_of given)) (blocks_in given.namespace) entry work
  pub is : plan ≡ go_plan (form_of work.opcode) (regions_of given) work
  pub shares : shares_of given.namespace entry plan ≡ shares_by (form_of work.opcode) given.namespace entry plan work

shares-go : (form : Form) (regions : List Region) (ns : Namespace) (entry : List ℕ) (work : Work)
    → shares_of ns entry (go_plan form regions work) ≡ shares_by (form_of work.opcode) ns entry (go_plan form regions work) work
shares-go (Transfer dest) regions ns entry work =
    elim (places_fit regions work.pieces) as (λ b. shares_of ns entry (transfer_plan b work) ≡ shares_by (form_of work.opcode) ns entry (transfer_plan b work) work) [
      | true ↦ refl
      | false ↦ refl
    ]
shares-go Clear regions ns entry work = refl
shares-go Manage regions ns entry work = refl
shares-go Keep regions ns entry work = refl

going : (given : Guest) (entry : List ℕ) (plan : Plan) (work : Work) → plan ≡ plan_of (regions_of given) (Go work)
    → MayEndIn (judge (shape_of given).mapped given.limit (blocks_in given.namespace) entry) (Go work) → IsGoing given entry plan work
going given entry plan work is may =
    record {
      may = may;
      sound = end-sound (shape_of given).mapped given.limit (blocks_in given.namespace) entry work may;
      is = is;
      shares = subst (λ (p : Plan). shares_of given.namespace entry p ≡ shares_by (form_of work.opcode) given.namespace entry p work) (sym is)
          (shares-go (form_of work.opcode) (regions_of given) given.namespace entry work);
    }

pub work-go : (form : Form) (regions : List Region) (work : Work) → work_of (go_plan form regions work) ≡ Some work
work-go (Transfer dest) regions work =
    elim (places_fit regions work.pieces) as (λ b. work_of (transfer_plan b work) ≡ Some work) [ true ↦ refl | false ↦ refl ]
work-go Clear regions work = refl
work-go Manage regions work = refl
work-go Keep regions work = refl

-- the plan of a work goes
pub made-going : (p : MadePlan) (work : Work) → IsJobsPlan p → work_of (plan_made p) ≡ Some work → IsGoing p.given p.job.sqe (plan_made p) work
made-going p work is has = by_verdict (made-verdict p is).verdict (made-verdict p is).may (made-verdict p is).is
  where
    by_verdict : (v : Verdict) → MayEndIn (judge (shape_of p.given).mapped p.given.limit (blocks_in p.given.namespace) p.job.sqe) v
        → plan_made p ≡ plan_of (regions_of p.given) v → IsGoing p.given p.job.sqe (plan_made p) work
    by_verdict (Refuse st) may same = absurd (none (sym (ap work_of same) ∙ has))
      where
        none : None ≡ Some work → ⊥
        none e = cc
    by_verdict (Go other) may same =
        let one : other ≡ work = some_same other work (sym (ap work_of same ∙ work-go (form_of other.opcode) (regions_of p.given) other) ∙ has) in
        going p.given p.job.sqe (plan_made p) work (same ∙ ap (λ (w : Work). plan_of (regions_of p.given) (Go w)) one)
        (subst (λ (w : Work). MayEndIn (judge (shape_of p.given).mapped p.given.limit (blocks_in p.given.namespace) p.job.sqe) (Go w)) one may)
      where
        some_same : (a b : Work) → Some a ≡ Some b → a ≡ b
        some_same a b e = cc

-- ---- a share

-- a share of a plan, and the work that the plan is of
pub record IsPart (p : MadePlan) (part : ℕ) (share : Share) : Type 0 where
  pub work : Work
  pub goes : IsGoing p.given p.job.sqe (plan_made p) work
  pub there : slice_get (shares_by (form_of work.opcode) p.given.namespace p.job.sqe (plan_made p) work) part ≡ Some share

pub made-part : (p : MadePlan) (part : ℕ) (share : Share) → IsJobsPlan p → share_made part p ≡ Some share → IsPart p part share
made-part p part share is there = by_work (work_of (plan_made p)) refl
  where
    by_plan : (plan : Plan) → work_of plan ≡ None → shares_of p.given.namespace p.job.sqe plan ≡ []
    by_plan (Answer st) none = refl
    by_plan (NoData work) none = absurd (cc)
    by_plan (Direct work) none = absurd (cc)
    by_plan (Bounced work) none = absurd (cc)

    by_work : (o : Option Work) → work_of (plan_made p) ≡ o → IsPart p part share
    by_work None none = absurd (nowhere part (sym (ap (λ (shares : List Share). slice_get shares part) (by_plan (plan_made p) none)) ∙ there))
      where
        nowhere : (k : ℕ) → slice_get [] k ≡ Some share → ⊥
        nowhere k e = cc
    by_work (Some work) has =
        let goes = made-going p work is has in
        record { work = work; goes = goes; there = sym (ap (λ (shares : List Share). slice_get shares part) goes.shares) ∙ there }

-- what is mapped is mapped from somewhere
record IsFrom {A B : Type 0} (f : A → B) (xs : List A) (k : ℕ) (y : B) : Type 0 where
  x : A
  there : slice_get xs k ≡ Some x
  is : f x ≡ y

map-from : {A B : Type 0} (f : A → B) (xs : List A) (k : ℕ) (y : B) → slice_get (map f xs) k ≡ Some y → IsFrom f xs k y
map-from f [] k y is = absurd (cc)
map-from f (x ∷ xs) zero y is = record { x = x; there = refl; is = (cc) }
map-from f (x ∷ xs) (suc k) y is = let on = map-from f xs k y is in record { x = on.x; there = on.there; is = on.is }

record IsCounted {A : Type 0} (from : ℕ) (xs : List A) (k : ℕ) (p : ℕ × A) : Type 0 where
  number : p.0 ≡ from + k
  there : slice_get xs k ≡ Some p.1

enumerate-at : {A : Type 0} (from : ℕ) (xs : List A) (k : ℕ) (p : ℕ × A) → slice_get (enumerate_from from xs) k ≡ Some p → IsCounted from xs k p
enumerate-at from [] k p is = absurd (cc)
enumerate-at {A = A} from (x ∷ xs) zero p is =
    subst (IsCounted from (x ∷ xs) zero) (same p is) (record { number = omega arith; there = refl })
  where
    same : (q : ℕ × A) → Some (from, x) ≡ Some q → (from, x) ≡ q
    same q e = cc
enumerate-at from (x ∷ xs) (suc k) p is =
    let on = enumerate-at (from + 1) xs k p is in
    let number = on.number in record { number = omega arith; there = on.there }

-- what each share of a command of that form is
pub each-share : (P : Share → Type 0) (form : Form) (ns : Namespace) (entry : List ℕ) (plan : Plan) (work : Work) (part : ℕ) (share : Share)
    → slice_get (shares_by form ns entry plan work) part ≡ Some share
    → (form_has_blocks form ≡ true → (cut : Cut) → slice_get (cuts ns (slba_of entry) (count_of entry)) part ≡ Some cut → P (block_share plan work cut))
    → (form ≡ Manage → (at : Placed) → slice_get (placed 0 ns) part ≡ Some at → P (range_share plan work part at))
    → (form ≡ Keep → P (whole_share plan work)) → P share
each-share P (Transfer dest) ns entry plan work part share is run ranges whole =
    let from = map-from (block_share plan work) (cuts ns (slba_of entry) (count_of entry)) part share is in
    subst P from.is (run refl from.x from.there)
each-share P Clear ns entry plan work part share is run ranges whole =
    let from = map-from (block_share plan work) (cuts ns (slba_of entry) (count_of entry)) part share is in
    subst P from.is (run refl from.x from.there)
each-share P Manage ns entry plan work part share is run ranges whole =
    let from = map-from (λ (p : ℕ × Placed). range_share plan work p.0 p.1) (enumerate_from 0 (placed 0 ns)) part share is in
    let at = enumerate-at 0 (placed 0 ns) part from.x from.there in
    let number : part ≡ from.x.0 = (let n = at.number in omega arith) in
    subst P (ap (λ (n : ℕ). range_share plan work n from.x.1) number ∙ from.is) (ranges refl from.x.1 at.there)
each-share P Keep ns entry plan work zero share is run ranges whole = subst P (same share is) (whole refl)
  where
    same : (s : Share) → Some (whole_share plan work) ≡ Some s → whole_share plan work ≡ s
    same s e = cc
each-share P Keep ns entry plan work (suc part) share is run ranges whole = absurd (cc)

-- ---- a cut

pub All-at : {A : Type 0} (P : A → Type 0) (xs : List A) (k : ℕ) (x : A) → All P xs → slice_get xs k ≡ Some x → P x
All-at P [] k x each is = absurd (cc)
All-at {A = A} P (y ∷ xs) zero x each is = subst P (same x is) (All-head P y xs each)
  where
    same : (z : A) → Some y ≡ Some z → y ≡ z
    same z e = cc
All-at P (y ∷ xs) (suc k) x each is = All-at P xs k x (All-tail P y xs each) is

pub cut-names : (ns : Namespace) (slba count part : ℕ) (cut : Cut) → slice_get (cuts ns slba count) part ≡ Some cut → NamesBlocks ns slba count cut
cut-names ns slba count part cut is =
    All-at (NamesBlocks ns slba count) (cuts ns slba count) part cut (cuts-name ns slba count) is

pub cut-some : (ns : Namespace) (slba count part : ℕ) (cut : Cut) → slice_get (cuts ns slba count) part ≡ Some cut → 0 < cut.count
cut-some ns slba count part cut is =
    All-at (λ (c : Cut). 0 < c.count) (cuts ns slba count) part cut (cuts-some ns slba count) is

-- ---- its kind

-- a share is of its plan's kind, and of that whole
pub share-kind : (ns : Namespace) (entry : List ℕ) (plan : Plan) (part : ℕ) (share : Share) → slice_get (shares_of ns entry plan) part ≡ Some share
    → (kind_of share.plan ≡ kind_of plan) × (share.whole ≡ plan)
share-kind ns entry (Answer st) part share is = absurd (cc)
share-kind ns entry (NoData work) part share is =
    each-share (λ (s : Share). (kind_of s.plan ≡ kind_of (NoData work)) × (s.whole ≡ NoData work)) (form_of work.opcode) ns entry (NoData work) work part share is
    (λ has cut there. (refl, refl)) (λ form at there. (refl, refl)) (λ form. (refl, refl))
share-kind ns entry (Direct work) part share is =
    each-share (λ (s : Share). (kind_of s.plan ≡ kind_of (Direct work)) × (s.whole ≡ Direct work)) (form_of work.opcode) ns entry (Direct work) work part share is
    (λ has cut there. (refl, refl)) (λ form at there. (refl, refl)) (λ form. (refl, refl))
share-kind ns entry (Bounced work) part share is =
    each-share (λ (s : Share). (kind_of s.plan ≡ kind_of (Bounced work)) × (s.whole ≡ Bounced work)) (form_of work.opcode) ns entry (Bounced work) work part share is
    (λ has cut there. (refl, refl)) (λ form at there. (refl, refl)) (λ form. (refl, refl))

-- ---- how many there are

pub made-tags : (p : MadePlan) (work : Work) → IsJobsPlan p → work_of (plan_made p) ≡ Some work
    → length (shares_made p) ≡ tags_of_entry p.given.namespace p.job.sqe
made-tags p work is has =
    let goes = made-going p work is has in
    ap (λ (plan : Plan). length (shares_of p.given.namespace p.job.sqe plan)) goes.is
    ∙ shares_of-tags (regions_of p.given) (shape_of p.given).mapped p.given.limit p.given.namespace p.job.sqe work goes.may

-- no more than extents
pub made-no_more : (p : MadePlan) → IsJobsPlan p → 0 < length p.given.namespace → length (shares_made p) ≤ length p.given.namespace
made-no_more p is some = by_plan (plan_made p) refl
  where
    few : (work : Work) → work_of (plan_made p) ≡ Some work → length (shares_made p) ≤ length p.given.namespace
    few work has =
        let tags = made-tags p work is has in
        let no_more = (tags_of_entry-some p.given.namespace p.job.sqe some).1 in omega arith

    by_plan : (plan : Plan) → plan_made p ≡ plan → length (shares_made p) ≤ length p.given.namespace
    by_plan (Answer st) same = let none = ap (λ (x : Plan). length (shares_of p.given.namespace p.job.sqe x)) same in omega arith
    by_plan (NoData work) same = few work (ap work_of same)
    by_plan (Direct work) same = few work (ap work_of same)
    by_plan (Bounced work) same = few work (ap work_of same)

namespace-few : (ns : Namespace) → IsTrue (is_namespace ns) → (0 < length ns) × (length ns ≤ 8)
namespace-few ns kept = (grind (arith, nat_tests), grind (arith, nat_tests))

pub made-few : (p : MadePlan) → IsJobsPlan p → IsTrue (is_namespace p.given.namespace) → length (shares_made p) ≤ 8
made-few p is kept =
    let few = namespace-few p.given.namespace kept in
    let no_more = made-no_more p is few.0 in
    let most = few.1 in omega arith

-- as many as portions
pub made-portions : (p : MadePlan) → IsJobsPlan p → length p.outline.portions ≡ length (shares_made p)
made-portions p is =
    ap (λ (o : Outline). length o.portions) (outline-made p is) ∙ length-map (shares_made p) (portion_of p.given.namespace)

-- and that of a share is what the share's physical command has
pub made-portion : (p : MadePlan) (part : ℕ) (share : Share) → IsJobsPlan p → share_made part p ≡ Some share
    → slice_get p.outline.portions part ≡ Some (portion_of p.given.namespace share)
made-portion p part share is there =
    ap (λ (o : Outline). slice_get o.portions part) (outline-made p is)
    ∙ slice_get-map (portion_of p.given.namespace) (shares_made p) part ∙ ap (option_map (portion_of p.given.namespace)) there
