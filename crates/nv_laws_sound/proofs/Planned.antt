-- A plan over a transcript is an answer, or that of a verdict which some answers lead to; and then each of its shares is planned.
use Rattle.std.proofs.Common.{◌≡◌, ℕ, false, List, [], length, refl, sym, ap, ◌∙◌, subst}
use Rattle.std.specs.List.{All, Contains, enumerate_from}
use Rattle.std.proofs.lemmas.List.Elements.{All-cons, All-contains, All-contains_itself, All-map, All-nil, All-weaker}
use Rattle.nv_entry.specs.Status.{StatusField}
use Rattle.nv_entry.specs.Submission.{slba_of}
use Rattle.nv_mem.specs.GuestMap.{mapped}
use Rattle.nv_ns.specs.Extents.{Namespace, cuts, placed}
use Rattle.nv_model.specs.Endings.{MayEndIn}
use Rattle.nv_model.specs.Judge.{Clear, Form, Go, Keep, Manage, Refuse, Transfer, Verdict, Work, count_of, form_of, judge}
use Rattle.nv_model.specs.Transcript.{Outcome, ReadDone, Settled, Wanted, in_transcript}
use Rattle.nv_model.proofs.AnyAnswers.{settled-may}
use Rattle.nv_model.proofs.InParts.{judge-in_parts}
use Rattle.nv_world_model.specs.Geometry.{Guest, regions_of, shape_of}
use Rattle.nv_world_model.specs.Plan.{Answer, Bounced, Direct, NoData, Plan, plan_of, plan_over, planned}
use Rattle.nv_world_model.specs.Share.{Share, block_share, range_share, shares_by, shares_of, tags_of_entry, whole_share}
use Rattle.nv_world_model.proofs.TagCounts.{shares_of-tags}
use Rattle.nv_world_model.specs.Step.{is_success}
use Rattle.nv_laws_sound.specs.Consistent.{IsPlanned}
use Rattle.nv_laws_sound.proofs.Refusals.{refused-failure}

-- a plan is that of some verdict on a guest's command which lets it go
pub record IsWhole (guest : Guest) (entry : List ℕ) (plan : Plan) : Type 0 where
  pub work : Work
  pub verdict : MayEndIn (judge (mapped (regions_of guest)) guest.limit (shape_of guest).blocks entry) (Go work)
  pub plan_is : plan ≡ plan_of (regions_of guest) (Go work)

-- an answer, which tells of a failure, or a plan
pub data IsAnswerOr (guest : Guest) (entry : List ℕ) (plan : Plan) : Type 0 where
  Answers : (st : StatusField) → is_success st ≡ false → plan ≡ Answer st → IsAnswerOr guest entry plan
  Plans : IsWhole guest entry plan → IsAnswerOr guest entry plan

module _ (guest : Guest) (entry : List ℕ) (reads : List ReadDone) where
  -- a verdict that is settled is one that some answers lead to
  may-end : (verdict : Verdict) → in_transcript (judge (mapped (regions_of guest)) guest.limit (shape_of guest).blocks entry) [] reads ≡ Settled verdict
      → MayEndIn (judge (mapped (regions_of guest)) guest.limit (shape_of guest).blocks entry) verdict
  may-end verdict settled =
      settled-may (judge (mapped (regions_of guest)) guest.limit (shape_of guest).blocks entry) 0 [] reads verdict
      (judge-in_parts (mapped (regions_of guest)) guest.limit (shape_of guest).blocks entry) settled

  -- by the verdict
  by-verdict : (verdict : Verdict) → in_transcript (judge (mapped (regions_of guest)) guest.limit (shape_of guest).blocks entry) [] reads ≡ Settled verdict
      → (plan : Plan) → plan_of (regions_of guest) verdict ≡ plan → IsAnswerOr guest entry plan
  by-verdict (Refuse st) settled plan is =
      Answers st (refused-failure (mapped (regions_of guest)) guest.limit (shape_of guest).blocks entry st (may-end (Refuse st) settled)) (sym is)
  by-verdict (Go work) settled plan is = Plans (record { work = work; verdict = may-end (Go work) settled; plan_is = sym is })

  -- by the outcome
  by-outcome : (outcome : Outcome Verdict) → in_transcript (judge (mapped (regions_of guest)) guest.limit (shape_of guest).blocks entry) [] reads ≡ outcome
      → (plan : Plan) → planned (regions_of guest) outcome ≡ Settled plan → IsAnswerOr guest entry plan
  by-outcome (Wanted addr len) is plan settled = cc
  by-outcome (Settled verdict) is plan settled = by-verdict verdict is plan (settled-same (plan_of (regions_of guest) verdict) plan settled)
    where
      settled-same : (p q : Plan) → Settled p ≡ Settled q → p ≡ q
      settled-same p q e = cc

  pub plan_over-is : (plan : Plan) → plan_over guest entry reads ≡ Settled plan → IsAnswerOr guest entry plan
  unfolding plan_over
  plan_over-is plan settled =
      by-outcome (in_transcript (judge (mapped (regions_of guest)) guest.limit (shape_of guest).blocks entry) [] reads) refl plan settled

-- ---- its shares

-- each is one of that plan
abbrev pub IsOf : Plan → Share → Type 0
IsOf plan share = share.whole ≡ plan

all-refl : {X : Type 0} (xs : List X) (plan : Plan) (f : X → Share) → ((x : X) → (f x).whole ≡ plan) → All (λ x. IsOf plan (f x)) xs
all-refl xs plan f each = All-weaker (Contains xs) (λ x. IsOf plan (f x)) (λ x among. each x) xs (All-contains_itself xs)

by-form : (form : Form) (ns : Namespace) (entry : List ℕ) (plan : Plan) (work : Work) → All (IsOf plan) (shares_by form ns entry plan work)
by-form (Transfer dest) ns entry plan work =
    All-map (IsOf plan) (block_share plan work) (cuts ns (slba_of entry) (count_of entry))
    (all-refl (cuts ns (slba_of entry) (count_of entry)) plan (block_share plan work) (λ cut. refl))
by-form Clear ns entry plan work =
    All-map (IsOf plan) (block_share plan work) (cuts ns (slba_of entry) (count_of entry))
    (all-refl (cuts ns (slba_of entry) (count_of entry)) plan (block_share plan work) (λ cut. refl))
by-form Manage ns entry plan work =
    All-map (IsOf plan) (λ p. range_share plan work p.0 p.1) (enumerate_from 0 (placed 0 ns))
    (all-refl (enumerate_from 0 (placed 0 ns)) plan (λ p. range_share plan work p.0 p.1) (λ p. refl))
by-form Keep ns entry plan work = All-cons (IsOf plan) (whole_share plan work) [] refl (All-nil (IsOf plan))

pub shares-whole : (ns : Namespace) (entry : List ℕ) (plan : Plan) → All (IsOf plan) (shares_of ns entry plan)
shares-whole ns entry (Answer st) = All-nil (IsOf (Answer st))
shares-whole ns entry (NoData work) = by-form (form_of work.opcode) ns entry (NoData work) work
shares-whole ns entry (Direct work) = by-form (form_of work.opcode) ns entry (Direct work) work
shares-whole ns entry (Bounced work) = by-form (form_of work.opcode) ns entry (Bounced work) work

-- and is planned
pub shares-planned : (guest : Guest) (entry : List ℕ) (plan : Plan) → IsWhole guest entry plan
    → All (IsPlanned guest entry) (shares_of guest.namespace entry plan)
shares-planned guest entry plan is =
    let shares : List Share = shares_of guest.namespace entry plan in
    All-weaker (Contains shares) (IsPlanned guest entry) (λ share among. one share among) shares (All-contains_itself shares)
  where
    one : (share : Share) → Contains (shares_of guest.namespace entry plan) share → IsPlanned guest entry share
    one share among =
        let whole = All-contains (IsOf plan) (shares_of guest.namespace entry plan) share (shares-whole guest.namespace entry plan) among in
        record {
          work = is.work;
          verdict = is.verdict;
          whole_is = whole ∙ is.plan_is;
          is_share = subst (λ p. Contains (shares_of guest.namespace entry p) share) (sym whole) among;
        }

-- they are as many as the command has tags
pub shares-count : (guest : Guest) (entry : List ℕ) (plan : Plan) → IsWhole guest entry plan
    → length (shares_of guest.namespace entry plan) ≡ tags_of_entry guest.namespace entry
shares-count guest entry plan is =
    ap (λ p. length (shares_of guest.namespace entry p)) is.plan_is
    ∙ shares_of-tags (regions_of guest) (mapped (regions_of guest)) guest.limit guest.namespace entry is.work is.verdict
