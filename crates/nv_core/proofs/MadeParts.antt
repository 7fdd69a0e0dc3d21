-- What each part of a plan that was made is, by the definition's plan of its job.
use Rattle.std.proofs.Common.{◌≡◌, ℕ, ◌+◌, ◌-◌, ◌*◌, ◌^◌, ◌<◌, ◌≤◌, ◌⊎◌, inl, inr, Bool, true, false, ◌==◌, All, List, [], ◌∷◌, ◌++◌}
use Rattle.std.proofs.Common.{filter, flat_map, length, map, slice_get, Some, arith, refl, sym, ap, ◌∙◌, subst}
use Rattle.std.specs.List.{Contains}
use Rattle.std.proofs.lemmas.Bool.{cases_lt, eqb-false}
use Rattle.std.proofs.lemmas.List.{length-map}
use Rattle.std.proofs.lemmas.List.Elements.{All-contains, All-contains_itself, All-map, All-weaker}
use Rattle.nv_core.proofs.WithBytes.{cut-runs, filter-places}
use Rattle.nv_core.specs.Submit.{IsGoing}
use Rattle.nv_entry.specs.Opcode.{io_opcode}
use Rattle.nv_entry.specs.Status.{bit}
use Rattle.nv_entry.specs.declared.status.Status.{Status}
use Rattle.nv_entry.specs.Submission.{opcode_of, slba_of}
use Rattle.nv_entry.specs.declared.opcode.IoOpcode.{IoOpcode}
use Rattle.nv_entry.specs.declared.opcode.IoOpcode.TheVariants as opcode
use Rattle.nv_laws_sound.specs.Consistent.{IsPlanned}
use Rattle.nv_laws_sound.proofs.Lists.{some-same}
use Rattle.nv_laws_sound.proofs.Numbers.{all-at}
use Rattle.nv_laws_sound.proofs.OwnWork.{IsOwn, IsRow, own-of, own_len}
use Rattle.nv_laws_sound.proofs.Planned.{Answers, IsAnswerOr, IsWhole, Plans, plan_over-is, shares-planned, shares-whole}
use Rattle.nv_laws_sound.proofs.PlanSizes.{own-few, ranges-few}
use Rattle.nv_model.proofs.SourceRuns.{source-runs}
use Rattle.nv_mem.specs.GuestMap.{mapped}
use Rattle.nv_mem.specs.Places.{places_of, total_len}
use Rattle.nv_mem.specs.declared.region.Region.{Region}
use Rattle.nv_model.specs.Judge.{Clear, Form, Keep, Manage, Transfer, Work, count_of, form_has_blocks, form_has_buffer, form_is_read, form_of}
use Rattle.nv_model.specs.Judge.{form_transfer_len, is_fua}
use Rattle.nv_model.specs.Laws.{IsMappedPiece}
use Rattle.nv_model.specs.Limits.{block, most_bytes}
use Rattle.nv_model.specs.Memory.{gathered, image}
use Rattle.nv_model.specs.Transcript.{Outcome, Settled, Wanted}
use Rattle.nv_model.proofs.AnyAnswers.{end-sound}
use Rattle.nv_model.proofs.RunPieces.{IsRunPiece}
use Rattle.nv_ns.specs.Extents.{Cut, Namespace, cuts, place_in}
use Rattle.nv_plan.specs.Made.{IsJobsPlan, MadePlan, outcome_of, plan_come, plan_made, share_made, shares_made}
use Rattle.nv_plan.specs.Outline.{kind_of, outlined}
use Rattle.nv_plan.specs.Parts.{form_places, form_ranges, has_bytes, places_in, ranges_of}
use Rattle.nv_plan.specs.declared.kind.PlanKind.TheVariants as kind
use Rattle.nv_prp.specs.Fits.{places_fit}
use Rattle.nv_world_model.specs.Area.{addresses_of, translated_range, two_dwords}
use Rattle.nv_world_model.specs.Geometry.{Guest, regions_of, shape_of}
use Rattle.nv_world_model.specs.Plan.{Answer, Bounced, Direct, NoData, Plan, go_plan, plan_over, transfer_plan}
use Rattle.nv_world_model.specs.Seat.{work_of}
use Rattle.nv_world_model.specs.Share.{Share, block_share, shares_by, shares_of, with_work}
use Rattle.nv_world_model.specs.ShareArea.{first_lba, form_own_bytes, is_no_command, is_no_plan, is_no_work, own_bytes, own_dwords, work_dwords}
use Rattle.nv_world_model.proofs.ShareParts.{run_work}

-- ---- the definition's plan

-- what came of the job is that plan
pub made-said : (p : MadePlan) → IsJobsPlan p → plan_over p.given p.job.sqe p.job.reads ≡ Settled (plan_made p)
made-said p is = by-outcome (outcome_of p.given p.job) is.settled
  where
    by-outcome : (o : Outcome Plan) → outlined p.given.namespace p.job.sqe o ≡ Settled p.outline → o ≡ Settled (plan_come o)
    by-outcome (Wanted addr len) e = cc
    by-outcome (Settled plan) e = refl

-- one that goes is that of a verdict
pub whole-of : (given : Guest) (entry : List ℕ) (plan : Plan) → IsAnswerOr given entry plan → IsGoing plan → IsWhole given entry plan
whole-of given entry plan (Answers st fails is) goes = absurd (subst IsGoing is goes)
whole-of given entry plan (Plans whole) goes = whole

pub made-whole : (p : MadePlan) → IsJobsPlan p → IsGoing (plan_made p) → IsWhole p.given p.job.sqe (plan_made p)
made-whole p is goes = whole-of p.given p.job.sqe (plan_made p) (plan_over-is p.given p.job.sqe p.job.reads (plan_made p) (made-said p is)) goes

-- one that has shares goes
going : (given : Guest) (entry : List ℕ) (plan : Plan) (part : ℕ) (share : Share) → slice_get (shares_of given.namespace entry plan) part ≡ Some share
    → IsGoing plan
going given entry (Answer st) part share at = cc
going given entry (NoData work) part share at = tt
going given entry (Direct work) part share at = tt
going given entry (Bounced work) part share at = tt

-- ---- by the kind of a plan

with-direct : (plan : Plan) (own : Work) → kind_of plan ≡ kind.Direct → with_work plan own ≡ Direct own
with-direct (Answer st) own e = cc
with-direct (NoData work) own e = cc
with-direct (Direct work) own e = refl
with-direct (Bounced work) own e = cc

with-bounced : (plan : Plan) (own : Work) → kind_of plan ≡ kind.Bounced → with_work plan own ≡ Bounced own
with-bounced (Answer st) own e = cc
with-bounced (NoData work) own e = cc
with-bounced (Direct work) own e = cc
with-bounced (Bounced work) own e = refl

with-no_data : (plan : Plan) (own : Work) → kind_of plan ≡ kind.NoData → with_work plan own ≡ NoData own
with-no_data (Answer st) own e = cc
with-no_data (NoData work) own e = refl
with-no_data (Direct work) own e = cc
with-no_data (Bounced work) own e = cc

-- ---- by the form of a command

-- a direct plan is of blocks, whose places fit
go-direct : (form : Form) (regions : List Region) (work : Work) → kind_of (go_plan form regions work) ≡ kind.Direct
    → (dest : Bool) × ((form ≡ Transfer dest) × (places_fit regions work.pieces ≡ true))
go-direct (Transfer dest) regions work is =
    (elim (places_fit regions work.pieces) as (λ b. places_fit regions work.pieces ≡ b → kind_of (transfer_plan b work) ≡ kind.Direct
    → (to : Bool) × ((Transfer dest ≡ Transfer to) × (places_fit regions work.pieces ≡ true))) [
      | true ↦ λ fits e. (dest, (refl, fits))
      | false ↦ λ fits e. cc
    ]) refl is
go-direct Clear regions work e = cc
go-direct Manage regions work e = cc
go-direct Keep regions work e = cc

-- a bounced one has a buffer
go-bounced : (form : Form) (regions : List Region) (work : Work) → kind_of (go_plan form regions work) ≡ kind.Bounced → form_has_buffer form ≡ true
go-bounced (Transfer dest) regions work e = refl
go-bounced Clear regions work e = cc
go-bounced Manage regions work e = refl
go-bounced Keep regions work e = cc

-- ---- the pieces of a source

-- a share's own work has runs
abbrev HasRuns : Share → Type 0
HasRuns share = (own : Work) → work_of share.plan ≡ Some own → All IsRunPiece own.pieces

own-is : (plan : Plan) (work own : Work) → work_of (with_work plan work) ≡ Some own → work ≡ own
own-is (Answer st) work own e = cc
own-is (NoData whole) work own e = some-same work own e
own-is (Direct whole) work own e = some-same work own e
own-is (Bounced whole) work own e = some-same work own e

share-runs : (plan : Plan) (work : Work) (cut : Cut) → All IsRunPiece work.pieces → HasRuns (block_share plan work cut)
share-runs plan work cut runs own is =
    subst (λ (w : Work). All IsRunPiece w.pieces) (own-is plan (run_work work cut.first cut.count) own is)
    (cut-runs (block * cut.first) (block * cut.count) work.pieces runs)

shares-runs : (plan : Plan) (work : Work) (all : List Cut) → All IsRunPiece work.pieces → All HasRuns (map (block_share plan work) all)
shares-runs plan work all runs =
    All-map HasRuns (block_share plan work) all
    (All-weaker (Contains all) (λ cut. HasRuns (block_share plan work cut)) (λ cut among. share-runs plan work cut runs) all (All-contains_itself all))

by-form-runs : (form : Form) (dest : Bool) (guest : Guest) (entry : List ℕ) (plan : Plan) (work : Work) → form ≡ Transfer dest → All IsRunPiece work.pieces
    → All HasRuns (shares_by form guest.namespace entry plan work)
by-form-runs (Transfer to) dest guest entry plan work e runs = shares-runs plan work (cuts guest.namespace (slba_of entry) (count_of entry)) runs
by-form-runs Clear dest guest entry plan work e runs = cc
by-form-runs Manage dest guest entry plan work e runs = cc
by-form-runs Keep dest guest entry plan work e runs = cc

go-runs : (form : Form) (dest : Bool) (guest : Guest) (entry : List ℕ) (work : Work) → form_of work.opcode ≡ Transfer dest → All IsRunPiece work.pieces
    → All HasRuns (shares_of guest.namespace entry (go_plan form (regions_of guest) work))
go-runs (Transfer to) dest guest entry work e runs =
    elim (places_fit (regions_of guest) work.pieces) as (λ b. All HasRuns (shares_of guest.namespace entry (transfer_plan b work))) [
      | true ↦ by-form-runs (form_of work.opcode) dest guest entry (Direct work) work e runs
      | false ↦ by-form-runs (form_of work.opcode) dest guest entry (Bounced work) work e runs
    ]
go-runs Clear dest guest entry work e runs = by-form-runs (form_of work.opcode) dest guest entry (NoData work) work e runs
go-runs Manage dest guest entry work e runs = by-form-runs (form_of work.opcode) dest guest entry (Bounced work) work e runs
go-runs Keep dest guest entry work e runs = by-form-runs (form_of work.opcode) dest guest entry (NoData work) work e runs

-- ---- what is read of a plan that goes is read of its work

going-work : (plan : Plan) (own : Work) → IsGoing plan → work_of (with_work plan own) ≡ Some own
going-work (Answer st) own goes = absurd goes
going-work (NoData work) own goes = refl
going-work (Direct work) own goes = refl
going-work (Bounced work) own goes = refl

going-dwords : (plan : Plan) (own : Work) (ns : Namespace) (entry : List ℕ) → IsGoing plan
    → own_dwords (with_work plan own) ns entry ≡ work_dwords (form_of own.opcode) ns entry own
going-dwords (Answer st) own ns entry goes = absurd goes
going-dwords (NoData work) own ns entry goes = refl
going-dwords (Direct work) own ns entry goes = refl
going-dwords (Bounced work) own ns entry goes = refl

going-nothing : (plan : Plan) (own : Work) → IsGoing plan → is_no_plan (with_work plan own) ≡ is_no_work (form_of own.opcode) own
going-nothing (Answer st) own goes = absurd goes
going-nothing (NoData work) own goes = refl
going-nothing (Direct work) own goes = refl
going-nothing (Bounced work) own goes = refl

unbounced : (plan : Plan) (own : Work) (ns : Namespace) (guest : Guest) (host : ℕ → ℕ) → (kind_of plan ≡ kind.Bounced → ⊥)
    → own_bytes (with_work plan own) ns guest host ≡ []
unbounced (Answer st) own ns guest host other = refl
unbounced (NoData work) own ns guest host other = refl
unbounced (Direct work) own ns guest host other = refl
unbounced (Bounced work) own ns guest host other = absurd (other refl)

form-dwords : (form : Form) (ns : Namespace) (entry : List ℕ) (own : Work) → form_has_blocks form ≡ true
    → work_dwords form ns entry own ≡ two_dwords (place_in ns (first_lba own.units)) ++ (length own.units - 1 + 2 ^ 30 * bit (is_fua entry)) ∷ []
form-dwords (Transfer dest) ns entry own has = refl
form-dwords Clear ns entry own has = refl
form-dwords Manage ns entry own has = cc
form-dwords Keep ns entry own has = cc

form-something : (o : IoOpcode) (own : Work) → (o ≡ opcode.DatasetManagement → ⊥) → is_no_work (form_of o) own ≡ false
form-something opcode.Flush own other = refl
form-something opcode.Write own other = refl
form-something opcode.Read own other = refl
form-something opcode.Compare own other = refl
form-something opcode.WriteZeroes own other = refl
form-something opcode.DatasetManagement own other = absurd (other refl)

some-many : (n : ℕ) → (n == 0) ≡ false → 0 < n
some-many n some = (let other = eqb-false n 0 some in elim (cases_lt 0 n) [ inl is ↦ is | inr none ↦ absurd (other (omega (arith, none))) ])

flat-ranges : (ns : Namespace) (ranges : List (List ℕ))
    → flat_map (λ (r : List ℕ). r) (map (translated_range ns) ranges) ≡ flat_map (translated_range ns) ranges
flat-ranges ns [] = refl
flat-ranges ns (range ∷ ranges) = ap (λ (bytes : List ℕ). translated_range ns range ++ bytes) (flat-ranges ns ranges)

-- ---- a part

module _ (p : MadePlan) (part : ℕ) (share : Share) (is : IsJobsPlan p) (at : share_made part p ≡ Some share) where
  abbrev regions : List Region
  regions = regions_of p.given

  whole : IsWhole p.given p.job.sqe (plan_made p)
  whole = made-whole p is (going p.given p.job.sqe (plan_made p) part share at)

  pub planned : IsPlanned p.given p.job.sqe share
  planned = all-at (IsPlanned p.given p.job.sqe) (shares_made p) part share (shares-planned p.given p.job.sqe (plan_made p) whole) at

  of-whole : share.whole ≡ plan_made p
  of-whole = all-at (λ (s : Share). s.whole ≡ plan_made p) (shares_made p) part share (shares-whole p.given.namespace p.job.sqe (plan_made p)) at

  -- its own work
  pub is-own : IsOwn p.given p.job.sqe planned.work share
  is-own = own-of p.given p.job.sqe share planned

  abbrev pub own : Work
  own = is-own.own

  pub plan-is : share.plan ≡ with_work (plan_made p) own
  plan-is = is-own.plan_is ∙ ap (λ (q : Plan). with_work q own) of-whole

  -- the opcode of the whole
  pub known : io_opcode (opcode_of p.job.sqe) ≡ Some own.opcode
  known =
      (end-sound (mapped regions) p.given.limit (shape_of p.given).blocks p.job.sqe planned.work planned.verdict).opcode
      ∙ ap (λ (o : IoOpcode). Some o) (sym is-own.opcode)

  abbrev pub form : Form
  form = form_of planned.work.opcode

  abbrev pub own_form : Form
  own_form = form_of own.opcode

  pub own-form : own_form ≡ form
  own-form = ap form_of is-own.opcode

  -- the whole plan, by the form
  whole-plan : plan_made p ≡ go_plan form regions planned.work
  whole-plan = sym of-whole ∙ planned.whole_is

  -- how many bytes
  pub few : total_len own.pieces ≤ most_bytes
  unfolding is-own
  few = own-few p.given p.job.sqe share planned

  pub mapped-each : All (IsMappedPiece (mapped regions)) own.pieces
  mapped-each = is-own.mapped_each

  pub total-form : (f : Form) → form ≡ f → total_len own.pieces ≡ own_len f own
  total-form f e = is-own.total ∙ ap (λ (g : Form). own_len g own) e

  pub row : form_has_blocks form ≡ true → IsRow p.given.namespace (slba_of p.job.sqe) (count_of p.job.sqe) own.units
  row = is-own.blocks

  pub few-ranges : form ≡ Manage → length own.ranges ≤ 256
  unfolding is-own
  few-ranges e = ranges-few p.given p.job.sqe share planned e

  -- one that is direct
  pub direct : kind_of (plan_made p) ≡ kind.Direct
      → (share.plan ≡ Direct own) × ((dest : Bool) × ((form ≡ Transfer dest) × (places_fit regions own.pieces ≡ true)))
  direct e =
      let go = go-direct form regions planned.work (ap kind_of (sym whole-plan) ∙ e) in
      let total = (end-sound (mapped regions) p.given.limit (shape_of p.given).blocks p.job.sqe planned.work planned.verdict).total in
      let long : form_transfer_len form p.job.sqe ≡ form_transfer_len (Transfer go.0) p.job.sqe = ap (λ (f : Form). form_transfer_len f p.job.sqe) go.1.0 in (
        plan-is ∙ with-direct (plan_made p) own e,
        (go.0, (go.1.0, is-own.fits (omega (arith, total, long)) (ap form_has_blocks go.1.0) go.1.1)),
      )

  -- one that bounces
  pub bounced : kind_of (plan_made p) ≡ kind.Bounced → (share.plan ≡ Bounced own) × (form_has_buffer form ≡ true)
  bounced e = (plan-is ∙ with-bounced (plan_made p) own e, go-bounced form regions planned.work (ap kind_of (sym whole-plan) ∙ e))

  -- one without data
  pub no_data : kind_of (plan_made p) ≡ kind.NoData → share.plan ≡ NoData own
  no_data e = plan-is ∙ with-no_data (plan_made p) own e

  -- one that manages ranges bounces
  pub manages : form ≡ Manage → share.plan ≡ Bounced own
  manages e = plan-is ∙ with-bounced (plan_made p) own (ap kind_of whole-plan ∙ ap (λ (f : Form). kind_of (go_plan f regions planned.work)) e)

  -- a source has runs
  pub runs : form ≡ Transfer false → work_of share.plan ≡ Some own → All IsRunPiece own.pieces
  runs e is_work =
      let all = source-runs (mapped regions) p.given.limit (shape_of p.given).blocks p.job.sqe planned.work planned.verdict (ap form_is_read e) in
      All-contains HasRuns (shares_of p.given.namespace p.job.sqe share.whole) share
      (subst (λ (q : Plan). All HasRuns (shares_of p.given.namespace p.job.sqe q)) (sym planned.whole_is)
      (go-runs form false p.given p.job.sqe planned.work e all)) planned.is_share own is_work

  -- the plan of no part is an answer
  pub no-answer : (st : Status) → kind_of (plan_made p) ≡ kind.Answer st → ⊥
  no-answer st e = no-going (plan_made p) (going p.given p.job.sqe (plan_made p) part share at) e
    where
      no-going : (q : Plan) → IsGoing q → kind_of q ≡ kind.Answer st → ⊥
      no-going (Answer s) goes is = goes
      no-going (NoData work) goes is = cc
      no-going (Direct work) goes is = cc
      no-going (Bounced work) goes is = cc

  goes : IsGoing (plan_made p)
  goes = going p.given p.job.sqe (plan_made p) part share at

  -- ---- by the opcode

  pub opcode-is : (o : IoOpcode) → io_opcode (opcode_of p.job.sqe) ≡ Some o → own.opcode ≡ o
  opcode-is o e = some-same own.opcode o (sym known ∙ e)

  pub form-is : (o : IoOpcode) → io_opcode (opcode_of p.job.sqe) ≡ Some o → form ≡ form_of o
  form-is o e = sym own-form ∙ ap form_of (opcode-is o e)

  pub own-work : work_of share.plan ≡ Some own
  own-work = ap work_of plan-is ∙ going-work (plan_made p) own goes

  -- what is read of its plan is read of its work
  pub dwords-are : own_dwords share.plan p.given.namespace p.job.sqe ≡ work_dwords form p.given.namespace p.job.sqe own
  dwords-are =
      ap (λ (q : Plan). own_dwords q p.given.namespace p.job.sqe) plan-is ∙ going-dwords (plan_made p) own p.given.namespace p.job.sqe goes
      ∙ ap (λ (f : Form). work_dwords f p.given.namespace p.job.sqe own) own-form

  pub nothing-is : is_no_command share ≡ is_no_work form own
  nothing-is = ap is_no_plan plan-is ∙ going-nothing (plan_made p) own goes ∙ ap (λ (f : Form). is_no_work f own) own-form

  pub block-dwords : form_has_blocks form ≡ true
      → own_dwords share.plan p.given.namespace p.job.sqe
      ≡ two_dwords (place_in p.given.namespace (first_lba own.units)) ++ (length own.units - 1 + 2 ^ 30 * bit (is_fua p.job.sqe)) ∷ []
  block-dwords has = dwords-are ∙ form-dwords form p.given.namespace p.job.sqe own has

  -- ---- ranges

  pub ranges-are : form ≡ Manage → ranges_of p.given.namespace share.plan ≡ map (translated_range p.given.namespace) own.ranges
  ranges-are e = ap (ranges_of p.given.namespace) (manages e) ∙ ap (λ (f : Form). form_ranges f p.given.namespace own) (own-form ∙ e)

  pub ranges-count : form ≡ Manage → length (ranges_of p.given.namespace share.plan) ≡ length own.ranges
  ranges-count e = ap length (ranges-are e) ∙ length-map own.ranges (translated_range p.given.namespace)

  pub some-ranges : form ≡ Manage → is_no_command share ≡ false → 0 < length own.ranges
  some-ranges e some = some-many (length own.ranges) (sym (nothing-is ∙ ap (λ (f : Form). is_no_work f own) e) ∙ some)

  -- no other is without ranges
  pub something : (o : IoOpcode) → io_opcode (opcode_of p.job.sqe) ≡ Some o → (o ≡ opcode.DatasetManagement → ⊥) → is_no_command share ≡ false
  something o e other = nothing-is ∙ ap (λ (f : Form). is_no_work f own) (form-is o e) ∙ form-something o own other

  -- ---- transfers

  pub places-direct : kind_of (plan_made p) ≡ kind.Direct → places_in share.plan ≡ filter has_bytes own.pieces
  places-direct e = (let d = direct e in ap places_in d.0 ∙ ap (λ (f : Form). form_places f own) (own-form ∙ d.1.1.0))

  pub places-bounced : (dest : Bool) → kind_of (plan_made p) ≡ kind.Bounced → form ≡ Transfer dest → places_in share.plan ≡ filter has_bytes own.pieces
  places-bounced dest e f = ap places_in (bounced e).0 ∙ ap (λ (g : Form). form_places g own) (own-form ∙ f)

  -- one that bounces has bytes
  pub some-bytes : kind_of (plan_made p) ≡ kind.Bounced → is_no_command share ≡ false → 0 < total_len own.pieces
  some-bytes e some = by form refl (bounced e).1
    where
      by : (f : Form) → form ≡ f → form_has_buffer f ≡ true → 0 < total_len own.pieces
      by (Transfer dest) is has =
          (let long = total-form (Transfer dest) is in let units = (row (ap form_has_blocks is)).some in omega (arith, long, units))
      by Clear is has = cc
      by Manage is has = (let long = total-form Manage is in let ranges = some-ranges is some in omega (arith, long, ranges))
      by Keep is has = cc

  -- ---- the bounce pages

  pub source-bytes : (host : ℕ → ℕ) → kind_of (plan_made p) ≡ kind.Bounced → form ≡ Transfer false
      → own_bytes share.plan p.given.namespace p.given host ≡ gathered (image regions host) (places_of (places_in share.plan))
  source-bytes host e f =
      ap (λ (q : Plan). own_bytes q p.given.namespace p.given host) (bounced e).0
      ∙ ap (λ (g : Form). form_own_bytes g p.given.namespace p.given host own) (own-form ∙ f)
      ∙ ap (gathered (image regions host)) (sym (ap places_of (places-bounced false e f) ∙ filter-places own.pieces))

  pub range-bytes : (host : ℕ → ℕ) → form ≡ Manage
      → own_bytes share.plan p.given.namespace p.given host ≡ flat_map (λ (r : List ℕ). r) (ranges_of p.given.namespace share.plan)
  range-bytes host f =
      ap (λ (q : Plan). own_bytes q p.given.namespace p.given host) (manages f)
      ∙ ap (λ (g : Form). form_own_bytes g p.given.namespace p.given host own) (own-form ∙ f)
      ∙ sym (ap (λ (rs : List (List ℕ)). flat_map (λ (r : List ℕ). r) rs) (ranges-are f) ∙ flat-ranges p.given.namespace own.ranges)

  -- nothing stands there
  pub no-bytes : (host : ℕ → ℕ) → (kind_of (plan_made p) ≡ kind.Bounced → ⊥) → own_bytes share.plan p.given.namespace p.given host ≡ []
  no-bytes host other =
      ap (λ (q : Plan). own_bytes q p.given.namespace p.given host) plan-is ∙ unbounced (plan_made p) own p.given.namespace p.given host other

  pub other-bytes : (host : ℕ → ℕ) → kind_of (plan_made p) ≡ kind.Bounced → (f : Form) → form ≡ f
      → form_own_bytes f p.given.namespace p.given host own ≡ [] → own_bytes share.plan p.given.namespace p.given host ≡ []
  other-bytes host e f is none =
      ap (λ (q : Plan). own_bytes q p.given.namespace p.given host) (bounced e).0
      ∙ ap (λ (g : Form). form_own_bytes g p.given.namespace p.given host own) (own-form ∙ is) ∙ none

  -- ---- no transfer

  pub names-nothing : (bounce : ℕ) → ((st : Status) × (kind_of (plan_made p) ≡ kind.Answer st)) ⊎ (kind_of (plan_made p) ≡ kind.NoData)
      → addresses_of share.plan p.given bounce ≡ []
  names-nothing bounce (inl answer) = absurd (no-answer answer.0 answer.1)
  names-nothing bounce (inr none) = ap (λ (q : Plan). addresses_of q p.given bounce) (no_data none)
