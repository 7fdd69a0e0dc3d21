-- What each part of a made plan is of the whole: its blocks, its bytes and its ranges.
use Rattle.std.proofs.Common.{◌≡◌, ℕ, zero, suc, ◌+◌, ◌-◌, ◌*◌, ◌<◌, ◌≤◌, Bool, true, false, cond, List, [], ◌∷◌, ◌++◌, length, slice_get}
use Rattle.std.proofs.Common.{Option, Some, None, refl, ap, sym, subst, ◌∙◌, arith}
use Rattle.std.specs.List.{filter}
use Rattle.std.proofs.lemmas.Bool.Decides.{nat_tests}
use Rattle.nv_entry.specs.Opcode.{io_opcode}
use Rattle.nv_entry.specs.Status.{StatusField}
use Rattle.nv_entry.specs.Submission.{opcode_of, slba_of}
use Rattle.nv_entry.specs.declared.opcode.IoOpcode.{IoOpcode}
use Rattle.nv_entry.specs.declared.opcode.IoOpcode.TheVariants as opcode
use Rattle.nv_entry.specs.declared.status_code.StatusCode.{StatusCode}
use Rattle.nv_judge.proofs.FieldLemmas.{count-at_most}
use Rattle.nv_mem.specs.GuestMap.{mapped}
use Rattle.nv_mem.specs.Places.{Place, piece_len, places_of, places_of_piece, total_len}
use Rattle.nv_mem.specs.declared.piece.Piece.{Piece}
use Rattle.nv_mem.specs.declared.piece.Piece.TheVariants as piece
use Rattle.nv_mem.specs.declared.region.Region.{Region}
use Rattle.nv_mem.proofs.PlaceLists.{length-places_of, length-places_of_piece}
use Rattle.nv_ns.specs.BlockRange.{in_namespace}
use Rattle.nv_ns.proofs.Ranges.{in_namespace-true}
use Rattle.nv_ns.specs.Extents.{Cut, Namespace, Placed, blocks_in, cuts, place_in, placed}
use Rattle.nv_model.specs.Endings.{MayEndIn}
use Rattle.nv_model.specs.Judge.{Clear, Form, Go, Keep, Manage, Refuse, Transfer, Work}
use Rattle.nv_model.specs.Judge.{count_of, field_refusal, form_has_blocks, form_of, form_transfer_len, form_units, has_blocks, has_buffer}
use Rattle.nv_model.specs.Judge.{is_fua, judge}
use Rattle.nv_model.proofs.InParts.{ranges-short}
use Rattle.nv_model.proofs.JudgeCases.{judge-refused}
use Rattle.nv_model.proofs.Judged.{IsSoundWork}
use Rattle.nv_prp.specs.Fits.{places_fit}
use Rattle.nv_world_model.specs.Geometry.{Guest, regions_of, shape_of}
use Rattle.nv_world_model.specs.Plan.{Answer, Bounced, Direct, NoData, Plan, go_plan, transfer_plan}
use Rattle.nv_world_model.specs.Seat.{work_of}
use Rattle.nv_world_model.specs.Share.{Share, cut_pieces, numbers_met, ranges_met, shares_by, units_at, with_work}
use Rattle.nv_world_model.specs.ShareArea.{first_lba}
use Rattle.nv_world_model.proofs.CutPieces.{cut-total}
use Rattle.nv_world_model.proofs.OneExtent.{IsRun, IsRun-clear, IsRun-transfer}
use Rattle.nv_world_model.proofs.RangeCuts.{ranges_met-few}
use Rattle.nv_world_model.proofs.ShareParts.{run_work}
use Rattle.nv_world_model.proofs.ShareUnits.{IsFrom, clears-from, moves-from, units_at-lba, units-size}
use Rattle.nv_plan.specs.Made.{IsJobsPlan, MadePlan, plan_made, share_made, shares_made}
use Rattle.nv_plan.specs.Parts.{form_places, form_ranges, has_bytes, len_in, places_in, ranges_of}
use Rattle.nv_plan.proofs.MadeShares.{IsGoing, cut-names, cut-some, each-share, made-part, work-go}

-- ---- pieces that have bytes

-- pieces without bytes name no places
no-places : (places : List Place) → length places ≡ 0 → places ≡ []
no-places [] none = refl
no-places (p ∷ ps) none = absurd (omega arith)

filter-place : (p : Piece) (ps : List Piece) → places_of (filter has_bytes ps) ≡ places_of ps
    → places_of (filter has_bytes (p ∷ ps)) ≡ places_of (p ∷ ps)
filter-place p ps rest = by_test (has_bytes p) refl
  where
    by_test : (b : Bool) → has_bytes p ≡ b → places_of (cond b (p ∷ filter has_bytes ps) (filter has_bytes ps)) ≡ places_of (p ∷ ps)
    by_test true is = ap (λ (xs : List Place). places_of_piece p ++ xs) rest
    by_test false is =
        let size = length-places_of_piece p in
        let none : piece_len p ≡ 0 = grind (arith, nat_tests) in
        rest ∙ sym (ap (λ (xs : List Place). xs ++ places_of ps) (no-places (places_of_piece p) (omega arith)))

pub filter-places : (pieces : List Piece) → places_of (filter has_bytes pieces) ≡ places_of pieces
filter-places [] = refl
filter-places (p ∷ ps) = filter-place p ps (filter-places ps)

pub filter-total : (pieces : List Piece) → total_len (filter has_bytes pieces) ≡ total_len pieces
filter-total pieces = sym (length-places_of (filter has_bytes pieces)) ∙ ap length (filter-places pieces) ∙ length-places_of pieces

-- ---- what a part is

-- of a run of blocks: those of a cut
pub record IsCutPart (ns : Namespace) (entry : List ℕ) (work : Work) (part : ℕ) (own : Work) : Type 0 where
  pub cut : Cut
  pub there : slice_get (cuts ns (slba_of entry) (count_of entry)) part ≡ Some cut
  pub size : length own.units ≡ cut.count
  pub some : 0 < cut.count
  pub within : cut.first + cut.count ≤ count_of entry
  pub place : place_in ns (first_lba own.units) ≡ cut.start
  pub pieces : own.pieces ≡ cut_pieces (512 * cut.first) (512 * cut.count) work.pieces

-- of a Dataset Management: what an extent has of the ranges
pub record IsMetPart (ns : Namespace) (work : Work) (part : ℕ) (own : Work) : Type 0 where
  pub at : Placed
  pub there : slice_get (placed 0 ns) part ≡ Some at
  pub ranges : own.ranges ≡ ranges_met part at work.ranges
  pub pieces : own.pieces ≡ cut_pieces 0 (16 * length own.ranges) work.pieces

abbrev pub OwnBy : Form → Namespace → (entry : List ℕ) → Work → (part : ℕ) → Work → Type 0
OwnBy (Transfer dest) ns entry work part own = IsCutPart ns entry work part own
OwnBy Clear ns entry work part own = IsCutPart ns entry work part own
OwnBy Manage ns entry work part own = IsMetPart ns work part own
OwnBy Keep ns entry work part own = own ≡ work

-- a share of a going plan, with its own work
pub record IsOwn (given : Guest) (entry : List ℕ) (plan : Plan) (work : Work) (part : ℕ) (share : Share) : Type 0 where
  pub own : Work
  pub plan_is : share.plan ≡ with_work plan own
  pub opcode : own.opcode ≡ work.opcode
  pub by_form : OwnBy (form_of work.opcode) given.namespace entry work part own

-- a unit stands for each block of a command that names blocks
units-from : (form : Form) (blocks : ℕ) (entry : List ℕ) (work : Work) → form_has_blocks form ≡ true
    → work.units ≡ form_units form blocks entry work.ranges → IsFrom (slba_of entry) (count_of entry) work.units
units-from (Transfer dest) blocks entry work has units = moves-from (slba_of entry) (count_of entry) work.units units
units-from Clear blocks entry work has units = clears-from (is_fua entry) (slba_of entry) (count_of entry) work.units units
units-from Manage blocks entry work has units = absurd (cc)
units-from Keep blocks entry work has units = absurd (cc)

cut-part : (form : Form) (ns : Namespace) (entry : List ℕ) (work : Work) (part : ℕ) (cut : Cut) → form_has_blocks form ≡ true
    → work.units ≡ form_units form (blocks_in ns) entry work.ranges → slice_get (cuts ns (slba_of entry) (count_of entry)) part ≡ Some cut
    → IsCutPart ns entry work part (run_work work cut.first cut.count)
cut-part form ns entry work part cut has units there =
    let names = cut-names ns (slba_of entry) (count_of entry) part cut there in
    let some = cut-some ns (slba_of entry) (count_of entry) part cut there in
    let from = units-from form (blocks_in ns) entry work has units in
    let all = from.size in
    let within = names.0 in
    let head = from.at cut.first (omega (arith, within, some)) in
    record {
      cut = cut;
      there = there;
      size = units-size cut.first cut.count work.units (omega (arith, within, all));
      some = some;
      within = within;
      place =
          (let none : slba_of entry + cut.first ≡ slba_of entry + (cut.first + 0) = omega arith in
          let start : cut.start + 0 ≡ cut.start = omega arith in
          ap (place_in ns) (units_at-lba cut.first cut.count (slba_of entry + cut.first) work.units head.0 some head.1.0 head.1.1 ∙ none)
          ∙ names.1 0 some ∙ start);
      pieces = refl;
    }

by-blocks : (form : Form) (ns : Namespace) (entry : List ℕ) (work own : Work) (part : ℕ) → form_has_blocks form ≡ true
    → IsCutPart ns entry work part own → OwnBy form ns entry work part own
by-blocks (Transfer dest) ns entry work own part has is = is
by-blocks Clear ns entry work own part has is = is
by-blocks Manage ns entry work own part has is = absurd (cc)
by-blocks Keep ns entry work own part has is = absurd (cc)

by-ranges : (form : Form) (ns : Namespace) (entry : List ℕ) (work own : Work) (part : ℕ) → form ≡ Manage
    → IsMetPart ns work part own → OwnBy form ns entry work part own
by-ranges form ns entry work own part same is = subst (λ (f : Form). OwnBy f ns entry work part own) (sym same) is

by-whole : (form : Form) (ns : Namespace) (entry : List ℕ) (work : Work) (part : ℕ) → form ≡ Keep → OwnBy form ns entry work part work
by-whole form ns entry work part same = subst (λ (f : Form). OwnBy f ns entry work part work) (sym same) refl

pub with-whole : (form : Form) (regions : List Region) (work : Work) → go_plan form regions work ≡ with_work (go_plan form regions work) work
with-whole (Transfer dest) regions work =
    elim (places_fit regions work.pieces) as (λ b. transfer_plan b work ≡ with_work (transfer_plan b work) work) [ true ↦ refl | false ↦ refl ]
with-whole Clear regions work = refl
with-whole Manage regions work = refl
with-whole Keep regions work = refl

pub own-part : (given : Guest) (entry : List ℕ) (plan : Plan) (work : Work) (part : ℕ) (share : Share) → IsGoing given entry plan work
    → slice_get (shares_by (form_of work.opcode) given.namespace entry plan work) part ≡ Some share → IsOwn given entry plan work part share
own-part given entry plan work part share goes there =
    each-share (IsOwn given entry plan work part) (form_of work.opcode) given.namespace entry plan work part share there
    (λ has cut at. record {
      own = run_work work cut.first cut.count;
      plan_is = refl;
      opcode = refl;
      by_form =
          by-blocks (form_of work.opcode) given.namespace entry work (run_work work cut.first cut.count) part has
          (cut-part (form_of work.opcode) given.namespace entry work part cut has goes.sound.units at);
    })
    (λ form at meets. (let own : Work = record work {
      pieces = cut_pieces 0 (16 * length (ranges_met part at work.ranges)) work.pieces;
      ranges = ranges_met part at work.ranges;
      units = units_at 0 work.units (numbers_met 0 at work.ranges);
    } in
    record {
      own = own;
      plan_is = refl;
      opcode = refl;
      by_form = by-ranges (form_of work.opcode) given.namespace entry work own part form (record { at = at; there = meets; ranges = refl; pieces = refl });
    }))
    (λ form. record {
      own = work;
      plan_is = subst (λ (p : Plan). p ≡ with_work p work) (sym goes.is) (with-whole (form_of work.opcode) (regions_of given) work);
      opcode = refl;
      by_form = by-whole (form_of work.opcode) given.namespace entry work part form;
    })

-- of a made plan
pub record IsMadePart (p : MadePlan) (part : ℕ) (share : Share) : Type 0 where
  pub work : Work
  pub goes : IsGoing p.given p.job.sqe (plan_made p) work
  pub part_is : IsOwn p.given p.job.sqe (plan_made p) work part share

pub made-own : (p : MadePlan) (part : ℕ) (share : Share) → IsJobsPlan p → share_made part p ≡ Some share → IsMadePart p part share
made-own p part share is there =
    let at = made-part p part share is there in
    record { work = at.work; goes = at.goes; part_is = own-part p.given p.job.sqe (plan_made p) at.work part share at.goes at.there }

-- ---- what is told of it

pub work-with : (plan : Plan) (work own : Work) → work_of plan ≡ Some work → work_of (with_work plan own) ≡ Some own
work-with (Answer st) work own is = absurd (cc)
work-with (NoData whole) work own is = refl
work-with (Direct whole) work own is = refl
work-with (Bounced whole) work own is = refl

pub own-work : (given : Guest) (entry : List ℕ) (plan : Plan) (work : Work) (part : ℕ) (share : Share) (other : Work) → IsGoing given entry plan work
    → (o : IsOwn given entry plan work part share) → work_of share.plan ≡ Some other → o.own ≡ other
own-work given entry plan work part share other goes o is =
    some_same o.own other (sym (ap work_of o.plan_is ∙ work-with plan work o.own (ap work_of goes.is ∙ work-go (form_of work.opcode) (regions_of given) work)) ∙ is)
  where
    some_same : (a b : Work) → Some a ≡ Some b → a ≡ b
    some_same a b e = cc

own-places : (form : Form) (regions : List Region) (work own : Work) → form_of own.opcode ≡ form
    → places_in (with_work (go_plan form regions work) own) ≡ form_places form own
own-places (Transfer dest) regions work own is =
    elim (places_fit regions work.pieces) as (λ b. places_in (with_work (transfer_plan b work) own) ≡ filter has_bytes own.pieces) [
      | true ↦ ap (λ (f : Form). form_places f own) is
      | false ↦ ap (λ (f : Form). form_places f own) is
    ]
own-places Clear regions work own is = refl
own-places Manage regions work own is = ap (λ (f : Form). form_places f own) is
own-places Keep regions work own is = refl

pub part-places : (p : MadePlan) (part : ℕ) (share : Share) (m : IsMadePart p part share)
    → places_in share.plan ≡ form_places (form_of m.work.opcode) m.part_is.own
part-places p part share m =
    ap places_in (m.part_is.plan_is ∙ ap (λ (plan : Plan). with_work plan m.part_is.own) m.goes.is)
    ∙ own-places (form_of m.work.opcode) (regions_of p.given) m.work m.part_is.own (ap form_of m.part_is.opcode)

pub own-ranges : (form : Form) (regions : List Region) (ns : Namespace) (work own : Work) → form_of own.opcode ≡ form
    → ranges_of ns (with_work (go_plan form regions work) own) ≡ form_ranges form ns own
own-ranges (Transfer dest) regions ns work own is =
    elim (places_fit regions work.pieces) as (λ b. ranges_of ns (with_work (transfer_plan b work) own) ≡ []) [
      | true ↦ refl
      | false ↦ ap (λ (f : Form). form_ranges f ns own) is
    ]
own-ranges Clear regions ns work own is = refl
own-ranges Manage regions ns work own is = ap (λ (f : Form). form_ranges f ns own) is
own-ranges Keep regions ns work own is = refl

pub part-ranges : (p : MadePlan) (part : ℕ) (share : Share) (m : IsMadePart p part share)
    → ranges_of p.given.namespace share.plan ≡ form_ranges (form_of m.work.opcode) p.given.namespace m.part_is.own
part-ranges p part share m =
    ap (ranges_of p.given.namespace) (m.part_is.plan_is ∙ ap (λ (plan : Plan). with_work plan m.part_is.own) m.goes.is)
    ∙ own-ranges (form_of m.work.opcode) (regions_of p.given) p.given.namespace m.work m.part_is.own (ap form_of m.part_is.opcode)

-- how many bytes a work of that form has
abbrev pub form_len : Form → Work → ℕ
form_len (Transfer dest) own = total_len own.pieces
form_len Clear own = 0
form_len Manage own = total_len own.pieces
form_len Keep own = 0

own-len : (form : Form) (regions : List Region) (work own : Work) → len_in (with_work (go_plan form regions work) own) ≡ form_len form own
own-len (Transfer dest) regions work own =
    elim (places_fit regions work.pieces) as (λ b. len_in (with_work (transfer_plan b work) own) ≡ total_len own.pieces) [ true ↦ refl | false ↦ refl ]
own-len Clear regions work own = refl
own-len Manage regions work own = refl
own-len Keep regions work own = refl

pub part-len : (p : MadePlan) (part : ℕ) (share : Share) (m : IsMadePart p part share) → len_in share.plan ≡ form_len (form_of m.work.opcode) m.part_is.own
part-len p part share m =
    ap len_in (m.part_is.plan_is ∙ ap (λ (plan : Plan). with_work plan m.part_is.own) m.goes.is)
    ∙ own-len (form_of m.work.opcode) (regions_of p.given) m.work m.part_is.own

-- ---- how long it is

-- a command that goes is not refused by its fields
unrefused-by : (given : Guest) (entry : List ℕ) (work : Work) (refusal : Option StatusCode)
    → field_refusal (blocks_in given.namespace) entry ≡ refusal
    → MayEndIn (judge (shape_of given).mapped given.limit (blocks_in given.namespace) entry) (Go work)
    → field_refusal (blocks_in given.namespace) entry ≡ None
unrefused-by given entry work None is may = is
unrefused-by given entry work (Some code) is may =
    absurd (refused (subst (λ d. MayEndIn d (Go work)) (judge-refused (shape_of given).mapped given.limit (blocks_in given.namespace) entry code is) may))
  where
    refused : {st : StatusField} → Refuse st ≡ Go work → ⊥
    refused e = (cc)

transfer-fields : (o : IoOpcode) (dest : Bool) → form_of o ≡ Transfer dest → (has_buffer o ≡ true) × (has_blocks o ≡ true)
transfer-fields opcode.Flush dest e = absurd (cc)
transfer-fields opcode.WriteZeroes dest e = absurd (cc)
transfer-fields opcode.DatasetManagement dest e = absurd (cc)
transfer-fields opcode.Read dest e = (refl, refl)
transfer-fields opcode.Write dest e = (refl, refl)
transfer-fields opcode.Compare dest e = (refl, refl)

-- a transfer has no more blocks than one may have
pub going-short : (given : Guest) (entry : List ℕ) (plan : Plan) (work : Work) (dest : Bool) → IsGoing given entry plan work
    → form_of work.opcode ≡ Transfer dest → count_of entry ≤ 256
going-short given entry plan work dest goes form =
    let fields = transfer-fields work.opcode dest form in
    count-at_most (blocks_in given.namespace) entry work.opcode
    (unrefused-by given entry work (field_refusal (blocks_in given.namespace) entry) refl goes.may) goes.sound.opcode fields.0 fields.1

-- a part of a transfer of blocks has its blocks' bytes
pub record HasLen (count : ℕ) (own : Work) : Type 0 where
  pub total : total_len own.pieces ≡ 512 * length own.units
  pub some : 0 < length own.units
  pub most : length own.units ≤ count

pub cut-len : (given : Guest) (entry : List ℕ) (plan : Plan) (work own : Work) (part : ℕ) (dest : Bool) → IsGoing given entry plan work
    → form_of work.opcode ≡ Transfer dest → IsCutPart given.namespace entry work part own → HasLen (count_of entry) own
cut-len given entry plan work own part dest goes form c =
    let bytes = goes.sound.total ∙ ap (λ (f : Form). form_transfer_len f entry) form in
    let all = ap total_len c.pieces ∙ cut-total (512 * c.cut.first) (512 * c.cut.count) work.pieces in
    let size = c.size in
    let within = c.within in
    let some = c.some in
    record { total = omega (arith, bytes, all, size, within); some = omega arith; most = omega arith }

pub met-len : (given : Guest) (entry : List ℕ) (plan : Plan) (work own : Work) (part : ℕ) → IsGoing given entry plan work
    → form_of work.opcode ≡ Manage → IsMetPart given.namespace work part own
    → (total_len own.pieces ≡ 16 * length own.ranges) × (16 * length own.ranges ≤ 4096)
met-len given entry plan work own part goes form c =
    let bytes = goes.sound.total ∙ ap (λ (f : Form). form_transfer_len f entry) form in
    let counted = goes.sound.counted form in
    let few = ranges_met-few part c.at work.ranges in
    let same = ap (λ (rs : List (List ℕ)). length rs) c.ranges in
    let all = ap total_len c.pieces ∙ cut-total 0 (16 * length own.ranges) work.pieces in
    let short = ranges-short entry in
    (omega (arith, bytes, counted, few, same, all), omega (arith, counted, few, same, short))

-- ---- the blocks of a part

some-at : {A : Type 0} (xs : List A) (k : ℕ) → k < length xs → (x : A) × (slice_get xs k ≡ Some x)
some-at [] k below = absurd (omega arith)
some-at (x ∷ xs) zero below = (x, refl)
some-at (x ∷ xs) (suc k) below = some-at xs k (omega arith)

-- there is a share for each number below that of the shares
pub share-at : (p : MadePlan) (part : ℕ) → part < length (shares_made p) → (share : Share) × (share_made part p ≡ Some share)
share-at p part below = some-at (shares_made p) part below

cut-of : (form : Form) (ns : Namespace) (entry : List ℕ) (work own : Work) (part : ℕ) → form_has_blocks form ≡ true
    → OwnBy form ns entry work part own → IsCutPart ns entry work part own
cut-of (Transfer dest) ns entry work own part has is = is
cut-of Clear ns entry work own part has is = is
cut-of Manage ns entry work own part has is = absurd (cc)
cut-of Keep ns entry work own part has is = absurd (cc)

-- a command that names blocks
abbrev pub NamesRun : MadePlan → Type 0
NamesRun p = (o : IoOpcode) → io_opcode (opcode_of p.job.sqe) ≡ Some o → has_blocks o ≡ true

pub blocks-own : (p : MadePlan) (part : ℕ) (share : Share) → IsJobsPlan p → share_made part p ≡ Some share → NamesRun p
    → (m : IsMadePart p part share) × IsCutPart p.given.namespace p.job.sqe m.work part m.part_is.own
blocks-own p part share is there has =
    let m = made-own p part share is there in (
      m,
      cut-of (form_of m.work.opcode) p.given.namespace p.job.sqe m.work m.part_is.own part (has m.work.opcode m.goes.sound.opcode) m.part_is.by_form,
    )

run-of : (form : Form) (given : Guest) (entry : List ℕ) (work : Work) → form_of work.opcode ≡ form → form_has_blocks form ≡ true
    → IsSoundWork (mapped (regions_of given)) (blocks_in given.namespace) entry work → IsRun (blocks_in given.namespace) entry work
run-of (Transfer dest) given entry work form has sound = IsRun-transfer dest (mapped (regions_of given)) (blocks_in given.namespace) entry work sound form
run-of Clear given entry work form has sound = IsRun-clear (mapped (regions_of given)) (blocks_in given.namespace) entry work sound form
run-of Manage given entry work form has sound = absurd (cc)
run-of Keep given entry work form has sound = absurd (cc)

-- they lie in the namespace
pub blocks-inside : (p : MadePlan) (part : ℕ) → IsJobsPlan p → part < length (shares_made p) → NamesRun p
    → in_namespace (slba_of p.job.sqe) (count_of p.job.sqe) (blocks_in p.given.namespace) ≡ true
blocks-inside p part is below has =
    let at = share-at p part below in
    let m = made-own p part at.0 is at.1 in
    let run = run-of (form_of m.work.opcode) p.given p.job.sqe m.work refl (has m.work.opcode m.goes.sound.opcode) m.goes.sound in
    let within = run.within in
    in_namespace-true (slba_of p.job.sqe) (count_of p.job.sqe) (blocks_in p.given.namespace) (omega arith, omega arith)

-- there is a cut for the part
pub blocks-cut : (p : MadePlan) (part : ℕ) → IsJobsPlan p → part < length (shares_made p) → NamesRun p
    → (cut : Cut) × (slice_get (cuts p.given.namespace (slba_of p.job.sqe) (count_of p.job.sqe)) part ≡ Some cut)
blocks-cut p part is below has =
    let at = share-at p part below in
    let own = (blocks-own p part at.0 is at.1 has).1 in (own.cut, own.there)

-- and it has its blocks
pub blocks-told : (p : MadePlan) (part : ℕ) (share : Share) (work : Work) (cut : Cut) → IsJobsPlan p → share_made part p ≡ Some share
    → work_of share.plan ≡ Some work → NamesRun p
    → slice_get (cuts p.given.namespace (slba_of p.job.sqe) (count_of p.job.sqe)) part ≡ Some cut
    → (cut.start ≡ place_in p.given.namespace (first_lba work.units)) × (cut.count ≡ length work.units)
blocks-told p part share work cut is there works has meets =
    let m = blocks-own p part share is there has in
    let one = own-work p.given p.job.sqe (plan_made p) m.0.work part share work m.0.goes m.0.part_is works in
    let same : m.1.cut ≡ cut = some_same m.1.cut cut (sym m.1.there ∙ meets) in (
      sym (ap (λ (c : Cut). c.start) same) ∙ sym m.1.place ∙ ap (λ (w : Work). place_in p.given.namespace (first_lba w.units)) one,
      sym (ap (λ (c : Cut). c.count) same) ∙ sym m.1.size ∙ ap (λ (w : Work). length w.units) one,
    )
  where
    some_same : (a b : Cut) → Some a ≡ Some b → a ≡ b
    some_same a b e = cc

pub blocks-few : (p : MadePlan) (part : ℕ) (cut : Cut) → slice_get (cuts p.given.namespace (slba_of p.job.sqe) (count_of p.job.sqe)) part ≡ Some cut
    → cut.count ≤ count_of p.job.sqe
blocks-few p part cut meets =
    let within = (cut-names p.given.namespace (slba_of p.job.sqe) (count_of p.job.sqe) part cut meets).0 in omega arith
