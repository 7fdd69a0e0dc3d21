-- Every share of a plan, of each form, is a part of the whole.
use Rattle.std.proofs.Common.{◌≡◌, ℕ, zero, suc, ◌+◌, ◌*◌, ◌<◌, ◌≤◌, Bool, true, false, List, [], ◌∷◌, map, length, get_or, Option, Some, refl}
use Rattle.std.proofs.Common.{ap, sym, ◌∙◌, subst, arith}
use Rattle.std.specs.List.{All, cons_option, enumerate_from, range_with_len, slice_get}
use Rattle.std.specs.Option.{option_map}
use Rattle.std.proofs.lemmas.List.Elements.{All-append, All-cons, All-head, All-map, All-nil, All-tail, All-weaker}
use Rattle.std.proofs.lemmas.List.FromFn.{length-range_with_len}
use Rattle.std.proofs.lemmas.List.Sums.{sum_by-cons}
use Rattle.std.proofs.lemmas.Option.{slice_get-get_or, slice_get_within}
use Rattle.nv_entry.specs.Range.{blocks_of, start_of}
use Rattle.nv_entry.specs.Submission.{slba_of}
use Rattle.nv_entry.specs.declared.opcode.IoOpcode.{IoOpcode}
use Rattle.nv_entry.specs.declared.opcode.IoOpcode.TheVariants.{Compare, DatasetManagement, Flush, Read, Write, WriteZeroes}
use Rattle.nv_mem.specs.declared.region.Region.{Region}
use Rattle.nv_ns.specs.Extents.{Cut, Namespace, Placed, blocks_in, common, cuts, placed}
use Rattle.nv_ns.specs.Laws.{NamesBlocks}
use Rattle.nv_ns.proofs.Spelled.{cuts-name}
use Rattle.nv_model.specs.Judge.{ClearBlock, Clear, Form, Go, KeepAll, Keep, LeaveBlock, Manage, MoveBlock, Transfer, Work, WorkUnit, count_of}
use Rattle.nv_model.specs.Judge.{form_of, form_units, is_fua}
use Rattle.nv_model.specs.Limits.{range_size}
use Rattle.nv_model.specs.Private.{block_moved, numbers_of}
use Rattle.nv_model.proofs.Judged.{IsSoundWork}
use Rattle.nv_prp.specs.Fits.{places_fit}
use Rattle.nv_world_model.specs.Plan.{Bounced, Direct, NoData, Plan, go_plan, plan_of, transfer_plan}
use Rattle.nv_world_model.specs.Seat.{work_of}
use Rattle.nv_world_model.specs.Share.{block_share, cut_pieces, numbers_met, range_share, ranges_met, shares_by, shares_of, unit_behind}
use Rattle.nv_world_model.specs.Share.{units_at, whole_share, with_work}
use Rattle.nv_world_model.specs.SharesLaws.{IsPartOf, IsShareOf, MovesAlike}
use Rattle.nv_world_model.proofs.OneExtent.{IsSoundWork-counts}
use Rattle.nv_world_model.proofs.ShareNumbers.{all_blocks}
use Rattle.nv_world_model.proofs.ShareParts.{clear-alike, leave-alike, range-get, run_part-clear, run_part-transfer, run_work}
use Rattle.nv_world_model.proofs.ShareUnits.{unit_behind-none}

-- a plan of a work has that work
OfWork : Plan → Type 0
OfWork plan = (own : Work) → work_of (with_work plan own) ≡ Some own

-- ---- runs of blocks

run_shares : (plan : Plan) (work : Work) (ns : Namespace) (slba count : ℕ) → OfWork plan
    → ((cut : Cut) → cut.first + cut.count ≤ count → IsPartOf work (run_work work cut.first cut.count) (range_with_len cut.first cut.count))
    → All (IsShareOf work) (map (block_share plan work) (cuts ns slba count))
unfolding OfWork
run_shares plan work ns slba count of part =
    All-map (IsShareOf work) (block_share plan work) (cuts ns slba count)
    (All-weaker (NamesBlocks ns slba count) (λ (cut : Cut). IsShareOf work (block_share plan work cut))
    (λ cut names. (run_work work cut.first cut.count, (of (run_work work cut.first cut.count), part cut names.0)))
    (cuts ns slba count) (cuts-name ns slba count))

-- ---- ranges

-- what numbers that are there pick
units_at-get : (first : ℕ) (units : List WorkUnit) (numbers : List ℕ) (k number : ℕ) → All (λ (n : ℕ). n < length units) numbers
    → slice_get numbers k ≡ Some number → slice_get (units_at first units numbers) k ≡ option_map (unit_behind first) (slice_get units number)
units_at-get first units [] k number each is = absurd (cc)
units_at-get first units (n ∷ rest) zero number each is =
    let d : WorkUnit = KeepAll 0 in
    let got = slice_get-get_or units n d (All-head (λ (m : ℕ). m < length units) n rest each) in
    let same : n ≡ number = cc in
    ap (λ (o : Option WorkUnit). slice_get (cons_option (option_map (unit_behind first) o) (units_at first units rest)) zero) got
    ∙ sym (ap (option_map (unit_behind first)) (sym (ap (slice_get units) same) ∙ got))
units_at-get first units (n ∷ rest) (suc k) number each is =
    let d : WorkUnit = KeepAll 0 in
    let got = slice_get-get_or units n d (All-head (λ (m : ℕ). m < length units) n rest each) in
    ap (λ (o : Option WorkUnit). slice_get (cons_option (option_map (unit_behind first) o) (units_at first units rest)) (suc k)) got
    ∙ units_at-get first units rest k number (All-tail (λ (m : ℕ). m < length units) n rest each) is

length-units_at : (first : ℕ) (units : List WorkUnit) (numbers : List ℕ) → All (λ (n : ℕ). n < length units) numbers
    → length (units_at first units numbers) ≡ length numbers
length-units_at first units [] each = refl
length-units_at first units (n ∷ rest) each =
    let d : WorkUnit = KeepAll 0 in
    let got = slice_get-get_or units n d (All-head (λ (m : ℕ). m < length units) n rest each) in
    let on = length-units_at first units rest (All-tail (λ (m : ℕ). m < length units) n rest each) in
    ap (λ (o : Option WorkUnit). length (cons_option (option_map (unit_behind first) o) (units_at first units rest))) got ∙ ap suc on

row-below : (from count bound : ℕ) → from + count ≤ bound → All (λ (n : ℕ). n < bound) (range_with_len from count)
row-below from zero bound within = All-nil (λ (n : ℕ). n < bound)
row-below from (suc count) bound within =
    All-cons (λ (n : ℕ). n < bound) from (range_with_len (from + 1) count) (omega arith) (row-below (from + 1) count bound (omega arith))

-- a run of a cut, or none
cut-below : (from first count bound : ℕ) → (0 < count → from + first + count ≤ bound) → All (λ (n : ℕ). n < bound) (range_with_len (from + first) count)
cut-below from first zero bound within = All-nil (λ (n : ℕ). n < bound)
cut-below from first (suc count) bound within = row-below (from + first) (suc count) bound (within (omega arith))

-- the numbers of what an extent has of ranges are those of units
numbers-below : (from bound : ℕ) (at : Placed) (ranges : List (List ℕ)) → from + all_blocks ranges ≤ bound
    → All (λ (n : ℕ). n < bound) (numbers_met from at ranges)
numbers-below from bound at [] within = All-nil (λ (n : ℕ). n < bound)
numbers-below from bound at (range ∷ rest) within =
    let sum = sum_by-cons blocks_of range rest in
    let cut : Cut = common at (start_of range) (blocks_of range) in
    All-append (λ (n : ℕ). n < bound) (range_with_len (from + cut.first) cut.count) (numbers_met (from + blocks_of range) at rest)
    (cut-below from cut.first cut.count bound (λ (some : 0 < cut.count). omega arith))
    (numbers-below (from + blocks_of range) bound at rest (omega arith))

managed-move : (opcode : IoOpcode) (whole own : Work) (index lba : ℕ) → whole.opcode ≡ opcode → own.opcode ≡ whole.opcode → form_of opcode ≡ Manage
    → MovesAlike whole own (MoveBlock index lba) (MoveBlock index lba)
managed-move Read whole own index lba is same form = absurd (cc)
managed-move Write whole own index lba is same form = absurd (cc)
managed-move Compare whole own index lba is same form = absurd (cc)
managed-move WriteZeroes whole own index lba is same form = absurd (cc)
managed-move Flush whole own index lba is same form = absurd (cc)
managed-move DatasetManagement whole own index lba is same form =
    record {
      same = λ memory disk kept. ap (λ (o : IoOpcode). block_moved o own index lba memory disk kept) (same ∙ is)
          ∙ sym (ap (λ (o : IoOpcode). block_moved o whole index lba memory disk kept) is);
    }

-- a unit of a Dataset Management moves the same by whichever work
managed-alike : (opcode : IoOpcode) (whole own : Work) (unit : WorkUnit) → whole.opcode ≡ opcode → own.opcode ≡ whole.opcode → form_of opcode ≡ Manage
    → MovesAlike whole own unit unit
managed-alike opcode whole own (MoveBlock index lba) is same form = managed-move opcode whole own index lba is same form
managed-alike opcode whole own (ClearBlock lba mark) is same form = clear-alike whole own lba mark
managed-alike opcode whole own (LeaveBlock lba) is same form = leave-alike whole own lba
managed-alike opcode whole own (KeepAll blocks) is same form = record { same = λ memory disk kept. refl }

at-below : (bound : ℕ) (xs : List ℕ) (k n : ℕ) → All (λ (m : ℕ). m < bound) xs → slice_get xs k ≡ Some n → n < bound
at-below bound xs k n each is =
    let within = slice_get_within xs k n is in
    let got = slice_get-get_or xs k n within in
    let same : get_or xs k n ≡ n = cc in
    subst (λ (m : ℕ). m < bound) same (each k n within)

abbrev range_work : Work → (number : ℕ) → Placed → (len : ℕ) → Work
range_work work number at len =
    record work {
      pieces = cut_pieces 0 len work.pieces;
      ranges = ranges_met number at work.ranges;
      units = units_at 0 work.units (numbers_met 0 at work.ranges);
    }

range_part : (work : Work) (number : ℕ) (at : Placed) (len : ℕ) → length work.units ≡ all_blocks work.ranges → form_of work.opcode ≡ Manage
    → IsPartOf work (range_work work number at len) (numbers_met 0 at work.ranges)
range_part work number at len size form =
    let below = numbers-below 0 (length work.units) at work.ranges (omega arith) in
    record {
      opcode = refl;
      size = length-units_at 0 work.units (numbers_met 0 at work.ranges) below;
      each = λ k n is.
          (let d : WorkUnit = KeepAll 0 in
          let there = slice_get-get_or work.units n d (at-below (length work.units) (numbers_met 0 at work.ranges) k n below is) in
          let unit : WorkUnit = get_or work.units n d in (
            unit,
            (
              unit,
              (
                there,
                units_at-get 0 work.units (numbers_met 0 at work.ranges) k n below is ∙ ap (option_map (unit_behind 0)) there
                    ∙ ap Some (unit_behind-none unit),
                managed-alike work.opcode work (range_work work number at len) unit refl refl form,
              ),
            ),
          ));
    }

range_shares : (plan : Plan) (work : Work) (from : ℕ) (ats : List Placed) → OfWork plan → length work.units ≡ all_blocks work.ranges
    → form_of work.opcode ≡ Manage → All (IsShareOf work) (map (λ p. range_share plan work p.0 p.1) (enumerate_from from ats))
unfolding OfWork
range_shares plan work from [] of size form = All-nil (IsShareOf work)
range_shares plan work from (at ∷ rest) of size form =
    let len : ℕ = range_size * length (ranges_met from at work.ranges) in
    All-cons (IsShareOf work) (range_share plan work from at) (map (λ p. range_share plan work p.0 p.1) (enumerate_from (from + 1) rest))
    (range_work work from at len, (of (range_work work from at len), range_part work from at len size form))
    (range_shares plan work (from + 1) rest of size form)

-- ---- the whole

whole_part : (work : Work) → IsPartOf work work (numbers_of work)
whole_part work =
    record {
      opcode = refl;
      size = sym (length-range_with_len 0 (length work.units));
      each = λ k n is.
          (let d : WorkUnit = KeepAll 0 in
          let at = range-get 0 (length work.units) k n is in
          let below = at.0 in
          let same : n ≡ k = omega (arith, at.1) in
          let there = slice_get-get_or work.units k d below in
          let unit : WorkUnit = get_or work.units k d in
          (unit, (unit, (ap (slice_get work.units) same ∙ there, there, record { same = λ memory disk kept. refl }))));
    }

-- ---- every form

form_shares : (form : Form) (mapped : ℕ → Bool) (ns : Namespace) (entry : List ℕ) (plan : Plan) (work : Work)
    → IsSoundWork mapped (blocks_in ns) entry work → form_of work.opcode ≡ form → OfWork plan → work_of plan ≡ Some work
    → All (IsShareOf work) (shares_by form ns entry plan work)
form_shares (Transfer dest) mapped ns entry plan work sound form of is =
    let units = sound.units ∙ ap (λ (f : Form). form_units f (blocks_in ns) entry work.ranges) form in
    run_shares plan work ns (slba_of entry) (count_of entry) of
    (λ cut within. run_part-transfer work (slba_of entry) (count_of entry) cut.first cut.count units within)
form_shares Clear mapped ns entry plan work sound form of is =
    let units = sound.units ∙ ap (λ (f : Form). form_units f (blocks_in ns) entry work.ranges) form in
    run_shares plan work ns (slba_of entry) (count_of entry) of
    (λ cut within. run_part-clear work (is_fua entry) (slba_of entry) (count_of entry) cut.first cut.count units within)
form_shares Manage mapped ns entry plan work sound form of is =
    range_shares plan work 0 (placed 0 ns) of (IsSoundWork-counts mapped (blocks_in ns) entry work sound form) form
form_shares Keep mapped ns entry plan work sound form of is =
    All-cons (IsShareOf work) (whole_share plan work) [] (work, (is, whole_part work)) (All-nil (IsShareOf work))

go_shares : (form : Form) (regions : List Region) (mapped : ℕ → Bool) (ns : Namespace) (entry : List ℕ) (work : Work)
    → IsSoundWork mapped (blocks_in ns) entry work → All (IsShareOf work) (shares_of ns entry (go_plan form regions work))
unfolding OfWork
go_shares (Transfer dest) regions mapped ns entry work sound =
    elim (places_fit regions work.pieces) as (λ b. All (IsShareOf work) (shares_of ns entry (transfer_plan b work))) [
      | true ↦ form_shares (form_of work.opcode) mapped ns entry (Direct work) work sound refl (λ own. refl) refl
      | false ↦ form_shares (form_of work.opcode) mapped ns entry (Bounced work) work sound refl (λ own. refl) refl
    ]
go_shares Clear regions mapped ns entry work sound =
    form_shares (form_of work.opcode) mapped ns entry (NoData work) work sound refl (λ own. refl) refl
go_shares Manage regions mapped ns entry work sound =
    form_shares (form_of work.opcode) mapped ns entry (Bounced work) work sound refl (λ own. refl) refl
go_shares Keep regions mapped ns entry work sound =
    form_shares (form_of work.opcode) mapped ns entry (NoData work) work sound refl (λ own. refl) refl

pub shares_of-parts : (regions : List Region) (mapped : ℕ → Bool) (ns : Namespace) (entry : List ℕ) (work : Work)
    → IsSoundWork mapped (blocks_in ns) entry work → All (IsShareOf work) (shares_of ns entry (plan_of regions (Go work)))
shares_of-parts regions mapped ns entry work sound = go_shares (form_of work.opcode) regions mapped ns entry work sound
