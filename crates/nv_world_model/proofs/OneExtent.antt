-- With one extent a plan has one share, which is the plan.
use Rattle.std.proofs.Common.{◌≡◌, ℕ, ◌+◌, ◌-◌, ◌*◌, ◌<◌, ◌≤◌, min, max, eqb, Bool, true, false, cond, ◌&&◌, List, [], ◌∷◌, ◌++◌, map, length}
use Rattle.std.proofs.Common.{Option, Some, None, refl, ap, sym, ◌∙◌, inl, inr, subst, arith, eq-eqb}
use Rattle.std.specs.List.{All, cons_option, list_all, range_with_len}
use Rattle.std.specs.Option.{option_map}
use Rattle.std.proofs.lemmas.Bool.{cases_eq}
use Rattle.std.proofs.lemmas.List.Sums.{sum_by-cons}
use Rattle.nv_entry.specs.Layout.{number_bytes}
use Rattle.nv_entry.specs.Range.{attributes_of, blocks_of, start_of}
use Rattle.nv_entry.specs.Submission.{slba_of}
use Rattle.nv_mem.specs.Places.{total_len}
use Rattle.nv_mem.specs.declared.piece.Piece.{Piece}
use Rattle.nv_mem.specs.declared.region.Region.{Region}
use Rattle.nv_ns.specs.BlockRange.{Extent}
use Rattle.nv_ns.specs.Extents.{Cut, Placed, common, cuts, if_any}
use Rattle.nv_ns.proofs.Ranges.{InNamespace-tested}
use Rattle.nv_ns.proofs.Spelled.{cuts-first}
use Rattle.nv_model.specs.Judge.{Clear, Form, Go, Keep, Manage, Transfer, Work, WorkUnit, count_of, deallocates, form_of, form_transfer_len}
use Rattle.nv_model.specs.Judge.{form_units, is_fua, range_fits}
use Rattle.nv_model.specs.Laws.{IsUnitWithin}
use Rattle.nv_model.specs.Limits.{block, range_size}
use Rattle.nv_model.specs.Private.{numbers_of}
use Rattle.nv_model.proofs.Judged.{IsSoundWork}
use Rattle.nv_model.proofs.Units.{length-clear_units, length-move_units}
use Rattle.nv_prp.specs.Fits.{places_fit}
use Rattle.nv_world_model.specs.Plan.{Bounced, Direct, NoData, Plan, go_plan, plan_of, transfer_plan}
use Rattle.nv_world_model.specs.Share.{Share, block_share, cut_pieces, cut_range, numbers_met, range_in, range_share, ranges_met, shares_by}
use Rattle.nv_world_model.specs.Share.{shares_of, units_at, whole_share, with_work}
use Rattle.nv_world_model.proofs.CutPieces.{cut_pieces-all}
use Rattle.nv_world_model.proofs.RangeCuts.{not_zero, some_cut}
use Rattle.nv_world_model.proofs.ShareNumbers.{all_blocks, range-append}
use Rattle.nv_world_model.proofs.ShareUnits.{clears-within, length-range_units, moves-within, units_at-all}

abbrev share_with : (whole plan : Plan) → (numbers : List ℕ) → Share
share_with whole plan numbers = record { whole = whole; plan = plan; numbers = numbers }

abbrev work_with : Work → List Piece → (ranges : List (List ℕ)) → List WorkUnit → Work
work_with work pieces ranges units = record work { pieces = pieces; ranges = ranges; units = units }

-- a work with its own parts, and its plan
parts_same : (plan : Plan) (work : Work) (pieces : List Piece) (ranges : List (List ℕ)) (units : List WorkUnit) (numbers : List ℕ)
    → pieces ≡ work.pieces → ranges ≡ work.ranges → units ≡ work.units → numbers ≡ numbers_of work → with_work plan work ≡ plan
    → share_with plan (with_work plan (work_with work pieces ranges units)) numbers ≡ whole_share plan work
parts_same plan work pieces ranges units numbers pieces_are ranges_are units_are numbers_are same =
    let works = ap (λ (p : List Piece). work_with work p ranges units) pieces_are
    ∙ ap (λ (r : List (List ℕ)). work_with work work.pieces r units) ranges_are
    ∙ ap (λ (u : List WorkUnit). work_with work work.pieces work.ranges u) units_are in
    ap (λ (w : Work). share_with plan (with_work plan w) numbers) works
    ∙ ap (λ (p : Plan). share_with plan p numbers) same ∙ ap (share_with plan plan) numbers_are

abbrev run_share : Plan → Work → (first count : ℕ) → Share
run_share plan work first count =
    share_with plan
    (with_work plan
    (work_with work (cut_pieces (block * first) (block * count) work.pieces) work.ranges (units_at first work.units (range_with_len first count))))
    (range_with_len first count)

-- a run of blocks in one extent
one_block_share : (plan : Plan) (work : Work) (cut : Cut) (count : ℕ) → cut.first ≡ 0 → cut.count ≡ count → length work.units ≡ count
    → total_len work.pieces ≤ block * count → with_work plan work ≡ plan → block_share plan work cut ≡ whole_share plan work
one_block_share plan work cut count first number size bytes same =
    ap (λ (n : ℕ). run_share plan work n cut.count) first ∙ ap (run_share plan work 0) number
    ∙ parts_same plan work (cut_pieces 0 (block * count) work.pieces) work.ranges (units_at 0 work.units (range_with_len 0 count)) (range_with_len 0 count)
    (cut_pieces-all (block * count) work.pieces bytes) refl (units_at-all work.units count size) (sym (ap (range_with_len 0) size)) same

-- ---- ranges in one extent

left_of : (a b : Bool) → (a && b) ≡ true → a ≡ true
left_of true b both = refl
left_of false b both = absurd (cc)

right_of : (a b : Bool) → (a && b) ≡ true → b ≡ true
right_of true b both = both
right_of false b both = absurd (cc)

pub cut_range-all : (range : List ℕ) (cut : Cut) → cut.count ≡ blocks_of range → cut_range range cut ≡ range
cut_range-all range cut all =
    ap (λ (b : Bool). cond b range (number_bytes 4 (attributes_of range) ++ number_bytes 4 cut.count ++ number_bytes 8 (start_of range + cut.first)))
    (eq-eqb cut.count (blocks_of range) all)

range_in-all : (number : ℕ) (at : Placed) (range : List ℕ) → 0 < blocks_of range
    → (common at (start_of range) (blocks_of range)).count ≡ blocks_of range → range_in number at range ≡ Some range
range_in-all number at range some all =
    let cut : Cut = common at (start_of range) (blocks_of range) in
    let there : if_any cut ≡ Some cut = some_cut cut (omega arith) in
    ap (λ (b : Bool). cond b (cond (eqb number 0) (Some range) None) (option_map (cut_range range) (if_any cut))) (not_zero (blocks_of range) some)
    ∙ ap (option_map (cut_range range)) there ∙ ap Some (cut_range-all range cut all)

one_range : (extent : Extent) (range : List ℕ) → range_fits extent.blocks range ≡ true
    → range_in 0 (record { before = 0; extent = extent }) range ≡ Some range
one_range extent range fits =
    let at : Placed = record { before = 0; extent = extent } in
    let within = InNamespace-tested (start_of range) (blocks_of range) extent.blocks fits in
    elim (cases_eq (blocks_of range) 0) [
      | inl none ↦
          ap (λ (b : Bool). cond b (Some range) (option_map (cut_range range) (if_any (common at (start_of range) (blocks_of range)))))
          (eq-eqb (blocks_of range) 0 none)
      | inr some ↦ range_in-all 0 at range (omega arith) (omega arith)
    ]

one_ranges : (extent : Extent) (ranges : List (List ℕ)) → list_all (range_fits extent.blocks) ranges ≡ true
    → ranges_met 0 (record { before = 0; extent = extent }) ranges ≡ ranges
one_ranges extent [] fit = refl
one_ranges extent (range ∷ rest) fit =
    let at : Placed = record { before = 0; extent = extent } in
    let first = one_range extent range (left_of (range_fits extent.blocks range) (list_all (range_fits extent.blocks) rest) fit) in
    let more = one_ranges extent rest (right_of (range_fits extent.blocks range) (list_all (range_fits extent.blocks) rest) fit) in
    ap (λ (o : Option (List ℕ)). cons_option o (ranges_met 0 at rest)) first ∙ ap (λ (xs : List (List ℕ)). range ∷ xs) more

one_numbers : (from : ℕ) (extent : Extent) (ranges : List (List ℕ)) → list_all (range_fits extent.blocks) ranges ≡ true
    → numbers_met from (record { before = 0; extent = extent }) ranges ≡ range_with_len from (all_blocks ranges)
one_numbers from extent [] fit = refl
one_numbers from extent (range ∷ rest) fit =
    let at : Placed = record { before = 0; extent = extent } in
    let within = InNamespace-tested (start_of range) (blocks_of range) extent.blocks
    (left_of (range_fits extent.blocks range) (list_all (range_fits extent.blocks) rest) fit) in
    let more = one_numbers (from + blocks_of range) extent rest
    (right_of (range_fits extent.blocks range) (list_all (range_fits extent.blocks) rest) fit) in
    let first : from + (0 - start_of range) ≡ from = omega arith in
    let count : min (start_of range + blocks_of range) (0 + extent.blocks) - max (start_of range) 0 ≡ blocks_of range = omega arith in
    let sum = sum_by-cons blocks_of range rest in
    let whole = ap (range_with_len from) sum ∙ range-append from (blocks_of range) (all_blocks rest) in
    ap (λ (n : ℕ). range_with_len n (min (start_of range + blocks_of range) (0 + extent.blocks) - max (start_of range) 0)
    ++ numbers_met (from + blocks_of range) at rest) first
    ∙ ap (λ (n : ℕ). range_with_len from n ++ numbers_met (from + blocks_of range) at rest) count
    ∙ ap (λ (xs : List ℕ). range_with_len from (blocks_of range) ++ xs) more ∙ sym whole

one_range_share : (plan : Plan) (work : Work) (extent : Extent) → list_all (range_fits extent.blocks) work.ranges ≡ true
    → length work.units ≡ all_blocks work.ranges → total_len work.pieces ≤ range_size * length work.ranges → with_work plan work ≡ plan
    → range_share plan work 0 (record { before = 0; extent = extent }) ≡ whole_share plan work
one_range_share plan work extent fit size bytes same =
    let at : Placed = record { before = 0; extent = extent } in
    let ranges = one_ranges extent work.ranges fit in
    let numbers = one_numbers 0 extent work.ranges fit in
    let pieces = ap (λ (r : List (List ℕ)). cut_pieces 0 (range_size * length r) work.pieces) ranges
    ∙ cut_pieces-all (range_size * length work.ranges) work.pieces bytes in
    let units = ap (units_at 0 work.units) numbers ∙ units_at-all work.units (all_blocks work.ranges) size in
    parts_same plan work (cut_pieces 0 (range_size * length (ranges_met 0 at work.ranges)) work.pieces) (ranges_met 0 at work.ranges)
    (units_at 0 work.units (numbers_met 0 at work.ranges)) (numbers_met 0 at work.ranges)
    pieces ranges units (numbers ∙ sym (ap (range_with_len 0) size)) same

-- ---- every form

-- what a sound work says of a run of blocks
pub record IsRun (blocks : ℕ) (entry : List ℕ) (work : Work) : Type 0 where
  pub within : slba_of entry + count_of entry ≤ blocks
  pub size : length work.units ≡ count_of entry
  pub bytes : total_len work.pieces ≤ block * count_of entry

pub IsRun-transfer : (dest : Bool) (mapped : ℕ → Bool) (blocks : ℕ) (entry : List ℕ) (work : Work) → IsSoundWork mapped blocks entry work
    → form_of work.opcode ≡ Transfer dest → IsRun blocks entry work
IsRun-transfer dest mapped blocks entry work sound form =
    let units = sound.units ∙ ap (λ (f : Form). form_units f blocks entry work.ranges) form in
    let bytes = sound.total ∙ ap (λ (f : Form). form_transfer_len f entry) form in
    record {
      within =
          moves-within blocks (slba_of entry) (count_of entry) (omega arith) (subst (All (IsUnitWithin blocks)) units sound.within);
      size = ap length units ∙ length-move_units (slba_of entry) (count_of entry);
      bytes = omega arith;
    }

pub IsRun-clear : (mapped : ℕ → Bool) (blocks : ℕ) (entry : List ℕ) (work : Work) → IsSoundWork mapped blocks entry work
    → form_of work.opcode ≡ Clear → IsRun blocks entry work
IsRun-clear mapped blocks entry work sound form =
    let units = sound.units ∙ ap (λ (f : Form). form_units f blocks entry work.ranges) form in
    let bytes = sound.total ∙ ap (λ (f : Form). form_transfer_len f entry) form in
    record {
      within =
          clears-within blocks (is_fua entry) (slba_of entry) (count_of entry) (omega arith) (subst (All (IsUnitWithin blocks)) units sound.within);
      size = ap length units ∙ length-clear_units (is_fua entry) (slba_of entry) (count_of entry);
      bytes = omega arith;
    }

-- and of ranges
pub IsSoundWork-counts : (mapped : ℕ → Bool) (blocks : ℕ) (entry : List ℕ) (work : Work) → IsSoundWork mapped blocks entry work
    → form_of work.opcode ≡ Manage → length work.units ≡ all_blocks work.ranges
IsSoundWork-counts mapped blocks entry work sound form =
    ap length (sound.units ∙ ap (λ (f : Form). form_units f blocks entry work.ranges) form)
    ∙ length-range_units (deallocates entry) work.ranges

one_run : (entry : List ℕ) (extent : Extent) (plan : Plan) (work : Work) → IsRun extent.blocks entry work → with_work plan work ≡ plan
    → map (block_share plan work) (cuts (extent ∷ []) (slba_of entry) (count_of entry)) ≡ whole_share plan work ∷ []
one_run entry extent plan work run same =
    let within = run.within in
    let cut : Cut = record { first = 0; start = extent.base + slba_of entry; count = count_of entry } in
    ap (map (block_share plan work)) (cuts-first (extent ∷ []) extent [] (slba_of entry) (count_of entry) refl (omega arith) (omega arith) (omega arith))
    ∙ ap (λ (share : Share). share ∷ []) (one_block_share plan work cut (count_of entry) refl refl run.size run.bytes same)

one_share : (form : Form) (mapped : ℕ → Bool) (entry : List ℕ) (extent : Extent) (plan : Plan) (work : Work)
    → IsSoundWork mapped extent.blocks entry work → form_of work.opcode ≡ form → with_work plan work ≡ plan
    → shares_by form (extent ∷ []) entry plan work ≡ whole_share plan work ∷ []
one_share (Transfer dest) mapped entry extent plan work sound form same =
    one_run entry extent plan work (IsRun-transfer dest mapped extent.blocks entry work sound form) same
one_share Clear mapped entry extent plan work sound form same =
    one_run entry extent plan work (IsRun-clear mapped extent.blocks entry work sound form) same
one_share Manage mapped entry extent plan work sound form same =
    let bytes = sound.total ∙ ap (λ (f : Form). form_transfer_len f entry) form in
    let count = sound.counted form in
    ap (λ (share : Share). share ∷ []) (one_range_share plan work extent sound.fit
    (IsSoundWork-counts mapped extent.blocks entry work sound form) (omega arith) same)
one_share Keep mapped entry extent plan work sound form same = refl

-- the plan of a work, of any form
one_share-go : (form : Form) (regions : List Region) (mapped : ℕ → Bool) (entry : List ℕ) (extent : Extent) (work : Work)
    → IsSoundWork mapped extent.blocks entry work
    → shares_of (extent ∷ []) entry (go_plan form regions work) ≡ whole_share (go_plan form regions work) work ∷ []
one_share-go (Transfer dest) regions mapped entry extent work sound =
    elim (places_fit regions work.pieces) as (λ b. shares_of (extent ∷ []) entry (transfer_plan b work) ≡ whole_share (transfer_plan b work) work ∷ []) [
      | true ↦ one_share (form_of work.opcode) mapped entry extent (Direct work) work sound refl refl
      | false ↦ one_share (form_of work.opcode) mapped entry extent (Bounced work) work sound refl refl
    ]
one_share-go Clear regions mapped entry extent work sound =
    one_share (form_of work.opcode) mapped entry extent (NoData work) work sound refl refl
one_share-go Manage regions mapped entry extent work sound =
    one_share (form_of work.opcode) mapped entry extent (Bounced work) work sound refl refl
one_share-go Keep regions mapped entry extent work sound =
    one_share (form_of work.opcode) mapped entry extent (NoData work) work sound refl refl

pub shares_of-one : (regions : List Region) (mapped : ℕ → Bool) (entry : List ℕ) (extent : Extent) (work : Work)
    → IsSoundWork mapped extent.blocks entry work
    → shares_of (extent ∷ []) entry (plan_of regions (Go work)) ≡ whole_share (plan_of regions (Go work)) work ∷ []
shares_of-one regions mapped entry extent work sound = one_share-go (form_of work.opcode) regions mapped entry extent work sound
