-- What a plan says, by what its command's fields and list say
use Rattle.std.proofs.Common.{◌≡◌, ℕ, ◌*◌, ◌/◌, ◌<◌, ◌≤◌, Bool, true, false, ◌⊎◌, inl, inr, List, [], ◌∷◌, Option, Ok, Err, Some, None, length, map, replicate, arith, refl, sym, ap, ◌∙◌}
use Rattle.std.specs.List.{enumerate_from, list_all}
use Rattle.nv_entry.specs.Opcode.{data_pointer, io_opcode}
use Rattle.nv_entry.specs.Status.{StatusField}
use Rattle.nv_entry.specs.Submission.{opcode_of, psdt_of, slba_of}
use Rattle.nv_entry.specs.declared.opcode.IoOpcode.{IoOpcode}
use Rattle.nv_entry.specs.declared.opcode.IoOpcode.TheVariants.{Flush, Write, Read, Compare, WriteZeroes, DatasetManagement}
use Rattle.nv_entry.specs.declared.status_code.StatusCode.{StatusCode}
use Rattle.nv_judge.specs.Need.{field_verdict, need_of}
use Rattle.nv_judge.specs.Ranges.{ranges_verdict}
use Rattle.nv_judge.specs.declared.need.Need.{Need}
use Rattle.nv_judge.proofs.FieldLemmas.{count-at_most, field_verdict-err, field_verdict-ok}
use Rattle.nv_judge.proofs.RangeLemmas.{ranges-leave}
use Rattle.nv_mem.specs.GuestMap.{mapped}
use Rattle.nv_mem.specs.declared.piece.Piece.{Piece}
use Rattle.nv_mem.specs.declared.region.Region.{Region}
use Rattle.nv_model.specs.Dialogue.{Dialogue, End, and_then}
use Rattle.nv_model.specs.Judge.{Go, Refuse, Transfer, Verdict, Work, count_of, field_refusal, form_has_blocks, form_has_buffer, form_of, has_buffer, judge, judge_ranges}
use Rattle.nv_model.specs.Judge.{judge_reading, range_count_of, range_fits, ranges_in, transfer_len, work_of}
use Rattle.nv_model.specs.Reading.{Reading, Spells}
use Rattle.nv_model.specs.Transcript.{Outcome as Come, ReadDone, Settled as Ended, Wanted as Asked, in_transcript}
use Rattle.nv_model.proofs.InParts.{ranges-short}
use Rattle.nv_model.proofs.JudgeCases.{judge-listed, judge-refused, judge-unlisted, judge_ranges-fits, judge_ranges-refused}
use Rattle.nv_ns.specs.Extents.{Cut, Namespace, Placed, blocks_in, cuts, placed}
use Rattle.nv_prp.specs.Fits.{places_fit}
use Rattle.nv_world_model.specs.Geometry.{Guest, regions_of}
use Rattle.nv_world_model.specs.Plan.{Bounced, Direct, NoData, Plan, plan_of, planned, transfer_plan}
use Rattle.nv_world_model.specs.Share.{block_share, form_tags, range_share, tags_by, tags_of_entry}
use Rattle.nv_plan.specs.Drafted.{IsKnown}
use Rattle.nv_plan.specs.Listed.{list_of}
use Rattle.nv_plan.specs.Outline.{Outline, Portion, outline_of, outlined, portion_of}
use Rattle.nv_plan.specs.Told.{portion_cut, portion_met}
use Rattle.nv_plan.specs.declared.kind.PlanKind.{PlanKind}
use Rattle.nv_plan.specs.declared.kind.PlanKind.TheVariants as kind
use Rattle.nv_plan.proofs.MetRanges.{portions_from}

-- ---- by the fields

pub known-by : (given : Guest) (entry : List ℕ) (opcode : IoOpcode) (need : Need)
    → field_verdict (blocks_in given.namespace) entry ≡ Ok need → io_opcode (opcode_of entry) ≡ Some opcode
    → IsKnown given entry opcode need
known-by given entry opcode need fine known =
    let by = field_verdict-ok (blocks_in given.namespace) entry need fine in
    let same : by.1.0 ≡ opcode = some_same by.1.0 opcode (sym by.1.1 ∙ known) in
    record { unrefused = by.0; known = known; needs = by.1.2 ∙ ap (need_of entry) same }
  where
    some_same : (a b : IoOpcode) → Some a ≡ Some b → a ≡ b
    some_same a b e = (cc)

-- one of an unknown opcode is refused
pub never-unknown : (given : Guest) (entry : List ℕ) (need : Need)
    → field_verdict (blocks_in given.namespace) entry ≡ Ok need → io_opcode (opcode_of entry) ≡ None → ⊥
never-unknown given entry need fine unknown =
    let by = field_verdict-ok (blocks_in given.namespace) entry need fine in
    not_none by.1.0 (sym unknown ∙ by.1.1)
  where
    not_none : (a : IoOpcode) → None ≡ Some a → ⊥
    not_none a e = (cc)

-- ---- how many tags it takes

-- one, where the fields refuse it
pub tags-refused : (ns : Namespace) (entry : List ℕ) (st : StatusField) → field_verdict (blocks_in ns) entry ≡ Err st → tags_of_entry ns entry ≡ 1
tags-refused ns entry st refused =
    let by = field_verdict-err (blocks_in ns) entry st refused in
    ap (λ (o : Option StatusCode). tags_by o (io_opcode (opcode_of entry)) ns entry) by.1

-- else as many as its form says
pub tags-known : (ns : Namespace) (entry : List ℕ) (opcode : IoOpcode) → field_refusal (blocks_in ns) entry ≡ None
    → io_opcode (opcode_of entry) ≡ Some opcode → tags_of_entry ns entry ≡ form_tags (form_of opcode) ns entry
tags-known ns entry opcode fine known =
    ap (λ (o : Option StatusCode). tags_by o (io_opcode (opcode_of entry)) ns entry) fine ∙ ap (λ (o : Option IoOpcode). tags_by None o ns entry) known

-- no bytes and no ranges
abbrev pub nothing : Portion
nothing = record { places = []; ranges = [] }

-- a command that moves no data has nothing of them
bare-cuts : (ns : Namespace) (work : Work) (parts : List Cut)
    → map (portion_of ns) (map (block_share (NoData work) work) parts) ≡ replicate (length parts) nothing
bare-cuts ns work [] = refl
bare-cuts ns work (cut ∷ rest) = ap (λ (ps : List Portion). nothing ∷ ps) (bare-cuts ns work rest)

-- ---- how it begins

-- a command that its fields refuse
pub left-refused : (given : Guest) (entry : List ℕ) (st : StatusField)
    → field_verdict (blocks_in given.namespace) entry ≡ Err st
    → End (Refuse st) ≡ judge (mapped (regions_of given)) given.limit (blocks_in given.namespace) entry
left-refused given entry st refused =
    let by = field_verdict-err (blocks_in given.namespace) entry st refused in
    ap (λ (s : StatusField). End (Refuse s)) by.2
    ∙ sym (judge-refused (mapped (regions_of given)) given.limit (blocks_in given.namespace) entry by.0 by.1)

-- one without a buffer
pub left-bare : (given : Guest) (entry : List ℕ) (opcode : IoOpcode) (need : Need)
    → IsKnown given entry opcode need → has_buffer opcode ≡ false
    → End (Go (work_of (blocks_in given.namespace) opcode entry [] [])) ≡ judge (mapped (regions_of given)) given.limit (blocks_in given.namespace) entry
left-bare given entry opcode need is buffer =
    sym (judge-unlisted (mapped (regions_of given)) given.limit (blocks_in given.namespace) entry opcode is.unrefused is.known buffer)

-- one with a buffer, of whose list this is still to be read
pub left-listed : (given : Guest) (entry : List ℕ) (opcode : IoOpcode) (need : Need) (d : Dialogue Reading)
    → IsKnown given entry opcode need → has_buffer opcode ≡ true
    → d ≡ list_of (data_pointer (psdt_of entry)) (regions_of given) given.limit need entry
    → and_then d (judge_reading (blocks_in given.namespace) entry opcode) ≡ judge (mapped (regions_of given)) given.limit (blocks_in given.namespace) entry
left-listed given entry opcode need d is buffer whole =
    ap (λ (x : Dialogue Reading). and_then x (judge_reading (blocks_in given.namespace) entry opcode)) whole
    ∙ ap (λ (n : Need). and_then (list_of (data_pointer (psdt_of entry)) (regions_of given) given.limit n entry) (judge_reading (blocks_in given.namespace) entry opcode)) is.needs
    ∙ sym (judge-listed (mapped (regions_of given)) given.limit (blocks_in given.namespace) entry opcode is.unrefused is.known buffer)

-- how many bytes a buffer has
pub transfer-len : (given : Guest) (entry : List ℕ) (opcode : IoOpcode) (need : Need) (dest : Bool)
    → IsKnown given entry opcode need → form_of opcode ≡ Transfer dest → need.bytes ≡ 512 * count_of entry
transfer-len given entry opcode need dest is form = ap (λ (n : Need). n.bytes) is.needs ∙ len_of opcode dest form
  where
    len_of : (o : IoOpcode) (d : Bool) → form_of o ≡ Transfer d → transfer_len o entry ≡ 512 * count_of entry
    len_of Flush d e = (cc)
    len_of WriteZeroes d e = (cc)
    len_of Read d e = refl
    len_of Write d e = refl
    len_of Compare d e = refl
    len_of DatasetManagement d e = (cc)

transfer-some : (given : Guest) (entry : List ℕ) (opcode : IoOpcode) (need : Need) (dest : Bool)
    → IsKnown given entry opcode need → form_of opcode ≡ Transfer dest
    → (0 < need.bytes) × (need.bytes ≤ 131072)
transfer-some given entry opcode need dest is form =
    let few : count_of entry ≤ 256 = count-at_most (blocks_in given.namespace) entry opcode is.unrefused is.known (ap form_has_buffer form) (ap form_has_blocks form) in
    let many = transfer-len given entry opcode need dest is form in
    (omega arith, omega arith)

pub ranges-some : (entry : List ℕ) (need : Need) → need ≡ need_of entry DatasetManagement
    → (need.bytes ≡ 16 * range_count_of entry) × ((0 < need.bytes) × (need.bytes ≤ 4096))
ranges-some entry need needs =
    let short = ranges-short entry in
    let many : need.bytes ≡ 16 * range_count_of entry = ap (λ (n : Need). n.bytes) needs in
    (many, (omega arith, omega arith))

-- any buffer
pub buffer-some : (given : Guest) (entry : List ℕ) (opcode : IoOpcode) (need : Need)
    → IsKnown given entry opcode need → has_buffer opcode ≡ true → (0 < need.bytes) × (need.bytes ≤ 131072)
buffer-some given entry Flush need is buffer = absurd (cc)
buffer-some given entry WriteZeroes need is buffer = absurd (cc)
buffer-some given entry Read need is buffer = transfer-some given entry Read need true is refl
buffer-some given entry Write need is buffer = transfer-some given entry Write need false is refl
buffer-some given entry Compare need is buffer = transfer-some given entry Compare need false is refl
buffer-some given entry DatasetManagement need is buffer =
    let some = ranges-some entry need is.needs in
    let least = some.1.0 in
    let most = some.1.1 in
    (least, omega arith)

-- ---- what the plan says

-- one that is refused is answered
pub says-refused : (given : Guest) (entry : List ℕ) (st : StatusField) (reads : List ReadDone)
    → Ended (record { kind = kind.Answer st; portions = [] })
    ≡ outlined given.namespace entry (planned (regions_of given) (in_transcript (End (Refuse st)) [] reads))
unfolding in_transcript
says-refused given entry st reads = refl

-- one without a buffer moves no data
pub says-no_data : (given : Guest) (entry : List ℕ) (reads : List ReadDone) (opcode : IoOpcode) (need : Need)
    → IsKnown given entry opcode need → has_buffer opcode ≡ false
    → Ended (record { kind = kind.NoData; portions = replicate (tags_of_entry given.namespace entry) nothing })
    ≡ outlined given.namespace entry (planned (regions_of given) (in_transcript (End (Go (work_of (blocks_in given.namespace) opcode entry [] []))) [] reads))
unfolding in_transcript
says-no_data given entry reads opcode need is buffer =
    ap (λ (n : ℕ). Ended (record { kind = kind.NoData; portions = replicate n nothing }))
    (tags-known given.namespace entry opcode is.unrefused is.known)
    ∙ sym (by_opcode opcode buffer)
  where
    by_opcode : (o : IoOpcode) → has_buffer o ≡ false
        → outlined given.namespace entry (Ended (plan_of (regions_of given) (Go (work_of (blocks_in given.namespace) o entry [] []))))
        ≡ Ended (record { kind = kind.NoData; portions = replicate (form_tags (form_of o) given.namespace entry) nothing })
    by_opcode Flush none = refl
    by_opcode WriteZeroes none =
        ap (λ (ps : List Portion). Ended (record { kind = kind.NoData; portions = ps }))
        (bare-cuts given.namespace (work_of (blocks_in given.namespace) WriteZeroes entry [] []) (cuts given.namespace (slba_of entry) (count_of entry)))
    by_opcode Read none = (cc)
    by_opcode Write none = (cc)
    by_opcode Compare none = (cc)
    by_opcode DatasetManagement none = (cc)

-- it spells the places of a transfer
abbrev pub kind_by : Bool → PlanKind
kind_by true = kind.Direct
kind_by false = kind.Bounced

-- the portions of a transfer's cuts
abbrev pub portions_cut : Namespace → (entry : List ℕ) → List Piece → List Portion
portions_cut ns entry pieces = map (portion_cut pieces) (cuts ns (slba_of entry) (count_of entry))

cut-portions : (ns : Namespace) (plan : Plan) (work : Work) (parts : List Cut)
    → ((cut : Cut) → portion_of ns (block_share plan work cut) ≡ portion_cut work.pieces cut)
    → map (portion_of ns) (map (block_share plan work) parts) ≡ map (portion_cut work.pieces) parts
cut-portions ns plan work [] each = refl
cut-portions ns plan work (cut ∷ rest) each =
    ap (λ (p : Portion). p ∷ map (portion_of ns) (map (block_share plan work) rest)) (each cut)
    ∙ ap (λ (ps : List Portion). portion_cut work.pieces cut ∷ ps) (cut-portions ns plan work rest each)

abbrev told : PlanKind → List Portion → Outline
told k portions = record { kind = k; portions = portions }

direct-portions : (ns : Namespace) (entry : List ℕ) (work : Work)
    → ((cut : Cut) → portion_of ns (block_share (Direct work) work cut) ≡ portion_cut work.pieces cut)
    → told kind.Direct (map (portion_of ns) (map (block_share (Direct work) work) (cuts ns (slba_of entry) (count_of entry))))
    ≡ told kind.Direct (portions_cut ns entry work.pieces)
direct-portions ns entry work each =
    ap (told kind.Direct)
    (cut-portions ns (Direct work) work (cuts ns (slba_of entry) (count_of entry)) each)

bounced-portions : (ns : Namespace) (entry : List ℕ) (work : Work)
    → ((cut : Cut) → portion_of ns (block_share (Bounced work) work cut) ≡ portion_cut work.pieces cut)
    → told kind.Bounced (map (portion_of ns) (map (block_share (Bounced work) work) (cuts ns (slba_of entry) (count_of entry))))
    ≡ told kind.Bounced (portions_cut ns entry work.pieces)
bounced-portions ns entry work each =
    ap (told kind.Bounced)
    (cut-portions ns (Bounced work) work (cuts ns (slba_of entry) (count_of entry)) each)

transfer-portions : (ns : Namespace) (blocks : ℕ) (opcode : IoOpcode) (dest : Bool) (entry : List ℕ) (pieces : List Piece) (fit : Bool)
    → form_of opcode ≡ Transfer dest
    → told (kind_by fit) (portions_cut ns entry pieces)
    ≡ outline_of ns entry (transfer_plan fit (work_of blocks opcode entry pieces []))
transfer-portions ns blocks Flush dest entry pieces fit form = absurd (cc)
transfer-portions ns blocks WriteZeroes dest entry pieces fit form = absurd (cc)
transfer-portions ns blocks DatasetManagement dest entry pieces fit form = absurd (cc)
transfer-portions ns blocks Read dest entry pieces true form = sym (direct-portions ns entry (work_of blocks Read entry pieces []) (λ cut. refl))
transfer-portions ns blocks Read dest entry pieces false form = sym (bounced-portions ns entry (work_of blocks Read entry pieces []) (λ cut. refl))
transfer-portions ns blocks Write dest entry pieces true form = sym (direct-portions ns entry (work_of blocks Write entry pieces []) (λ cut. refl))
transfer-portions ns blocks Write dest entry pieces false form = sym (bounced-portions ns entry (work_of blocks Write entry pieces []) (λ cut. refl))
transfer-portions ns blocks Compare dest entry pieces true form = sym (direct-portions ns entry (work_of blocks Compare entry pieces []) (λ cut. refl))
transfer-portions ns blocks Compare dest entry pieces false form = sym (bounced-portions ns entry (work_of blocks Compare entry pieces []) (λ cut. refl))

pub transfer-outline : (given : Guest) (opcode : IoOpcode) (dest : Bool) (entry : List ℕ) (behind : List ReadDone) (pieces : List Piece) (fit : Bool)
    → form_of opcode ≡ Transfer dest → fit ≡ places_fit (regions_of given) pieces
    → Ended (record { kind = kind_by fit; portions = portions_cut given.namespace entry pieces })
    ≡ outlined given.namespace entry (planned (regions_of given) (in_transcript (judge_reading (blocks_in given.namespace) entry opcode (Spells pieces)) [] behind))
unfolding in_transcript
transfer-outline given opcode dest entry behind pieces fit form fits =
    ap Ended (transfer-portions given.namespace (blocks_in given.namespace) opcode dest entry pieces fit form)
    ∙ ap (λ (b : Bool). outlined given.namespace entry (Ended (transfer_plan b (work_of (blocks_in given.namespace) opcode entry pieces [])))) fits
    ∙ by_opcode opcode dest form
  where
    by_opcode : (o : IoOpcode) (d : Bool) → form_of o ≡ Transfer d
        → outlined given.namespace entry (Ended (transfer_plan (places_fit (regions_of given) pieces) (work_of (blocks_in given.namespace) o entry pieces [])))
        ≡ outlined given.namespace entry (planned (regions_of given) (in_transcript (judge_reading (blocks_in given.namespace) entry o (Spells pieces)) [] behind))
    by_opcode Flush d e = (cc)
    by_opcode WriteZeroes d e = (cc)
    by_opcode Read d e = refl
    by_opcode Write d e = refl
    by_opcode Compare d e = refl
    by_opcode DatasetManagement d e = (cc)

-- ---- Dataset Management

-- what one says whose ranges are refused
pub ranged-refused : (ns : Namespace) (regions : List Region) (entry : List ℕ) (pieces : List Piece) (bytes : List ℕ) (st : StatusField)
    → ranges_verdict (blocks_in ns) bytes ≡ Err st
    → told (kind.Answer st) []
    ≡ outline_of ns entry (plan_of regions (judge_ranges (blocks_in ns) DatasetManagement entry pieces (ranges_in (length bytes / 16) bytes)))
ranged-refused ns regions entry pieces bytes st refused =
    let leave = ranges-leave (blocks_in ns) bytes st refused in
    sym (ap (λ (v : Verdict). outline_of ns entry (plan_of regions v)) (judge_ranges-refused (blocks_in ns) DatasetManagement entry pieces (ranges_in (length bytes / 16) bytes) leave.0 ∙ ap Refuse (sym leave.1)))

met-portions : (ns : Namespace) (plan : Plan) (work : Work) (ats : List (ℕ × Placed))
    → ((p : ℕ × Placed) → portion_of ns (range_share plan work p.0 p.1) ≡ portion_met ns work.ranges p.0 p.1)
    → map (portion_of ns) (map (λ (p : ℕ × Placed). range_share plan work p.0 p.1) ats) ≡ map (λ (p : ℕ × Placed). portion_met ns work.ranges p.0 p.1) ats
met-portions ns plan work [] each = refl
met-portions ns plan work (p ∷ rest) each =
    ap (λ (q : Portion). q ∷ map (portion_of ns) (map (λ (x : ℕ × Placed). range_share plan work x.0 x.1) rest)) (each p)
    ∙ ap (λ (qs : List Portion). portion_met ns work.ranges p.0 p.1 ∷ qs) (met-portions ns plan work rest each)

-- and one whose ranges all fit
pub ranged-fits : (ns : Namespace) (regions : List Region) (entry : List ℕ) (pieces : List Piece) (bytes : List ℕ)
    → list_all (range_fits (blocks_in ns)) (ranges_in (length bytes / 16) bytes) ≡ true
    → told kind.Bounced (portions_from ns (ranges_in (length bytes / 16) bytes) 0 (placed 0 ns))
    ≡ outline_of ns entry (plan_of regions (judge_ranges (blocks_in ns) DatasetManagement entry pieces (ranges_in (length bytes / 16) bytes)))
ranged-fits ns regions entry pieces bytes fit =
    let work : Work = work_of (blocks_in ns) DatasetManagement entry pieces (ranges_in (length bytes / 16) bytes) in
    ap (told kind.Bounced)
    (sym (met-portions ns (Bounced work) work (enumerate_from 0 (placed 0 ns)) (λ p. refl)))
    ∙ sym (ap (λ (v : Verdict). outline_of ns entry (plan_of regions v)) (judge_ranges-fits (blocks_in ns) DatasetManagement entry pieces (ranges_in (length bytes / 16) bytes) fit))

-- ---- the whole

-- the commands that transfer blocks
pub transfer-form : (opcode : IoOpcode) → (opcode ≡ Read) ⊎ ((opcode ≡ Write) ⊎ (opcode ≡ Compare))
    → (dest : Bool) × (form_of opcode ≡ Transfer dest)
transfer-form opcode (inl is) = (true, ap form_of is)
transfer-form opcode (inr (inl is)) = (false, ap form_of is)
transfer-form opcode (inr (inr is)) = (false, ap form_of is)

pub transfer-buffer : (opcode : IoOpcode) (dest : Bool) → form_of opcode ≡ Transfer dest → has_buffer opcode ≡ true
transfer-buffer opcode dest form = ap form_has_buffer form

-- what is wanted is what the definition wants
pub outlined-wanted : (ns : Namespace) (entry : List ℕ) (outcome : Come Plan) (addr len : ℕ) → Asked addr len ≡ outlined ns entry outcome
    → outcome ≡ Asked addr len
outlined-wanted ns entry (Asked at n) addr len e = (cc)
outlined-wanted ns entry (Ended plan) addr len e = (cc)

-- and what is settled says what the definition's plan says
pub outlined-settled : (ns : Namespace) (entry : List ℕ) (outcome : Come Plan) (outline : Outline) → Ended outline ≡ outlined ns entry outcome
    → (plan : Plan) × ((outcome ≡ Ended plan) × (outline ≡ outline_of ns entry plan))
outlined-settled ns entry (Asked at n) outline e = (cc)
outlined-settled ns entry (Ended plan) outline e = (plan, (refl, (cc)))
