-- What is read next of a command, and what comes of it
use Rattle.std.proofs.Common.{◌≡◌, ℕ, ◌+◌, ◌*◌, ◌/◌, All, Bool, true, false, List, [], ◌++◌, length, length-append, drop, None, arith, refl, sym, ap, subst, ◌∙◌}
use Rattle.std.proofs.lemmas.List.Elements.{All-tail}
use Rattle.nv_entry.specs.Opcode.{data_pointer}
use Rattle.nv_entry.specs.Status.{StatusField}
use Rattle.nv_entry.specs.StatusCode.{done_with, refused_with}
use Rattle.nv_entry.specs.Submission.{psdt_of, slba_of}
use Rattle.nv_entry.specs.declared.data_pointer.DataPointer.TheVariants.{Reserved}
use Rattle.nv_entry.specs.declared.opcode.IoOpcode.{IoOpcode}
use Rattle.nv_entry.specs.declared.opcode.IoOpcode.TheVariants.{Compare, DatasetManagement, Flush, Read, Write, WriteZeroes}
use Rattle.nv_entry.specs.declared.status_code.StatusCode.{StatusCode}
use Rattle.nv_entry.specs.declared.status_code.StatusCode.TheVariants.{InternalError, InvalidField}
use Rattle.nv_judge.proofs.FieldLemmas.{in-namespace}
use Rattle.nv_judge.specs.declared.need.Need.{Need}
use Rattle.nv_mem.specs.GuestMap.{mapped}
use Rattle.nv_mem.specs.Places.{total_len}
use Rattle.nv_mem.specs.declared.piece.Piece.{Piece}
use Rattle.nv_mem.specs.declared.piece.Piece.TheVariants.{Run}
use Rattle.nv_model.specs.Dialogue.{Dialogue, End, and_then}
use Rattle.nv_model.specs.Judge.{Refuse, Transfer, Verdict, count_of, form_has_blocks, form_of, has_buffer, judge, judge_ranges, judge_reading, range_count_of, ranges_in, read_source}
use Rattle.nv_model.specs.Laws.{IsMappedPiece}
use Rattle.nv_model.specs.Reading.{Reading, Faulty, Spells}
use Rattle.nv_model.specs.Transcript.{Outcome, ReadDone, Settled, Wanted, first_read, in_transcript}
use Rattle.nv_model.specs.Want.{want_of}
use Rattle.nv_model.specs.declared.want.Want.{Want}
use Rattle.nv_model.specs.declared.want.Want.TheVariants as want
use Rattle.nv_model.proofs.ListsFed.{judged-done, judged-fault, judged-too_long, judged-wanted}
use Rattle.nv_model.proofs.RunPieces.{IsRunPiece}
use Rattle.nv_ns.specs.BlockRange.{in_namespace}
use Rattle.nv_ns.specs.Extents.{blocks_in}
use Rattle.nv_prp.specs.Fits.{places_fit}
use Rattle.nv_prp.specs.Parse.{dialogue_of as pages_of}
use Rattle.nv_sgl.specs.Parse.{dialogue_of as descriptors_of}
use Rattle.nv_world_model.specs.Geometry.{Guest, regions_of}
use Rattle.nv_world_model.specs.Plan.{plan_of, planned}
use Rattle.nv_plan.specs.Drafted.{GoesOn, IsKnown, IsListed, IsSoundStage, IsReadingList, IsSource, IsSpelledBy, ahead_at, front_of, left_of, next_at, next_of, want_at}
use Rattle.nv_plan.specs.Listed.{list_of}
use Rattle.nv_plan.specs.Parts.{HasBytes}
use Rattle.nv_plan.specs.Outline.{Outline, outline_of, outlined}
use Rattle.nv_plan.specs.declared.draft.Ahead.TheVariants as ahead
use Rattle.nv_plan.specs.declared.draft.Buffered.{Buffered}
use Rattle.nv_plan.specs.declared.draft.Stage.{Stage}
use Rattle.nv_plan.specs.declared.draft.Stage.TheVariants as stage
use Rattle.nv_plan.specs.declared.kind.PlanKind.TheVariants as kind
use Rattle.nv_plan.specs.declared.source.Source.{Source}
use Rattle.nv_plan.proofs.ListParts.{listed-done, reserved-list}
use Rattle.nv_plan.proofs.PlanCases.{kind_by, left-listed, portions_cut, ranges-some, transfer-len, transfer-outline}
use Rattle.nv_plan.proofs.RangeReads.{drop-one, front-none, front-no_turn, front-run, source-met, source-wanted, source_over}

-- ---- how it begins

-- a reserved data pointer is refused
pub left-reserved : (given : Guest) (entry : List ℕ) (opcode : IoOpcode) (need : Need) (st : StatusField)
    → IsKnown given entry opcode need → has_buffer opcode ≡ true → data_pointer (psdt_of entry) ≡ Reserved → st ≡ refused_with InvalidField
    → End (Refuse st) ≡ judge (mapped (regions_of given)) given.limit (blocks_in given.namespace) entry
unfolding and_then
left-reserved given entry opcode need st known buffer pointer same =
    ap (λ (s : StatusField). End (Refuse s)) same
    ∙ left-listed given entry opcode need (list_of Reserved (regions_of given) given.limit need entry) known buffer
    (reserved-list (regions_of given) given.limit need entry pointer)

-- and so is one by PRP that is faulty before a list
pub left-fault : (given : Guest) (entry : List ℕ) (opcode : IoOpcode) (need : Need) (code : StatusCode) (st : StatusField)
    → IsKnown given entry opcode need → has_buffer opcode ≡ true
    → End (Faulty code) ≡ list_of (data_pointer (psdt_of entry)) (regions_of given) given.limit need entry → st ≡ refused_with code
    → End (Refuse st) ≡ judge (mapped (regions_of given)) given.limit (blocks_in given.namespace) entry
unfolding and_then
left-fault given entry opcode need code st known buffer is same =
    ap (λ (s : StatusField). End (Refuse s)) same
    ∙ left-listed given entry opcode need (End (Faulty code)) known buffer is

-- ---- what comes next, by what the parse wants

pub next-read : (opcode : IoOpcode) (w : Want) (addr len : ℕ) → next_of opcode w ≡ ahead.Read addr len → w ≡ want.Read addr len
next-read opcode (want.Read a n) addr len e = let at : a ≡ addr = (cc) in let size : n ≡ len = (cc) in ap (λ (x : ℕ). want.Read x n) at ∙ ap (want.Read addr) size
next-read opcode (want.Fault st) addr len e = absurd (cc)
next-read opcode want.TooLong addr len e = absurd (cc)
next-read Flush want.Done addr len e = absurd (cc)
next-read Write want.Done addr len e = absurd (cc)
next-read Read want.Done addr len e = absurd (cc)
next-read Compare want.Done addr len e = absurd (cc)
next-read WriteZeroes want.Done addr len e = absurd (cc)
next-read DatasetManagement want.Done addr len e = absurd (cc)

-- no part of a list is read where PRP1 and PRP2 name all pages
named-no_read : (opcode : IoOpcode) (addr len : ℕ) → next_of opcode want.Done ≡ ahead.Read addr len → ⊥
named-no_read opcode addr len next = let read : want.Done ≡ want.Read addr len = next-read opcode want.Done addr len next in (cc)

pub next-turn : (opcode : IoOpcode) (w : Want) → next_of opcode w ≡ ahead.Turn → (w ≡ want.Done) × (opcode ≡ DatasetManagement)
next-turn opcode (want.Read a n) e = absurd (cc)
next-turn opcode (want.Fault st) e = absurd (cc)
next-turn opcode want.TooLong e = absurd (cc)
next-turn Flush want.Done e = absurd (cc)
next-turn Write want.Done e = absurd (cc)
next-turn Read want.Done e = absurd (cc)
next-turn Compare want.Done e = absurd (cc)
next-turn WriteZeroes want.Done e = absurd (cc)
next-turn DatasetManagement want.Done e = (refl, refl)

-- a list with a buffer that is at its end is a transfer's
pub next-transfer : (opcode : IoOpcode) (w : Want) → has_buffer opcode ≡ true → w ≡ want.Done → next_of opcode w ≡ ahead.End
    → (dest : Bool) × (form_of opcode ≡ Transfer dest)
next-transfer opcode (want.Read a n) buffer done e = absurd (cc)
next-transfer opcode (want.Fault st) buffer done e = absurd (cc)
next-transfer opcode want.TooLong buffer done e = absurd (cc)
next-transfer Flush want.Done buffer done e = absurd (cc)
next-transfer Write want.Done buffer done e = (false, refl)
next-transfer Read want.Done buffer done e = (true, refl)
next-transfer Compare want.Done buffer done e = (false, refl)
next-transfer WriteZeroes want.Done buffer done e = absurd (cc)
next-transfer DatasetManagement want.Done buffer done e = absurd (cc)

pub next-no_read : (opcode : IoOpcode) (w : Want) (addr len : ℕ) → w ≡ want.Read addr len → next_of opcode w ≡ ahead.End → ⊥
next-no_read opcode (want.Read a n) addr len is e = (cc)
next-no_read opcode (want.Fault st) addr len is e = (cc)
next-no_read opcode want.TooLong addr len is e = (cc)
next-no_read opcode want.Done addr len is e = (cc)

-- ---- the ranges

-- what is made of the bytes of the ranges
abbrev pub judged_ranges : Guest → List ℕ → List Piece → List ℕ → Verdict
judged_ranges given entry pieces bytes = judge_ranges (blocks_in given.namespace) DatasetManagement entry pieces (ranges_in (range_count_of entry) bytes)

-- they come after a list that names them
pub source-start : (given : Guest) (entry : List ℕ) (b : Buffered) (d : Dialogue Reading) (pieces : List Piece) (source : Source)
    → IsListed given entry b d → b.opcode ≡ DatasetManagement → d ≡ End (Spells pieces)
    → source.places ≡ pieces → source.read ≡ 0 → source.bytes.items ≡ []
    → IsSource given entry source
source-start given entry b d pieces source listed manage is places none bytes =
    let known : IsKnown given entry DatasetManagement b.need = subst (λ (o : IoOpcode). IsKnown given entry o b.need) manage listed.known in
    let some = ranges-some entry b.need known.needs in
    let most = some.1.1 in
    let spelled = listed-done given entry b d pieces listed is in
    let left : left_of source ≡ pieces = ap (λ (n : ℕ). drop n source.places) none ∙ places in
    let total : total_len (left_of source) ≡ b.need.bytes = ap total_len left ∙ spelled.0.of_len.total in
    let nothing : length source.bytes.items ≡ 0 = ap length bytes in
    let len = some.0 in
    let source_of : b.need.dest ≡ false = ap (λ (n : Need). n.dest) known.needs in
    record {
      known = record { unrefused = known.unrefused; known = known.known; needs = refl };
      short = omega arith;
      runs = subst (λ (ps : List Piece). All IsRunPiece ps) (sym left) (spelled.0.runs source_of);
      many = omega arith;
    }

pub source-left : (given : Guest) (entry : List ℕ) (b : Buffered) (d : Dialogue Reading) (pieces : List Piece) (source : Source)
    → b.opcode ≡ DatasetManagement → d ≡ End (Spells pieces)
    → source.places ≡ pieces → source.read ≡ 0 → source.bytes.items ≡ []
    → and_then (read_source (left_of source) source.bytes.items) (λ bytes. End (judged_ranges given entry source.places bytes))
    ≡ and_then d (judge_reading (blocks_in given.namespace) entry b.opcode)
unfolding and_then
source-left given entry b d pieces source manage is places none bytes =
    let left : left_of source ≡ pieces = ap (λ (n : ℕ). drop n source.places) none ∙ places in
    ap (λ (ps : List Piece). and_then (read_source ps source.bytes.items) (λ all. End (judged_ranges given entry source.places all))) left
    ∙ ap (λ (bs : List ℕ). and_then (read_source pieces bs) (λ all. End (judged_ranges given entry source.places all))) bytes
    ∙ ap (λ (ps : List Piece). and_then (read_source pieces []) (λ all. End (judged_ranges given entry ps all))) places
    ∙ sym (ap (λ (x : Dialogue Reading). and_then x (judge_reading (blocks_in given.namespace) entry b.opcode)) is
    ∙ ap (λ (o : IoOpcode). judge_reading (blocks_in given.namespace) entry o (Spells pieces)) manage)

-- each run goes on with them
pub source-more : (given : Guest) (entry : List ℕ) (source next : Source) (addr : ℕ) (run : List ℕ)
    → IsSource given entry source → front_of (left_of source) ≡ ahead.Read addr (length run)
    → next.places ≡ source.places → next.read ≡ source.read + 1 → next.bytes.items ≡ source.bytes.items ++ run
    → IsSource given entry next
source-more given entry source next addr run is front places read bytes =
    let first = front-run (left_of source) addr (length run) front in
    let rest : List Piece = first.0 in
    let sized = first.1.sized in
    let left : left_of next ≡ rest =
    ap (λ (ps : List Piece). drop next.read ps) places ∙ ap (λ (n : ℕ). drop n source.places) read
    ∙ drop-one source.read source.places (Run addr (length run)) rest first.1.is in
    let fewer : total_len (left_of next) ≡ total_len rest = ap total_len left in
    let longer : length next.bytes.items ≡ length source.bytes.items + length run = ap length bytes ∙ length-append source.bytes.items run in
    let short = is.short in
    let many = is.many in
    record {
      known = is.known;
      short = omega arith;
      runs =
          subst (λ (ps : List Piece). All IsRunPiece ps) (sym left)
          (All-tail IsRunPiece (Run addr (length run)) rest (subst (λ (ps : List Piece). All IsRunPiece ps) first.1.is is.runs));
      many = omega arith;
    }

pub source-on : (given : Guest) (entry : List ℕ) (source next : Source) (addr : ℕ) (run : List ℕ)
    → IsSource given entry source → front_of (left_of source) ≡ ahead.Read addr (length run)
    → next.places ≡ source.places → next.read ≡ source.read + 1 → next.bytes.items ≡ source.bytes.items ++ run
    → GoesOn (and_then (read_source (left_of source) source.bytes.items) (λ bytes. End (judged_ranges given entry source.places bytes))) addr run
    (and_then (read_source (left_of next) next.bytes.items) (λ bytes. End (judged_ranges given entry next.places bytes)))
source-on given entry source next addr run is front places read bytes = λ reads others found.
    let first = front-run (left_of source) addr (length run) front in
    let rest : List Piece = first.0 in
    let sized = first.1.sized in
    let short = is.short in
    let f : List ℕ → Verdict = judged_ranges given entry source.places in
    let left : left_of next ≡ rest =
    ap (λ (ps : List Piece). drop next.read ps) places ∙ ap (λ (n : ℕ). drop n source.places) read
    ∙ drop-one source.read source.places (Run addr (length run)) rest first.1.is in
    ap (λ (ps : List Piece). source_over ps source.bytes.items reads f) first.1.is
    ∙ sym (source-met addr (length run) rest source.bytes.items reads f run others (omega arith) found)
    ∙ sym (ap (λ (ps : List Piece). source_over (left_of next) next.bytes.items others (judged_ranges given entry ps)) places
    ∙ ap (λ (ps : List Piece). source_over ps next.bytes.items others f) left
    ∙ ap (λ (bs : List ℕ). source_over rest bs others f) bytes)

-- none is left at the end: as many bytes were read as the ranges have
pub source-end : (given : Guest) (entry : List ℕ) (source : Source) → IsSource given entry source → front_of (left_of source) ≡ ahead.End
    → length source.bytes.items ≡ 16 * range_count_of entry
source-end given entry source is front =
    let none = ap total_len (front-none (left_of source) is.runs front) in
    let many = is.many in omega arith

pub source-says : (given : Guest) (entry : List ℕ) (source : Source) (outline : Outline) (reads : List ReadDone)
    → IsSource given entry source → front_of (left_of source) ≡ ahead.End
    → outline ≡ outline_of given.namespace entry (plan_of (regions_of given) (judge_ranges (blocks_in given.namespace) DatasetManagement entry source.places (ranges_in (length source.bytes.items / 16) source.bytes.items)))
    → Settled outline
    ≡ outlined given.namespace entry (planned (regions_of given) (source_over (left_of source) source.bytes.items reads (judged_ranges given entry source.places)))
unfolding read_source and_then in_transcript
source-says given entry source outline reads is front says =
    let len = source-end given entry source is front in
    let count : length source.bytes.items / 16 ≡ range_count_of entry = omega arith in
    ap Settled says
    ∙ ap (λ (n : ℕ). Settled (outline_of given.namespace entry (plan_of (regions_of given) (judge_ranges (blocks_in given.namespace) DatasetManagement entry source.places (ranges_in n source.bytes.items))))) count
    ∙ sym (ap (λ (ps : List Piece). outlined given.namespace entry (planned (regions_of given) (source_over ps source.bytes.items reads (judged_ranges given entry source.places)))) (front-none (left_of source) is.runs front))

-- ---- any stage

-- what no read meets is wanted
pub stage-wanted : {A : Type 0} (given : Guest) (entry : List ℕ) (s : Stage A) (addr len : ℕ) (reads : List ReadDone)
    → IsSoundStage given entry s → next_at s ≡ ahead.Read addr len → first_read addr len reads ≡ None
    → in_transcript (ahead_at (blocks_in given.namespace) entry s) [] reads ≡ Wanted addr len
stage-wanted given entry (stage.Refused st) addr len reads sound next none = absurd (cc)
stage-wanted given entry (stage.Bare opcode) addr len reads sound next none = absurd (cc)
stage-wanted given entry (stage.Named b runs) addr len reads sound next none = absurd (named-no_read b.opcode addr len next)
stage-wanted given entry (stage.Pages b parse) addr len reads sound next none =
    judged-wanted (blocks_in given.namespace) entry b.opcode (pages_of parse.value) addr len reads (next-read b.opcode (want_of (pages_of parse.value)) addr len next) none
stage-wanted given entry (stage.Descriptors b parse) addr len reads sound next none =
    judged-wanted (blocks_in given.namespace) entry b.opcode (descriptors_of parse) addr len reads (next-read b.opcode (want_of (descriptors_of parse)) addr len next) none
stage-wanted given entry (stage.Ranges source) addr len reads sound next none =
    let first = front-run (left_of source) addr len next in
    let short = sound.short in
    let sized = first.1.sized in
    ap (λ (ps : List Piece). source_over ps source.bytes.items reads (judged_ranges given entry source.places)) first.1.is
    ∙ source-wanted addr len first.0 source.bytes.items reads (judged_ranges given entry source.places) (omega arith) none

-- a stage that turns has read a list that names the ranges
pub stage-turn : {A : Type 0} (s : Stage A) → next_at s ≡ ahead.Turn → want_at s ≡ want.Done
stage-turn (stage.Refused st) next = absurd (cc)
stage-turn (stage.Bare opcode) next = absurd (cc)
stage-turn (stage.Named b runs) next = refl
stage-turn (stage.Pages b parse) next = (next-turn b.opcode (want_of (pages_of parse.value)) next).0
stage-turn (stage.Descriptors b parse) next = (next-turn b.opcode (want_of (descriptors_of parse)) next).0
stage-turn (stage.Ranges source) next = absurd (front-no_turn (left_of source) next)

pub stage-turned : {A : Type 0} (given : Guest) (entry : List ℕ) (s : Stage A) (pieces : List Piece) (source : Source)
    → IsSoundStage given entry s → next_at s ≡ ahead.Turn → IsSpelledBy s pieces
    → source.places ≡ pieces → source.read ≡ 0 → source.bytes.items ≡ []
    → IsSoundStage {A = A} given entry (stage.Ranges source) × (ahead_at {A = A} (blocks_in given.namespace) entry (stage.Ranges source) ≡ ahead_at (blocks_in given.namespace) entry s)
stage-turned given entry (stage.Refused st) pieces source sound next spelled places none bytes = absurd spelled
stage-turned given entry (stage.Bare opcode) pieces source sound next spelled places none bytes = absurd spelled
stage-turned given entry (stage.Named b runs) pieces source sound next spelled places none bytes =
    let turn = next-turn b.opcode want.Done next in
    (source-start given entry b (End (Spells runs)) pieces source sound turn.1 spelled places none bytes, source-left given entry b (End (Spells runs)) pieces source turn.1 spelled places none bytes)
stage-turned given entry (stage.Pages b parse) pieces source sound next spelled places none bytes =
    let turn = next-turn b.opcode (want_of (pages_of parse.value)) next in
    (source-start given entry b (pages_of parse.value) pieces source sound turn.1 spelled places none bytes, source-left given entry b (pages_of parse.value) pieces source turn.1 spelled places none bytes)
stage-turned given entry (stage.Descriptors b parse) pieces source sound next spelled places none bytes =
    let turn = next-turn b.opcode (want_of (descriptors_of parse)) next in
    (source-start given entry b (descriptors_of parse) pieces source sound turn.1 spelled places none bytes, source-left given entry b (descriptors_of parse) pieces source turn.1 spelled places none bytes)
stage-turned given entry (stage.Ranges source') pieces source sound next spelled places none bytes = absurd spelled

-- ---- what a list's plan says

-- one that is refused
pub fault-says : (given : Guest) (entry : List ℕ) (opcode : IoOpcode) (d : Dialogue Reading) (st : StatusField) (reads : List ReadDone)
    → want_of d ≡ want.Fault st
    → Settled (record { kind = kind.Answer st; portions = [] })
    ≡ outlined given.namespace entry (planned (regions_of given) (in_transcript (and_then d (judge_reading (blocks_in given.namespace) entry opcode)) [] reads))
fault-says given entry opcode d st reads wanted =
    sym (ap (λ (v : Outcome Verdict). outlined given.namespace entry (planned (regions_of given) v)) (judged-fault (blocks_in given.namespace) entry opcode d st reads wanted))

-- or too long
pub too_long-says : (given : Guest) (entry : List ℕ) (opcode : IoOpcode) (d : Dialogue Reading) (reads : List ReadDone)
    → want_of d ≡ want.TooLong
    → Settled (record { kind = kind.Answer (done_with InternalError); portions = [] })
    ≡ outlined given.namespace entry (planned (regions_of given) (in_transcript (and_then d (judge_reading (blocks_in given.namespace) entry opcode)) [] reads))
too_long-says given entry opcode d reads wanted =
    sym (ap (λ (v : Outcome Verdict). outlined given.namespace entry (planned (regions_of given) v)) (judged-too_long (blocks_in given.namespace) entry opcode d reads wanted))

-- or spells the places of a transfer
pub transfer-says : (given : Guest) (entry : List ℕ) (opcode : IoOpcode) (dest : Bool) (d : Dialogue Reading) (pieces : List Piece) (fit : Bool) (reads : List ReadDone)
    → form_of opcode ≡ Transfer dest → d ≡ End (Spells pieces) → fit ≡ places_fit (regions_of given) pieces
    → Settled (record { kind = kind_by fit; portions = portions_cut given.namespace entry pieces })
    ≡ outlined given.namespace entry (planned (regions_of given) (in_transcript (and_then d (judge_reading (blocks_in given.namespace) entry opcode)) [] reads))
transfer-says given entry opcode dest d pieces fit reads form is fits =
    transfer-outline given opcode dest entry reads pieces fit form fits
    ∙ sym (ap (λ (v : Outcome Verdict). outlined given.namespace entry (planned (regions_of given) v)) (judged-done (blocks_in given.namespace) entry opcode d pieces reads is))

-- what is known of these places, and what the plan says then
pub record IsTransfer (given : Guest) (entry : List ℕ) (pieces : List Piece) (left : Dialogue Verdict) : Type 0 where
  pub inside : in_namespace (slba_of entry) (count_of entry) (blocks_in given.namespace) ≡ true
  pub len : total_len pieces ≡ 512 * count_of entry
  pub some : All HasBytes pieces
  pub all_mapped : All (IsMappedPiece (mapped (regions_of given))) pieces
  pub says : (fit : Bool) (reads : List ReadDone) → fit ≡ places_fit (regions_of given) pieces
      → Settled (record { kind = kind_by fit; portions = portions_cut given.namespace entry pieces })
      ≡ outlined given.namespace entry (planned (regions_of given) (in_transcript left [] reads))

list-transfers : (given : Guest) (entry : List ℕ) (b : Buffered) (d : Dialogue Reading) (pieces : List Piece)
    → IsListed given entry b d → next_of b.opcode (want_of d) ≡ ahead.End → want_of d ≡ want.Done → d ≡ End (Spells pieces)
    → IsTransfer given entry pieces (and_then d (judge_reading (blocks_in given.namespace) entry b.opcode))
list-transfers given entry b d pieces listed next done is =
    let form = next-transfer b.opcode (want_of d) listed.buffer done next in
    let spelled = listed-done given entry b d pieces listed is in
    let few = transfer-len given entry b.opcode b.need form.0 listed.known form.1 in
    record {
      inside = in-namespace (blocks_in given.namespace) entry b.opcode listed.known.unrefused listed.known.known (ap form_has_blocks form.1);
      len = spelled.0.of_len.total ∙ few;
      some = spelled.1;
      all_mapped = spelled.0.of_len.mapped_each;
      says = λ fit reads fits. transfer-says given entry b.opcode form.0 d pieces fit reads form.1 is fits;
    }

pub stage-transfers : {A : Type 0} (given : Guest) (entry : List ℕ) (s : Stage A) (pieces : List Piece)
    → IsSoundStage given entry s → next_at s ≡ ahead.End → want_at s ≡ want.Done → IsSpelledBy s pieces
    → IsTransfer given entry pieces (ahead_at (blocks_in given.namespace) entry s)
stage-transfers given entry (stage.Refused st) pieces sound next done spelled = absurd spelled
stage-transfers given entry (stage.Bare opcode) pieces sound next done spelled = absurd spelled
stage-transfers given entry (stage.Named b runs) pieces sound next done spelled = list-transfers given entry b (End (Spells runs)) pieces sound next refl spelled
stage-transfers given entry (stage.Pages b parse) pieces sound next done spelled = list-transfers given entry b (pages_of parse.value) pieces sound next done spelled
stage-transfers given entry (stage.Descriptors b parse) pieces sound next done spelled = list-transfers given entry b (descriptors_of parse) pieces sound next done spelled
stage-transfers given entry (stage.Ranges source) pieces sound next done spelled = absurd spelled

-- what the plan of a list says that is refused, or is too long
pub stage-fault : {A : Type 0} (given : Guest) (entry : List ℕ) (s : Stage A) (st : StatusField) (reads : List ReadDone)
    → want_at s ≡ want.Fault st
    → Settled (record { kind = kind.Answer st; portions = [] })
    ≡ outlined given.namespace entry (planned (regions_of given) (in_transcript (ahead_at (blocks_in given.namespace) entry s) [] reads))
stage-fault given entry (stage.Refused st') st reads wanted = absurd (cc)
stage-fault given entry (stage.Bare opcode) st reads wanted = absurd (cc)
stage-fault given entry (stage.Named b runs) st reads wanted = absurd (cc)
stage-fault given entry (stage.Pages b parse) st reads wanted = fault-says given entry b.opcode (pages_of parse.value) st reads wanted
stage-fault given entry (stage.Descriptors b parse) st reads wanted = fault-says given entry b.opcode (descriptors_of parse) st reads wanted
stage-fault given entry (stage.Ranges source) st reads wanted = absurd (cc)

pub stage-read : {A : Type 0} (s : Stage A) (addr len : ℕ) → want_at s ≡ want.Read addr len → next_at s ≡ ahead.End → ⊥
stage-read (stage.Refused st') addr len wanted next = (cc)
stage-read (stage.Bare opcode) addr len wanted next = (cc)
stage-read (stage.Named b runs) addr len wanted next = (cc)
stage-read (stage.Pages b parse) addr len wanted next = next-no_read b.opcode (want_of (pages_of parse.value)) addr len wanted next
stage-read (stage.Descriptors b parse) addr len wanted next = next-no_read b.opcode (want_of (descriptors_of parse)) addr len wanted next
stage-read (stage.Ranges source) addr len wanted next = (cc)

-- or too long; what is no list never is
pub stage-too_long : {A : Type 0} (given : Guest) (entry : List ℕ) (s : Stage A) (st : StatusField) (reads : List ReadDone)
    → IsReadingList s → want_at s ≡ want.TooLong → st ≡ done_with InternalError
    → Settled (record { kind = kind.Answer st; portions = [] })
    ≡ outlined given.namespace entry (planned (regions_of given) (in_transcript (ahead_at (blocks_in given.namespace) entry s) [] reads))
stage-too_long given entry (stage.Refused st') st reads reading wanted same = absurd reading
stage-too_long given entry (stage.Bare opcode) st reads reading wanted same = absurd reading
stage-too_long given entry (stage.Named b runs) st reads reading wanted same = absurd (cc)
stage-too_long given entry (stage.Pages b parse) st reads reading wanted same =
    ap (λ (x : StatusField). Settled (record { kind = kind.Answer x; portions = [] })) same ∙ too_long-says given entry b.opcode (pages_of parse.value) reads wanted
stage-too_long given entry (stage.Descriptors b parse) st reads reading wanted same =
    ap (λ (x : StatusField). Settled (record { kind = kind.Answer x; portions = [] })) same ∙ too_long-says given entry b.opcode (descriptors_of parse) reads wanted
stage-too_long given entry (stage.Ranges source) st reads reading wanted same = absurd reading

-- what is said of a stage is said of what it is
pub stage-says : {A : Type 0} (given : Guest) (entry : List ℕ) (s t : Stage A) (reads : List ReadDone) → s ≡ t
    → outlined given.namespace entry (planned (regions_of given) (in_transcript (ahead_at (blocks_in given.namespace) entry s) [] reads))
    ≡ outlined given.namespace entry (planned (regions_of given) (in_transcript (ahead_at (blocks_in given.namespace) entry t) [] reads))
stage-says {A} given entry s t reads is =
    ap (λ (x : Stage A). outlined given.namespace entry (planned (regions_of given) (in_transcript (ahead_at (blocks_in given.namespace) entry x) [] reads))) is

-- the bytes of a source that was read
pub stage-bytes : {A : Type 0} (given : Guest) (entry : List ℕ) (s : Stage A) (source : Source) → s ≡ stage.Ranges source
    → IsSoundStage given entry s → next_at s ≡ ahead.End → length source.bytes.items ≡ 16 * range_count_of entry
stage-bytes {A} given entry s source is sound next =
    source-end given entry source (subst (λ (x : Stage A). IsSoundStage given entry x) is sound) (ap (λ (x : Stage A). next_at x) (sym is) ∙ next)
