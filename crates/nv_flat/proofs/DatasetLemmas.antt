-- Dataset Management, once its list is read
use Rattle.std.proofs.Common.{◌≡◌, ℕ, ◌+◌, ◌*◌, ◌/◌, ◌≤◌, ◌<◌, Bool, true, false, ◌==◌}
use Rattle.std.proofs.Common.{Err, List, [], length, take, drop, refl, sym, ap, ◌∙◌, arith, eq-eqb, inl, inr}
use Rattle.std.specs.Prelude.{IsTrue, ◌↔◌}
use Rattle.std.specs.List.{list_all, range_with_len}
use Rattle.std.proofs.lemmas.Bool.{cases_eq}
use Rattle.std.proofs.lemmas.Bool.Decides.{nat_tests}
use Rattle.nv_entry.specs.Range.{blocks_of, start_of}
use Rattle.nv_entry.specs.Status.{StatusField}
use Rattle.nv_entry.specs.StatusCode.{done_with}
use Rattle.nv_entry.specs.declared.opcode.IoOpcode.TheVariants.{DatasetManagement}
use Rattle.nv_entry.specs.declared.status_code.StatusCode.TheVariants.{Success}
use Rattle.nv_judge.specs.Need.{HasFieldsInOrder, need_of}
use Rattle.nv_judge.specs.Ranges.{ranges_verdict}
use Rattle.nv_judge.proofs.RangeLemmas.{both-fit, ranges-leave, ranges_in-more, ranges_in-none}
use Rattle.nv_model.proofs.JudgeCases.{judge_ranges-fits, judge_ranges-refused}
use Rattle.std.proofs.Math.Seq.{take-length}
use Rattle.nv_mem.specs.Places.{Place, places_of}
use Rattle.nv_mem.specs.declared.piece.Piece.{Piece}
use Rattle.nv_model.specs.Dialogue.{End, in_memory}
use Rattle.nv_model.specs.Memory.{byte_in, gathered}
use Rattle.nv_model.specs.Reading.{Spells}
use Rattle.nv_model.specs.Judge.{Work, Refuse, Go, judge_ranges, range_count_of, range_fits, range_units, ranges_in, read_source, work_of, deallocates}
use Rattle.nv_model.specs.Carried.{units_moved}
use Rattle.nv_model.specs.Carrying.{cleared}
use Rattle.nv_model.specs.Private.{verdict_in}
use Rattle.nv_model.proofs.DialogueLemmas.{in_memory-and_then}
use Rattle.nv_model.proofs.MemoryLemmas.{length-gathered}
use Rattle.nv_disk.specs.Flat.{Flat, moved_of}
use Rattle.nv_flat.specs.Listed.{list_reading}
use Rattle.nv_flat.specs.One.{IsRun, shape_of}
use Rattle.nv_flat.proofs.DoneLemmas.{list-verdict, range-within}
use Rattle.nv_flat.proofs.OneLemmas.{moved-run, refused-run}
use Rattle.nv_flat.proofs.PieceLemmas.{read_source-gathered, spelled-usable}
use Rattle.nv_flat.proofs.WorkLemmas.{deallocated-more, ranges-kept}

-- what is known of a Dataset Management whose list is read, and these are the bytes that it names
pub record IsManaged (f : Flat) (entry : List ℕ) (pieces : List Piece) (bytes : List ℕ) : Type 0 where
  pub in_order : HasFieldsInOrder (length f.disk) entry DatasetManagement (need_of entry DatasetManagement)
  pub spelled : list_reading f entry (need_of entry DatasetManagement) ≡ Spells pieces
  pub taken : bytes ≡ gathered (byte_in f.memory) (places_of pieces)
  pub whole : length bytes ≡ 16 * range_count_of entry

pub managed : (f : Flat) (entry : List ℕ) (pieces : List Piece) (bytes memory : List ℕ) (places : List Place) (n : ℕ)
    → HasFieldsInOrder (length f.disk) entry DatasetManagement (need_of entry DatasetManagement)
    → list_reading f entry (need_of entry DatasetManagement) ≡ Spells pieces
    → memory ≡ f.memory → places ≡ places_of pieces → n ≡ 16 * range_count_of entry
    → bytes ≡ gathered (byte_in memory) (take n places)
    → IsManaged f entry pieces bytes
managed f entry pieces bytes memory places n o read same_memory same_places whole taken =
    let total : length (places_of pieces) ≡ 16 * range_count_of entry = (spelled-usable f entry (need_of entry DatasetManagement) pieces read).total in
    let all : n ≡ length (places_of pieces) = omega arith in
    let at_places : bytes ≡ gathered (byte_in f.memory) (places_of pieces) =
    taken
    ∙ ap (λ (m : List ℕ). gathered (byte_in m) (take n places)) same_memory
    ∙ ap (λ (ps : List Place). gathered (byte_in f.memory) (take n ps)) same_places
    ∙ ap (λ (k : ℕ). gathered (byte_in f.memory) (take k (places_of pieces))) all
    ∙ ap (gathered (byte_in f.memory)) (take-length (places_of pieces)) in
    record {
      in_order = o;
      spelled = read;
      taken = at_places;
      whole = ap length at_places ∙ length-gathered (byte_in f.memory) (places_of pieces) ∙ total;
    }

-- the verdict on it
managed-verdict : (f : Flat) (entry : List ℕ) (pieces : List Piece) (bytes : List ℕ) → IsManaged f entry pieces bytes
    → verdict_in (shape_of f) (byte_in f.memory) entry ≡ judge_ranges (length f.disk) DatasetManagement entry pieces (ranges_in (length bytes / 16) bytes)
unfolding in_memory
managed-verdict f entry pieces bytes m =
    let usable = spelled-usable f entry (need_of entry DatasetManagement) pieces m.spelled in
    let count : range_count_of entry ≡ length bytes / 16 = (let whole = m.whole in omega arith) in
    list-verdict f entry DatasetManagement (need_of entry DatasetManagement) (Spells pieces) m.in_order refl m.spelled
    ∙ in_memory-and_then (byte_in f.memory) (read_source pieces []) (λ source. End (judge_ranges (length f.disk) DatasetManagement entry pieces (ranges_in (range_count_of entry) source)))
    ∙ ap (λ (source : List ℕ). judge_ranges (length f.disk) DatasetManagement entry pieces (ranges_in (range_count_of entry) source))
    (read_source-gathered (byte_in f.memory) pieces [] (usable.runs refl) ∙ sym m.taken)
    ∙ ap (λ (n : ℕ). judge_ranges (length f.disk) DatasetManagement entry pieces (ranges_in n bytes)) count

-- refused by its ranges
pub managed-refused : (f : Flat) (entry : List ℕ) (pieces : List Piece) (bytes : List ℕ) (st : StatusField)
    → IsManaged f entry pieces bytes
    → ranges_verdict (length f.disk) bytes ≡ Err st → IsRun f entry st f
managed-refused f entry pieces bytes st m refused =
    refused-run f entry st
    (let leave = ranges-leave (length f.disk) bytes st refused in
    managed-verdict f entry pieces bytes m
    ∙ judge_ranges-refused (length f.disk) DatasetManagement entry pieces (ranges_in (length bytes / 16) bytes) leave.0
    ∙ ap Refuse (sym leave.1))

-- the work of one whose ranges fit
managed-goes : (f : Flat) (entry : List ℕ) (pieces : List Piece) (bytes : List ℕ) → IsManaged f entry pieces bytes
    → list_all (range_fits (length f.disk)) (ranges_in (length bytes / 16) bytes) ≡ true
    → verdict_in (shape_of f) (byte_in f.memory) entry ≡ Go (work_of (length f.disk) DatasetManagement entry pieces (ranges_in (length bytes / 16) bytes))
managed-goes f entry pieces bytes m fit =
    managed-verdict f entry pieces bytes m ∙ judge_ranges-fits (length f.disk) DatasetManagement entry pieces (ranges_in (length bytes / 16) bytes) fit

-- deallocated
pub managed-deallocated : (f g : Flat) (entry : List ℕ) (pieces : List Piece) (bytes : List ℕ)
    → IsManaged f entry pieces bytes
    → list_all (range_fits (length f.disk)) (ranges_in (length bytes / 16) bytes) ≡ true → deallocates entry ≡ true
    → ((work : Work) → moved_of g false ≡ units_moved (range_units true (ranges_in (length bytes / 16) bytes)) work (moved_of f false))
    → IsRun f entry (done_with Success) g
managed-deallocated f g entry pieces bytes m fit asked moved =
    let ranges : List (List ℕ) = ranges_in (length bytes / 16) bytes in
    let work : Work = work_of (length f.disk) DatasetManagement entry pieces ranges in
    moved-run f g entry work false (managed-goes f entry pieces bytes m fit)
    (moved work ∙ ap (λ (flag : Bool). units_moved (range_units flag ranges) work (moved_of f false)) (sym asked))

-- or left as they are
pub managed-kept : (f : Flat) (entry : List ℕ) (pieces : List Piece) (bytes : List ℕ) → IsManaged f entry pieces bytes
    → list_all (range_fits (length f.disk)) (ranges_in (length bytes / 16) bytes) ≡ true → deallocates entry ≡ false
    → IsRun f entry (done_with Success) f
managed-kept f entry pieces bytes m fit unasked =
    let ranges : List (List ℕ) = ranges_in (length bytes / 16) bytes in
    let work : Work = work_of (length f.disk) DatasetManagement entry pieces ranges in
    moved-run f f entry work false (managed-goes f entry pieces bytes m fit)
    (sym (ranges-kept work ranges (moved_of f false)) ∙ ap (λ (flag : Bool). units_moved (range_units flag ranges) work (moved_of f false)) (sym unasked))

-- a flag that is set exactly where a bit is 1
pub is-asked : (b : Bool) (n : ℕ) → (IsTrue b ↔ (n ≡ 1)) → (n == 1) ≡ b
is-asked true n same = eq-eqb n 1 (same.0 refl)
is-asked false n same =
    elim (cases_eq n 1) [ inl one ↦ let bad = same.1 one in (cc) | inr other ↦ unlike-eqb n 1 other ]
  where
    unlike-eqb : (x y : ℕ) → (x ≡ y → ⊥) → (x == y) ≡ false
    unlike-eqb x y unlike = grind (arith, nat_tests)

-- ---- a loop over the ranges

-- what it keeps
pub record IsDeallocating (old : Flat) (all : List ℕ) (f : Flat) (rest : List ℕ) : Type 0 where
  pub fit : list_all (range_fits (length old.disk)) (ranges_in (length rest / 16) rest) ≡ true
  pub moved : (work : Work)
      → units_moved (range_units true (ranges_in (length rest / 16) rest)) work (moved_of f false)
      ≡ units_moved (range_units true (ranges_in (length all / 16) all)) work (moved_of old false)
  pub memory_size : length f.memory ≡ length old.memory
  pub disk_size : length f.disk ≡ length old.disk

pub IsDeallocating-fits : (old : Flat) (all : List ℕ) (f : Flat) (rest range more : List ℕ)
    → IsDeallocating old all f rest
    → range ≡ take 16 rest → more ≡ drop 16 rest → length more + 16 ≡ length rest
    → start_of range + blocks_of range ≤ length f.disk
IsDeallocating-fits old all f rest range more so_far first others sized =
    let fits = (both-fit (length old.disk) rest range more first others sized so_far.fit).0 in
    let within = range-within (start_of range) (blocks_of range) (length old.disk) fits in
    let size = so_far.disk_size in
    omega arith

pub IsDeallocating-more : (old : Flat) (all : List ℕ) (f g : Flat) (rest range more : List ℕ)
    → IsDeallocating old all f rest
    → range ≡ take 16 rest → more ≡ drop 16 rest → length more + 16 ≡ length rest
    → moved_of g false ≡ cleared (range_with_len (start_of range) (blocks_of range)) false (moved_of f false)
    → length g.memory ≡ length f.memory → length g.disk ≡ length f.disk → IsDeallocating old all g more
IsDeallocating-more old all f g rest range more so_far first others sized moved memory_size disk_size =
    let later : List (List ℕ) = ranges_in (length more / 16) more in
    record {
      fit = (both-fit (length old.disk) rest range more first others sized so_far.fit).1;
      moved = λ work.
          ap (units_moved (range_units true later) work) moved
          ∙ sym (deallocated-more range later work (moved_of f false))
          ∙ ap (λ (ranges : List (List ℕ)). units_moved (range_units true ranges) work (moved_of f false)) (sym (ranges_in-more rest range more first others sized))
          ∙ so_far.moved work;
      memory_size = memory_size ∙ so_far.memory_size;
      disk_size = disk_size ∙ so_far.disk_size;
    }

pub IsDeallocating-end : (old : Flat) (all : List ℕ) (f : Flat) (rest : List ℕ) → IsDeallocating old all f rest
    → length rest < 16
    → (work : Work)
    → moved_of f false ≡ units_moved (range_units true (ranges_in (length all / 16) all)) work (moved_of old false)
unfolding units_moved range_units
IsDeallocating-end old all f rest so_far few work =
    sym (ap (λ (ranges : List (List ℕ)). units_moved (range_units true ranges) work (moved_of f false)) (ranges_in-none rest few))
    ∙ so_far.moved work
