-- What each verdict that goes says.
use Rattle.std.proofs.Common.{◌-◌, ◌++◌, min, sym, ◌≡◌, ℕ, zero, suc, ◌+◌, ◌<◌, ◌≤◌}
use Rattle.std.proofs.Common.{Bool, true, false, cond, not, ◌&&◌, ◌==◌, nat_lt, List, [], ◌∷◌, length}
use Rattle.std.proofs.Common.{All, Option, Some, None, arith, refl, ◌∙◌, subst, eqb-true, eq-or-lt_of_le, inl, inr}
use Rattle.std.specs.Bool.{⊤}
use Rattle.std.specs.List.{list_all, range_with_len}
use Rattle.std.proofs.lemmas.List.Elements.{All-nil, All-cons, All-append, All-head, All-tail, All-map, All-replicate}
use Rattle.nv_entry.specs.Submission.{opcode_of, fuse_of, psdt_of, nsid_of, prp1_of, prp2_of, sgl_of, slba_of}
use Rattle.nv_entry.specs.Opcode.{io_opcode, data_pointer}
use Rattle.nv_entry.specs.StatusCode.{refused_with}
use Rattle.nv_entry.specs.declared.data_pointer.DataPointer.{DataPointer}
use Rattle.nv_entry.specs.declared.data_pointer.DataPointer.TheVariants.{Prp, Sgl, Reserved}
use Rattle.nv_entry.specs.declared.opcode.IoOpcode.{IoOpcode}
use Rattle.nv_entry.specs.declared.opcode.IoOpcode.TheVariants.{Flush, Write, Read, Compare, WriteZeroes, DatasetManagement}
use Rattle.nv_entry.specs.declared.status_code.StatusCode.{StatusCode}
use Rattle.nv_entry.specs.declared.status_code.StatusCode.TheVariants.{InvalidField, InvalidNamespace, LbaOutOfRange, SglLengthInvalid}
use Rattle.nv_mem.specs.GuestMap.{everywhere}
use Rattle.nv_mem.specs.Places.{At, Bucket, addresses, places_of, places_of_piece, total_len}
use Rattle.nv_mem.specs.declared.piece.Piece.{Piece}
use Rattle.nv_mem.specs.declared.piece.Piece.TheVariants as piece
use Rattle.nv_ns.specs.BlockRange.{in_namespace}
use Rattle.nv_model.specs.Dialogue.{Dialogue, End, and_then, asked, in_memory}
use Rattle.nv_model.specs.Reading.{Reading, Faulty, TooLong, Spells, run, unless_faulty}
use Rattle.nv_model.specs.Prp.{entry_fault, first_len, pages_of, read_prp, read_prp2}
use Rattle.nv_model.specs.Limits.{most_blocks, page}
use Rattle.nv_model.specs.Judge.{Form, Transfer, Clear, Manage, Keep, Work, Verdict, Go, Refuse, count_of, field_refusal, form_of, form_units, has_blocks}
use Rattle.nv_model.specs.Judge.{has_buffer, is_read, judge, judge_buffer, judge_by, judge_fields, judge_ranges, judge_reading, range_count_of, range_fits}
use Rattle.nv_model.specs.Judge.{ranges_in, read_buffer, read_by, read_source, refusal_by_opcode, sized, transfer_len, work_of}
use Rattle.nv_model.proofs.Agreeing.{in_memory-agree}
use Rattle.nv_model.specs.Laws.{AgreeAt, AgreeOn, IsMappedPiece, IsMappedPlace, IsUnitWithin}
use Rattle.nv_model.proofs.Endings.{EndsIn, EndsIn-and_then, EndsIn-any, EndsIn-if, OfPieces, and-true, first_failing-none, in_memory-ends}
use Rattle.nv_model.proofs.Units.{form_units-within, length-ranges_in}
use Rattle.nv_model.proofs.Spelled.{AreOfLen, read_prp-of_len, read_sgl-mapped}

-- ---- what a work says of its command

-- a work that goes, of this command, in a namespace of that many blocks
pub record IsSoundWork (mapped : ℕ → Bool) (blocks : ℕ) (entry : List ℕ) (work : Work) : Type 0 where
  pub opcode : io_opcode (opcode_of entry) ≡ Some work.opcode
  pub mapped_each : All (IsMappedPiece mapped) work.pieces
  pub total : total_len work.pieces ≡ transfer_len work.opcode entry
  pub within : All (IsUnitWithin blocks) work.units
  pub counted : form_of work.opcode ≡ Manage → length work.ranges ≡ range_count_of entry
  pub fit : list_all (range_fits blocks) work.ranges ≡ true
  pub units : work.units ≡ form_units (form_of work.opcode) blocks entry work.ranges

-- this of the work, where it goes
abbrev pub IfGo : (Work → Type 0) → Verdict → Type 0
IfGo P (Refuse st) = ⊤
IfGo P (Go work) = P work

-- ---- the buffer

-- a list of the right length
sized-of_len : (mapped : ℕ → Bool) (len : ℕ) (reading : Reading)
    → OfPieces (λ pieces. All (IsMappedPiece mapped) pieces) reading
    → OfPieces (AreOfLen mapped len) (sized len reading)
sized-of_len mapped len (Faulty code) each = tt
sized-of_len mapped len TooLong each = tt
sized-of_len mapped len (Spells pieces) each =
    (elim (total_len pieces == len) as (λ b. (total_len pieces == len) ≡ b → OfPieces (AreOfLen mapped len) (cond b (Spells pieces) (Faulty SglLengthInvalid))) [
      | true ↦ λ is. record { mapped_each = each; total = eqb-true (total_len pieces) len is }
      | false ↦ λ is. tt
    ]) refl

-- a weaker end
OfPieces-mapped : (mapped : ℕ → Bool) (len : ℕ) (reading : Reading) → OfPieces (AreOfLen mapped len) reading
    → OfPieces (λ pieces. All (IsMappedPiece mapped) pieces) reading
OfPieces-mapped mapped len (Faulty code) each = tt
OfPieces-mapped mapped len TooLong each = tt
OfPieces-mapped mapped len (Spells pieces) each = each.mapped_each

-- the command's list, whatever its data pointer holds
pub read_buffer-of_len : (pointer : DataPointer) (mapped : ℕ → Bool) (limit : ℕ) (entry : List ℕ) (dest : Bool) (len : ℕ)
    → EndsIn (OfPieces (AreOfLen mapped len)) (and_then (read_by pointer mapped limit dest len entry) (λ reading. End (sized len reading)))
read_buffer-of_len Prp mapped limit entry dest len =
    EndsIn-and_then (OfPieces (AreOfLen mapped len)) (OfPieces (AreOfLen mapped len)) _ _ (read_prp-of_len mapped (prp1_of entry) (prp2_of entry) len)
    (λ reading each. sized-of_len mapped len reading (OfPieces-mapped mapped len reading each))
read_buffer-of_len Sgl mapped limit entry dest len =
    EndsIn-and_then (OfPieces (λ pieces. All (IsMappedPiece mapped) pieces)) (OfPieces (AreOfLen mapped len)) _ _ (read_sgl-mapped mapped dest limit (sgl_of entry))
    (λ reading each. sized-of_len mapped len reading each)
read_buffer-of_len Reserved mapped limit entry dest len =
    EndsIn-and_then (OfPieces (λ pieces. All (IsMappedPiece mapped) pieces)) (OfPieces (AreOfLen mapped len)) (End (Faulty InvalidField)) _ tt
    (λ reading each. sized-of_len mapped len reading each)

-- ---- the verdict

-- a command without a buffer has no bytes to transfer
unbuffered_len : (opcode : IoOpcode) (entry : List ℕ) → has_buffer opcode ≡ false → 0 ≡ transfer_len opcode entry
unbuffered_len Flush entry none = refl
unbuffered_len WriteZeroes entry none = refl
unbuffered_len Read entry none = cc
unbuffered_len Write entry none = cc
unbuffered_len Compare entry none = cc
unbuffered_len DatasetManagement entry none = cc

-- the work of a command whose buffer is of the right length
work_of-sound : (mapped : ℕ → Bool) (blocks : ℕ) (entry : List ℕ) (opcode : IoOpcode) (pieces : List Piece) (ranges : List (List ℕ))
    → io_opcode (opcode_of entry) ≡ Some opcode → AreOfLen mapped (transfer_len opcode entry) pieces
    → (has_blocks opcode && not (in_namespace (slba_of entry) (count_of entry) blocks)) ≡ false
    → (form_of opcode ≡ Manage → length ranges ≡ range_count_of entry) → list_all (range_fits blocks) ranges ≡ true
    → IsSoundWork mapped blocks entry (work_of blocks opcode entry pieces ranges)
work_of-sound mapped blocks entry opcode pieces ranges is there fine many fit =
    record {
      opcode = is;
      mapped_each = there.mapped_each;
      total = there.total;
      within = form_units-within (form_of opcode) blocks entry ranges fine fit;
      counted = many;
      fit = fit;
      units = refl;
    }

-- with its ranges read
judge_ranges-sound : (mapped : ℕ → Bool) (blocks : ℕ) (entry : List ℕ) (opcode : IoOpcode) (pieces : List Piece) (ranges : List (List ℕ))
    → io_opcode (opcode_of entry) ≡ Some opcode → AreOfLen mapped (transfer_len opcode entry) pieces
    → (has_blocks opcode && not (in_namespace (slba_of entry) (count_of entry) blocks)) ≡ false
    → length ranges ≡ range_count_of entry
    → IfGo (IsSoundWork mapped blocks entry) (judge_ranges blocks opcode entry pieces ranges)
judge_ranges-sound mapped blocks entry opcode pieces ranges is there fine many =
    (elim (list_all (range_fits blocks) ranges) as (λ b. list_all (range_fits blocks) ranges ≡ b →
    IfGo (IsSoundWork mapped blocks entry) (cond b (Go (work_of blocks opcode entry pieces ranges)) (Refuse (refused_with LbaOutOfRange)))) [
      | true ↦ λ fit. work_of-sound mapped blocks entry opcode pieces ranges is there fine (λ _. many) fit
      | false ↦ λ fit. tt
    ]) refl

-- a command whose buffer is of the right length
judge_buffer-sound : (form : Form) (mapped : ℕ → Bool) (blocks : ℕ) (entry : List ℕ) (opcode : IoOpcode) (pieces : List Piece)
    → form_of opcode ≡ form → io_opcode (opcode_of entry) ≡ Some opcode
    → AreOfLen mapped (transfer_len opcode entry) pieces
    → (has_blocks opcode && not (in_namespace (slba_of entry) (count_of entry) blocks)) ≡ false
    → EndsIn (IfGo (IsSoundWork mapped blocks entry)) (judge_buffer form blocks opcode entry pieces)
judge_buffer-sound (Transfer dest) mapped blocks entry opcode pieces form is there fine =
    work_of-sound mapped blocks entry opcode pieces [] is there fine (λ other. (let bad : Transfer dest ≡ Manage = sym form ∙ other in cc)) refl
judge_buffer-sound Clear mapped blocks entry opcode pieces form is there fine =
    work_of-sound mapped blocks entry opcode pieces [] is there fine (λ other. (let bad : Clear ≡ Manage = sym form ∙ other in cc)) refl
judge_buffer-sound Keep mapped blocks entry opcode pieces form is there fine =
    work_of-sound mapped blocks entry opcode pieces [] is there fine (λ other. (let bad : Keep ≡ Manage = sym form ∙ other in cc)) refl
judge_buffer-sound Manage mapped blocks entry opcode pieces form is there fine =
    EndsIn-and_then (λ _. ⊤) (IfGo (IsSoundWork mapped blocks entry)) (read_source pieces []) _ (EndsIn-any (read_source pieces []))
    (λ bytes _. judge_ranges-sound mapped blocks entry opcode pieces (ranges_in (range_count_of entry) bytes) is there fine
    (length-ranges_in (range_count_of entry) bytes))

-- a command whose list was read
judge_reading-sound : (mapped : ℕ → Bool) (blocks : ℕ) (entry : List ℕ) (opcode : IoOpcode) (reading : Reading)
    → io_opcode (opcode_of entry) ≡ Some opcode
    → (has_blocks opcode && not (in_namespace (slba_of entry) (count_of entry) blocks)) ≡ false
    → OfPieces (AreOfLen mapped (transfer_len opcode entry)) reading
    → EndsIn (IfGo (IsSoundWork mapped blocks entry)) (judge_reading blocks entry opcode reading)
judge_reading-sound mapped blocks entry opcode (Faulty code) is fine there = tt
judge_reading-sound mapped blocks entry opcode TooLong is fine there = tt
judge_reading-sound mapped blocks entry opcode (Spells pieces) is fine there =
    judge_buffer-sound (form_of opcode) mapped blocks entry opcode pieces refl is there fine

-- the checks of the fields leave a transfer of 256 blocks at most
pub refusal_by_opcode-few : (blocks : ℕ) (entry : List ℕ) (opcode : IoOpcode)
    → refusal_by_opcode blocks entry (Some opcode) ≡ None
    → (has_buffer opcode && has_blocks opcode && nat_lt most_blocks (count_of entry)) ≡ false
refusal_by_opcode-few blocks entry opcode none =
    let range : List (Bool × StatusCode) = (has_blocks opcode && not (in_namespace (slba_of entry) (count_of entry) blocks), LbaOutOfRange) ∷ [] in
    let size : List (Bool × StatusCode) = (has_buffer opcode && has_blocks opcode && nat_lt most_blocks (count_of entry), InvalidField) ∷ range in
    let pointer : List (Bool × StatusCode) = (has_buffer opcode && psdt_of entry == 3, InvalidField) ∷ size in
    let behind_nsid = (first_failing-none (not (nsid_of entry == 1)) InvalidNamespace pointer none).1 in
    let behind_pointer = (first_failing-none (has_buffer opcode && psdt_of entry == 3) InvalidField size behind_nsid).1 in
    (first_failing-none (has_buffer opcode && has_blocks opcode && nat_lt most_blocks (count_of entry)) InvalidField range behind_pointer).0

-- and the range of blocks in the namespace
pub refusal_by_opcode-none : (blocks : ℕ) (entry : List ℕ) (opcode : IoOpcode)
    → refusal_by_opcode blocks entry (Some opcode) ≡ None
    → (has_blocks opcode && not (in_namespace (slba_of entry) (count_of entry) blocks)) ≡ false
refusal_by_opcode-none blocks entry opcode none =
    let range : List (Bool × StatusCode) = (has_blocks opcode && not (in_namespace (slba_of entry) (count_of entry) blocks), LbaOutOfRange) ∷ [] in
    let size : List (Bool × StatusCode) = (has_buffer opcode && has_blocks opcode && nat_lt most_blocks (count_of entry), InvalidField) ∷ range in
    let pointer : List (Bool × StatusCode) = (has_buffer opcode && psdt_of entry == 3, InvalidField) ∷ size in
    let behind_nsid = (first_failing-none (not (nsid_of entry == 1)) InvalidNamespace pointer none).1 in
    let behind_pointer = (first_failing-none (has_buffer opcode && psdt_of entry == 3) InvalidField size behind_nsid).1 in
    let behind_size = (first_failing-none (has_buffer opcode && has_blocks opcode && nat_lt most_blocks (count_of entry)) InvalidField range behind_pointer).1 in
    (first_failing-none (has_blocks opcode && not (in_namespace (slba_of entry) (count_of entry) blocks)) LbaOutOfRange [] behind_size).0

-- a command whose fields are in order
judge_by-sound : (mapped : ℕ → Bool) (limit blocks : ℕ) (entry : List ℕ) (opcode : Option IoOpcode)
    → io_opcode (opcode_of entry) ≡ opcode → refusal_by_opcode blocks entry opcode ≡ None
    → EndsIn (IfGo (IsSoundWork mapped blocks entry)) (judge_by opcode mapped limit blocks entry)
judge_by-sound mapped limit blocks entry None is none = tt
judge_by-sound mapped limit blocks entry (Some opcode) is none =
    let fine = refusal_by_opcode-none blocks entry opcode none in
    EndsIn-if (IfGo (IsSoundWork mapped blocks entry)) (has_buffer opcode) _ _
    (λ buffer.
    EndsIn-and_then (OfPieces (AreOfLen mapped (transfer_len opcode entry))) (IfGo (IsSoundWork mapped blocks entry)) (read_buffer mapped limit opcode entry) (judge_reading blocks entry opcode)
    (read_buffer-of_len (data_pointer (psdt_of entry)) mapped limit entry (is_read opcode) (transfer_len opcode entry))
    (λ reading there. judge_reading-sound mapped blocks entry opcode reading is fine there))
    (λ none_there.
    judge_buffer-sound (form_of opcode) mapped blocks entry opcode [] refl is
    (record { mapped_each = All-nil (IsMappedPiece mapped); total = unbuffered_len opcode entry none_there }) fine)

-- refused by its fields, or judged further
judge_fields-sound : (mapped : ℕ → Bool) (limit blocks : ℕ) (entry : List ℕ) (refusal : Option StatusCode)
    → field_refusal blocks entry ≡ refusal
    → EndsIn (IfGo (IsSoundWork mapped blocks entry)) (judge_fields refusal mapped limit blocks entry)
judge_fields-sound mapped limit blocks entry (Some code) is = tt
judge_fields-sound mapped limit blocks entry None is =
    judge_by-sound mapped limit blocks entry (io_opcode (opcode_of entry)) refl
    ((elim (fuse_of entry == 0) as (λ b. cond (not b) (Some InvalidField) (refusal_by_opcode blocks entry (io_opcode (opcode_of entry))) ≡ None
    → refusal_by_opcode blocks entry (io_opcode (opcode_of entry)) ≡ None) [
      | true ↦ λ none. none
      | false ↦ λ none. cc
    ]) is)

-- what each verdict that goes says, in any memory
pub judge-sound : (mapped : ℕ → Bool) (limit blocks : ℕ) (entry : List ℕ)
    → EndsIn (IfGo (IsSoundWork mapped blocks entry)) (judge mapped limit blocks entry)
unfolding judge
judge-sound mapped limit blocks entry = judge_fields-sound mapped limit blocks entry (field_refusal blocks entry) refl

pub verdict-sound : (mapped : ℕ → Bool) (limit blocks : ℕ) (entry : List ℕ) (memory : ℕ → ℕ) (work : Work)
    → in_memory memory (judge mapped limit blocks entry) ≡ Go work → IsSoundWork mapped blocks entry work
verdict-sound mapped limit blocks entry memory work goes =
    subst (IfGo (IsSoundWork mapped blocks entry)) goes (in_memory-ends (IfGo (IsSoundWork mapped blocks entry)) memory (judge mapped limit blocks entry) (judge-sound mapped limit blocks entry))

-- ---- places

-- each address of a mapped run is mapped
pub everywhere-at : (mapped : ℕ → Bool) (addr len i : ℕ) → everywhere mapped addr len ≡ true → i < len
    → mapped (addr + i) ≡ true
unfolding everywhere
everywhere-at mapped addr zero i is below = absurd (omega arith)
everywhere-at mapped addr (suc len) i is below =
    let both = and-true (mapped (addr + len)) (everywhere mapped addr len) is in
    let le : i ≤ len = omega arith in
    elim (eq-or-lt_of_le le) [ inl same ↦ rw same both.0 | inr less ↦ everywhere-at mapped addr len i both.1 less ]

-- numbers in a row have what each has
All-range : (P : ℕ → Type 0) (start n : ℕ) → ((i : ℕ) → i < n → P (start + i)) → All P (range_with_len start n)
All-range P start zero each = All-nil P
All-range P start (suc n) each =
    let here : start + 0 ≡ start = omega arith in
    All-cons P start (range_with_len (start + 1) n) (subst P here (each 0 (omega arith)))
    (All-range P (start + 1) n (λ i below. let next : start + suc i ≡ start + 1 + i = omega arith in subst P next (each (suc i) (omega arith))))

IsMappedPlace-piece : (mapped : ℕ → Bool) (p : Piece) → IsMappedPiece mapped p
    → All (IsMappedPlace mapped) (places_of_piece p)
unfolding addresses
IsMappedPlace-piece mapped (piece.Run addr len) is =
    All-map (IsMappedPlace mapped) At (range_with_len addr len) (All-range (λ at. mapped at ≡ true) addr len (λ i below. everywhere-at mapped addr len i is below))
IsMappedPlace-piece mapped (piece.Bucket len) is = All-replicate (IsMappedPlace mapped) len Bucket tt

-- the places of mapped pieces are mapped addresses and buckets
pub IsMappedPlace-pieces : (mapped : ℕ → Bool) (pieces : List Piece) → All (IsMappedPiece mapped) pieces
    → All (IsMappedPlace mapped) (places_of pieces)
IsMappedPlace-pieces mapped [] each = All-nil (IsMappedPlace mapped)
IsMappedPlace-pieces mapped (p ∷ ps) each =
    All-append (IsMappedPlace mapped) (places_of_piece p) (places_of ps)
    (IsMappedPlace-piece mapped p (All-head (IsMappedPiece mapped) p ps each)) (IsMappedPlace-pieces mapped ps (All-tail (IsMappedPiece mapped) p ps each))

-- ---- lists

-- what a list spells in a memory has what all its ends have
pub pieces-ends : (P : List Piece → Type 0) (memory : ℕ → ℕ) (d : Dialogue Reading) (pieces : List Piece)
    → EndsIn (OfPieces P) d → in_memory memory d ≡ Spells pieces → P pieces
pieces-ends P memory d pieces ends spells =
    subst (λ (r : Reading). OfPieces P r) spells (in_memory-ends (OfPieces P) memory d ends)

-- nothing is asked for where PRP2 is no pointer to a list
asked-read_prp2 : (mapped : ℕ → Bool) (memory : ℕ → ℕ) (pages prp2 bytes : ℕ) (pieces : List Piece) → pages ≤ 1
    → asked memory (read_prp2 mapped pages prp2 bytes pieces) ≡ []
unfolding asked
asked-read_prp2 mapped memory zero prp2 bytes pieces few = refl
asked-read_prp2 mapped memory (suc zero) prp2 bytes pieces few =
    (elim (entry_fault mapped page prp2 (min bytes page)) as (λ o. asked memory (unless_faulty o (End (Spells (pieces ++ run prp2 (min bytes page))))) ≡ []) [ None ↦ refl | Some code ↦ refl ])
asked-read_prp2 mapped memory (suc (suc pages)) prp2 bytes pieces few = absurd (omega arith)

-- so it is with the bytes of a page
pub asked-page : (mapped : ℕ → Bool) (memory : ℕ → ℕ) (prp1 prp2 : ℕ)
    → asked memory (read_prp mapped prp1 prp2 4096) ≡ []
unfolding asked
asked-page mapped memory prp1 prp2 =
    let few : pages_of (4096 - first_len prp1 4096) ≤ 1 = omega arith in
    (elim (entry_fault mapped 4 prp1 (first_len prp1 4096)) as (λ o. asked memory (unless_faulty o
    (read_prp2 mapped (pages_of (4096 - first_len prp1 4096)) prp2 (4096 - first_len prp1 4096) (run prp1 (first_len prp1 4096)))) ≡ []) [
      | None ↦ asked-read_prp2 mapped memory (pages_of (4096 - first_len prp1 4096)) prp2 (4096 - first_len prp1 4096) (run prp1 (first_len prp1 4096)) few
      | Some code ↦ refl
    ])

-- and its reading is the same in all memories
pub in_memory-page : (mapped : ℕ → Bool) (memory other : ℕ → ℕ) (prp1 prp2 : ℕ)
    → in_memory other (read_prp mapped prp1 prp2 4096) ≡ in_memory memory (read_prp mapped prp1 prp2 4096)
in_memory-page mapped memory other prp1 prp2 =
    in_memory-agree memory other (read_prp mapped prp1 prp2 4096)
    (subst (λ (spans : List (ℕ × ℕ)). AgreeOn memory other spans) (sym (asked-page mapped memory prp1 prp2)) (All-nil (AgreeAt memory other)))
