-- A command is never refused with success.
use Rattle.std.proofs.Common.{◌≡◌, ℕ, zero, suc, ◌+◌, ◌-◌, ◌*◌, ◌/◌, ◌%◌, min, Bool, true, false}
use Rattle.std.proofs.Common.{◌&&◌, ◌||◌, ◌==◌, nat_lt, cond, not, List, [], ◌∷◌, Option, Some, None, refl}
use Rattle.std.specs.Bool.{⊤}
use Rattle.std.specs.List.{list_all}
use Rattle.nv_entry.specs.Descriptor.{address_of, kind_of, length_of}
use Rattle.nv_entry.specs.Layout.{number_at}
use Rattle.nv_entry.specs.Opcode.{data_pointer, io_opcode}
use Rattle.nv_entry.specs.Status.{StatusField}
use Rattle.nv_entry.specs.StatusCode.{refused_with}
use Rattle.nv_entry.specs.Submission.{fuse_of, opcode_of, prp1_of, prp2_of, psdt_of, sgl_of}
use Rattle.nv_entry.specs.declared.data_pointer.DataPointer.{DataPointer}
use Rattle.nv_entry.specs.declared.data_pointer.DataPointer.TheVariants.{Prp, Reserved, Sgl}
use Rattle.nv_entry.specs.declared.descriptor_type.DescriptorType.{DescriptorType}
use Rattle.nv_entry.specs.declared.descriptor_type.DescriptorType.TheVariants.{BitBucket, DataBlock, LastSegment, Segment}
use Rattle.nv_entry.specs.declared.opcode.IoOpcode.{IoOpcode}
use Rattle.nv_entry.specs.declared.status_code.StatusCode.{StatusCode}
use Rattle.nv_entry.specs.declared.status_code.StatusCode.TheVariants.{DataTransferError, InvalidField, InvalidSglCount, InvalidSglSegment, LbaOutOfRange}
use Rattle.nv_entry.specs.declared.status_code.StatusCode.TheVariants.{PrpOffsetInvalid, SglLengthInvalid}
use Rattle.nv_mem.specs.GuestMap.{everywhere}
use Rattle.nv_mem.specs.Places.{total_len}
use Rattle.nv_mem.specs.declared.piece.Piece.{Piece}
use Rattle.nv_model.specs.Dialogue.{Dialogue, End}
use Rattle.nv_model.specs.Endings.{MayEndIn}
use Rattle.nv_model.specs.Judge.{Clear, Form, Go, Keep, Manage, Refuse, Transfer, Verdict, command_checks, field_refusal, form_of, has_buffer, is_read, judge}
use Rattle.nv_model.specs.Judge.{judge_buffer, judge_by, judge_fields, judge_ranges, judge_reading, range_count_of, range_fits, ranges_in, read_buffer, read_by}
use Rattle.nv_model.specs.Judge.{read_source, refusal_by_opcode, sized, transfer_len, work_of}
use Rattle.nv_model.specs.Limits.{page}
use Rattle.nv_model.specs.Prp.{entry_fault, first_len, pages_of, read_entries, read_page, read_prp, read_prp2, slots_of}
use Rattle.nv_model.specs.Reading.{Faulty, Reading, Spells, TooLong, first_failing, run, unless_faulty}
use Rattle.nv_model.specs.Sgl.{Array, array_by, behind_own, fault_by, read_array, read_descriptor, read_sgl, segment_fault}
use Rattle.nv_model.proofs.AnyAnswers.{MayEndIn-has}
use Rattle.nv_model.proofs.Endings.{EndsIn, EndsIn-and_then, EndsIn-any, EndsIn-if}
use Rattle.nv_world_model.specs.Step.{is_success}

-- ---- codes

-- a code tells of a failure
abbrev IsFailure : StatusCode → Type 0
IsFailure code = is_success (refused_with code) ≡ false

abbrev IfFailure : Option StatusCode → Type 0
IfFailure None = ⊤
IfFailure (Some code) = IsFailure code

abbrev AreFailures : List (Bool × StatusCode) → Type 0
AreFailures [] = ⊤
AreFailures (check ∷ checks) = IsFailure check.1 × AreFailures checks

first-failure : (checks : List (Bool × StatusCode)) → AreFailures checks → IfFailure (first_failing checks)
first-failure [] are = tt
first-failure (check ∷ checks) are =
    elim check.0 as (λ b. IfFailure (cond b (Some check.1) (first_failing checks))) [ true ↦ are.0 | false ↦ first-failure checks are.1 ]

-- ---- readings

-- a reading that is faulty has such a code
abbrev OfFault : Reading → Type 0
OfFault (Faulty code) = IsFailure code
OfFault TooLong = ⊤
OfFault (Spells pieces) = ⊤

unless-faulty : (fault : Option StatusCode) (more : Dialogue Reading) → IfFailure fault → EndsIn OfFault more → EndsIn OfFault (unless_faulty fault more)
unless-faulty None more is goes = goes
unless-faulty (Some code) more is goes = is

entry-fault : (mapped : ℕ → Bool) (alignment addr len : ℕ) → IfFailure (entry_fault mapped alignment addr len)
entry-fault mapped alignment addr len =
    first-failure ((not (addr % alignment == 0), PrpOffsetInvalid) ∷ (not (everywhere mapped addr len), DataTransferError) ∷ []) (refl, (refl, tt))

segment-fault : (mapped : ℕ → Bool) (rest : Array) (d : List ℕ) → IfFailure (segment_fault mapped rest d)
segment-fault mapped rest d =
    first-failure (
    (rest.by_last, InvalidSglSegment)
    ∷ (not (rest.left == 0), InvalidSglCount)
    ∷ (length_of d == 0 || not (length_of d % 16 == 0), InvalidSglSegment)
    ∷ (not (address_of d % 8 == 0), InvalidSglSegment)
    ∷ (not (everywhere mapped (address_of d) (length_of d)), DataTransferError) ∷ []
    ) (refl, (refl, (refl, (refl, (refl, tt)))))

fault-by : (kind : Option DescriptorType) (mapped : ℕ → Bool) (rest : Array) (d : List ℕ) → IfFailure (fault_by kind mapped rest d)
fault-by None mapped rest d = refl
fault-by (Some DataBlock) mapped rest d =
    first-failure ((not (everywhere mapped (address_of d) (length_of d)), DataTransferError) ∷ []) (refl, tt)
fault-by (Some BitBucket) mapped rest d = tt
fault-by (Some Segment) mapped rest d = segment-fault mapped rest d
fault-by (Some LastSegment) mapped rest d = segment-fault mapped rest d

descriptor-faults : (mapped : ℕ → Bool) (dest : Bool) (rest : Array) (pieces : List Piece) (follow : Array → List Piece → Dialogue Reading) (d : List ℕ)
    → ((a : Array) (ps : List Piece) → EndsIn OfFault (follow a ps)) → EndsIn OfFault (read_descriptor mapped dest rest pieces follow d)
descriptor-faults mapped dest rest pieces follow d goes =
    unless-faulty (fault_by (kind_of d) mapped rest d) _ (fault-by (kind_of d) mapped rest d) (goes (array_by (kind_of d) rest d) _)

array-faults : (mapped : ℕ → Bool) (dest : Bool) (budget left from : ℕ) (by_last : Bool) (pieces : List Piece)
    → EndsIn OfFault (read_array mapped dest budget left from by_last pieces)
unfolding read_array
array-faults mapped dest budget zero from by_last pieces = tt
array-faults mapped dest zero (suc left) from by_last pieces = tt
array-faults mapped dest (suc budget) (suc left) from by_last pieces =
    λ d. descriptor-faults mapped dest (record { from = from + 16; left = left; by_last = by_last }) pieces
    (λ a ps. read_array mapped dest budget a.left a.from a.by_last ps) d
    (λ a ps. array-faults mapped dest budget a.left a.from a.by_last ps)

sgl-faults : (mapped : ℕ → Bool) (dest : Bool) (limit : ℕ) (own : List ℕ) → EndsIn OfFault (read_sgl mapped dest limit own)
unfolding read_sgl
sgl-faults mapped dest zero own = tt
sgl-faults mapped dest (suc budget) own =
    descriptor-faults mapped dest behind_own [] (λ a ps. read_array mapped dest budget a.left a.from a.by_last ps) own
    (λ a ps. array-faults mapped dest budget a.left a.from a.by_last ps)

page-faults : (mapped : ℕ → Bool) (bytes : ℕ) (pieces : List Piece) (follow : List Piece → Dialogue Reading) (addr : ℕ)
    → ((ps : List Piece) → EndsIn OfFault (follow ps)) → EndsIn OfFault (read_page mapped bytes pieces follow addr)
page-faults mapped bytes pieces follow addr goes =
    unless-faulty (entry_fault mapped page addr (min bytes page)) _ (entry-fault mapped page addr (min bytes page)) (goes _)

entries-faults : (mapped : ℕ → Bool) (pages slots from bytes : ℕ) (pieces : List Piece) → EndsIn OfFault (read_entries mapped pages slots from bytes pieces)
unfolding read_entries
entries-faults mapped zero slots from bytes pieces = tt
entries-faults mapped (suc pages) slots from bytes pieces =
    EndsIn-if OfFault (slots == 1 && nat_lt 0 pages) _ _
    (λ _. λ slot. unless-faulty (entry_fault mapped page (number_at slot 0 8) (8 * min (page / 8) (suc pages))) _
    (entry-fault mapped page (number_at slot 0 8) (8 * min (page / 8) (suc pages)))
    (λ entry. page-faults mapped bytes pieces _ (number_at entry 0 8)
    (λ ps. entries-faults mapped pages (page / 8 - 1) (number_at slot 0 8 + 8) (bytes - page) ps)))
    (λ _. λ entry. page-faults mapped bytes pieces _ (number_at entry 0 8)
    (λ ps. entries-faults mapped pages (slots - 1) (from + 8) (bytes - page) ps))

prp2-faults : (mapped : ℕ → Bool) (pages prp2 bytes : ℕ) (pieces : List Piece) → EndsIn OfFault (read_prp2 mapped pages prp2 bytes pieces)
prp2-faults mapped zero prp2 bytes pieces = tt
prp2-faults mapped (suc zero) prp2 bytes pieces = page-faults mapped bytes pieces (λ ps. End (Spells ps)) prp2 (λ ps. tt)
prp2-faults mapped (suc (suc pages)) prp2 bytes pieces =
    unless-faulty (entry_fault mapped 8 prp2 (8 * min (slots_of prp2) (suc (suc pages)))) _
    (entry-fault mapped 8 prp2 (8 * min (slots_of prp2) (suc (suc pages))))
    (entries-faults mapped (suc (suc pages)) (slots_of prp2) prp2 bytes pieces)

prp-faults : (mapped : ℕ → Bool) (prp1 prp2 len : ℕ) → EndsIn OfFault (read_prp mapped prp1 prp2 len)
prp-faults mapped prp1 prp2 len =
    unless-faulty (entry_fault mapped 4 prp1 (first_len prp1 len)) _ (entry-fault mapped 4 prp1 (first_len prp1 len))
    (prp2-faults mapped (pages_of (len - first_len prp1 len)) prp2 (len - first_len prp1 len) (run prp1 (first_len prp1 len)))

read-faults : (pointer : DataPointer) (mapped : ℕ → Bool) (limit : ℕ) (dest : Bool) (len : ℕ) (entry : List ℕ)
    → EndsIn OfFault (read_by pointer mapped limit dest len entry)
read-faults Prp mapped limit dest len entry = prp-faults mapped (prp1_of entry) (prp2_of entry) len
read-faults Sgl mapped limit dest len entry = sgl-faults mapped dest limit (sgl_of entry)
read-faults Reserved mapped limit dest len entry = refl

sized-fault : (len : ℕ) (reading : Reading) → OfFault reading → OfFault (sized len reading)
sized-fault len (Faulty code) is = is
sized-fault len TooLong is = tt
sized-fault len (Spells pieces) is =
    elim (total_len pieces == len) as (λ b. OfFault (cond b (Spells pieces) (Faulty SglLengthInvalid))) [ true ↦ tt | false ↦ refl ]

-- ---- verdicts

-- a verdict that refuses does so with a failure
abbrev IfRefused : Verdict → Type 0
IfRefused (Refuse st) = is_success st ≡ false
IfRefused (Go work) = ⊤

ranges-refused : (blocks : ℕ) (opcode : IoOpcode) (entry : List ℕ) (pieces : List Piece) (ranges : List (List ℕ))
    → IfRefused (judge_ranges blocks opcode entry pieces ranges)
ranges-refused blocks opcode entry pieces ranges =
    elim (list_all (range_fits blocks) ranges) as
    (λ b. IfRefused (cond b (Go (work_of blocks opcode entry pieces ranges)) (Refuse (refused_with LbaOutOfRange)))) [ true ↦ tt | false ↦ refl ]

buffer-refused : (form : Form) (blocks : ℕ) (opcode : IoOpcode) (entry : List ℕ) (pieces : List Piece)
    → EndsIn IfRefused (judge_buffer form blocks opcode entry pieces)
buffer-refused (Transfer dest) blocks opcode entry pieces = tt
buffer-refused Clear blocks opcode entry pieces = tt
buffer-refused Keep blocks opcode entry pieces = tt
buffer-refused Manage blocks opcode entry pieces =
    EndsIn-and_then (λ _. ⊤) IfRefused (read_source pieces []) _ (EndsIn-any (read_source pieces []))
    (λ bytes _. ranges-refused blocks opcode entry pieces (ranges_in (range_count_of entry) bytes))

reading-refused : (blocks : ℕ) (opcode : IoOpcode) (entry : List ℕ) (reading : Reading) → OfFault reading
    → EndsIn IfRefused (judge_reading blocks entry opcode reading)
reading-refused blocks opcode entry (Faulty code) is = is
reading-refused blocks opcode entry TooLong is = refl
reading-refused blocks opcode entry (Spells pieces) is = buffer-refused (form_of opcode) blocks opcode entry pieces

by-refused : (opcode : Option IoOpcode) (mapped : ℕ → Bool) (limit blocks : ℕ) (entry : List ℕ) → EndsIn IfRefused (judge_by opcode mapped limit blocks entry)
by-refused None mapped limit blocks entry = refl
by-refused (Some opcode) mapped limit blocks entry =
    EndsIn-if IfRefused (has_buffer opcode) _ _
    (λ buffer.
    EndsIn-and_then OfFault IfRefused (read_buffer mapped limit opcode entry) (judge_reading blocks entry opcode)
    (EndsIn-and_then OfFault OfFault (read_by (data_pointer (psdt_of entry)) mapped limit (is_read opcode) (transfer_len opcode entry) entry)
    (λ reading. End (sized (transfer_len opcode entry) reading))
    (read-faults (data_pointer (psdt_of entry)) mapped limit (is_read opcode) (transfer_len opcode entry) entry)
    (λ reading is. sized-fault (transfer_len opcode entry) reading is))
    (λ reading is. reading-refused blocks opcode entry reading is))
    (λ none. buffer-refused (form_of opcode) blocks opcode entry [])

fields-refused : (refusal : Option StatusCode) (mapped : ℕ → Bool) (limit blocks : ℕ) (entry : List ℕ) → IfFailure refusal
    → EndsIn IfRefused (judge_fields refusal mapped limit blocks entry)
fields-refused (Some code) mapped limit blocks entry is = is
fields-refused None mapped limit blocks entry is = by-refused (io_opcode (opcode_of entry)) mapped limit blocks entry

opcode-refused : (blocks : ℕ) (entry : List ℕ) (opcode : Option IoOpcode) → IfFailure (refusal_by_opcode blocks entry opcode)
opcode-refused blocks entry None = refl
opcode-refused blocks entry (Some opcode) = first-failure (command_checks blocks entry opcode) (refl, (refl, (refl, (refl, tt))))

field-refused : (blocks : ℕ) (entry : List ℕ) → IfFailure (field_refusal blocks entry)
field-refused blocks entry = by (fuse_of entry == 0)
  where
    by : (b : Bool) → IfFailure (cond (not b) (Some InvalidField) (refusal_by_opcode blocks entry (io_opcode (opcode_of entry))))
    by true = opcode-refused blocks entry (io_opcode (opcode_of entry))
    by false = refl

-- whatever answers
pub refused-failure : (mapped : ℕ → Bool) (limit blocks : ℕ) (entry : List ℕ) (st : StatusField) → MayEndIn (judge mapped limit blocks entry) (Refuse st)
    → is_success st ≡ false
unfolding judge
refused-failure mapped limit blocks entry st may =
    MayEndIn-has IfRefused (judge mapped limit blocks entry) (Refuse st)
    (fields-refused (field_refusal blocks entry) mapped limit blocks entry (field-refused blocks entry)) may
