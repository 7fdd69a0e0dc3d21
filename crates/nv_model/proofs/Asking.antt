-- Whatever a dialogue is given, what it asks for is mapped.
use Rattle.std.proofs.Common.{◌≡◌, ℕ, zero, suc, ◌+◌, ◌-◌, ◌*◌, ◌/◌, ◌%◌, ◌<◌, ◌≤◌}
use Rattle.std.proofs.Common.{min, Bool, true, false, cond, not, ◌&&◌, ◌||◌, ◌==◌, nat_lt, List, [], ◌∷◌}
use Rattle.std.proofs.Common.{◌++◌, All, Option, Some, None, arith, refl, subst, eqb-true, ltb-false}
use Rattle.std.specs.Bool.{⊤}
use Rattle.std.proofs.lemmas.List.Elements.{All-nil, All-cons, All-head, All-tail}
use Rattle.nv_entry.specs.Layout.{number_at}
use Rattle.nv_entry.specs.Descriptor.{address_of, length_of, kind_of}
use Rattle.nv_entry.specs.Opcode.{data_pointer, io_opcode}
use Rattle.nv_entry.specs.Submission.{opcode_of, psdt_of, prp1_of, prp2_of, sgl_of}
use Rattle.nv_entry.specs.declared.data_pointer.DataPointer.{DataPointer}
use Rattle.nv_entry.specs.declared.data_pointer.DataPointer.TheVariants.{Prp, Sgl, Reserved}
use Rattle.nv_entry.specs.declared.descriptor_type.DescriptorType.{DescriptorType}
use Rattle.nv_entry.specs.declared.descriptor_type.DescriptorType.TheVariants.{DataBlock, BitBucket, Segment, LastSegment}
use Rattle.nv_entry.specs.declared.opcode.IoOpcode.{IoOpcode}
use Rattle.nv_entry.specs.declared.status_code.StatusCode.{StatusCode}
use Rattle.nv_entry.specs.declared.status_code.StatusCode.TheVariants.{DataTransferError, InvalidSglCount, InvalidSglSegment, PrpOffsetInvalid}
use Rattle.nv_mem.specs.GuestMap.{everywhere}
use Rattle.nv_mem.specs.declared.piece.Piece.{Piece}
use Rattle.nv_mem.specs.declared.piece.Piece.TheVariants.{Run, Bucket}
use Rattle.nv_model.specs.Dialogue.{Dialogue, End, Ask, and_then, asked}
use Rattle.nv_model.specs.Reading.{Reading, Faulty, TooLong, Spells, run, unless_faulty}
use Rattle.nv_model.specs.Sgl.{Array, array_by, behind_own, fault_by, pieces_by, read_array, read_descriptor, read_sgl, segment_fault}
use Rattle.nv_model.specs.Prp.{entry_fault, first_len, pages_of, read_entries, read_page, read_prp, read_prp2, slots_of}
use Rattle.nv_model.specs.Limits.{page}
use Rattle.nv_model.specs.Judge.{Form, Transfer, Clear, Manage, Keep, field_refusal, form_of, has_buffer, is_read, judge, judge_buffer, judge_by, judge_fields}
use Rattle.nv_model.specs.Judge.{judge_reading, read_buffer, read_by, read_source, transfer_len}
use Rattle.nv_model.specs.Laws.{IsMappedPiece, still_wanted}
use Rattle.nv_model.proofs.Endings.{EndsIn, EndsIn-any, OfPieces, and-false, first_failing-none, not-false}
use Rattle.nv_model.proofs.Spelled.{AreOfLen}
use Rattle.nv_model.proofs.Judged.{everywhere-at, read_buffer-of_len}

-- ---- dialogues

-- each of the `len` addresses from `addr` on is mapped
abbrev pub IsMappedFrom : (ℕ → Bool) → (addr len : ℕ) → Type 0
IsMappedFrom mapped addr len = (i : ℕ) → i < len → mapped (addr + i) ≡ true

-- what is asked for is mapped, and so is all that is still wanted there, whatever the bytes are
abbrev pub AsksIn : {A : Type 0} → (ℕ → Bool) → Dialogue A → Type 0
AsksIn mapped (End value) = ⊤
AsksIn mapped (Ask addr unit left next) = (IsMappedFrom mapped addr left × (unit ≤ left)) × ((bytes : List ℕ) → AsksIn mapped (next bytes))

-- a part of what is mapped
pub IsMappedFrom-part : (mapped : ℕ → Bool) (addr len at n : ℕ) → IsMappedFrom mapped addr len → addr ≤ at
    → at + n ≤ addr + len → IsMappedFrom mapped at n
IsMappedFrom-part mapped addr len at n each low high = λ i below.
    let same : addr + (at - addr + i) ≡ at + i = omega arith in
    subst (λ (a : ℕ). mapped a ≡ true) same (each (at - addr + i) (omega arith))

-- what is asked for in a memory
pub asked-mapped : {A : Type 0} (mapped : ℕ → Bool) (memory : ℕ → ℕ) (d : Dialogue A) → AsksIn mapped d
    → All (λ (s : ℕ × ℕ). IsMappedFrom mapped s.0 s.1) (asked memory d)
unfolding asked
asked-mapped mapped memory (End value) asks = All-nil (λ (s : ℕ × ℕ). IsMappedFrom mapped s.0 s.1)
asked-mapped mapped memory (Ask addr unit left next) asks =
    let here : IsMappedFrom mapped addr unit = λ i below. (let short = asks.0.1 in asks.0.0 i (omega arith)) in
    All-cons (λ (s : ℕ × ℕ). IsMappedFrom mapped s.0 s.1) (addr, unit) _ here (asked-mapped mapped memory (next _) (asks.1 _))

-- what is still wanted where it asks in a memory
pub still_wanted-mapped : {A : Type 0} (mapped : ℕ → Bool) (memory : ℕ → ℕ) (d : Dialogue A) → AsksIn mapped d
    → All (λ (s : ℕ × ℕ). IsMappedFrom mapped s.0 s.1) (still_wanted memory d)
unfolding still_wanted
still_wanted-mapped mapped memory (End value) asks = All-nil (λ (s : ℕ × ℕ). IsMappedFrom mapped s.0 s.1)
still_wanted-mapped mapped memory (Ask addr unit left next) asks =
    All-cons (λ (s : ℕ × ℕ). IsMappedFrom mapped s.0 s.1) (addr, left) _ asks.0.0 (still_wanted-mapped mapped memory (next _) (asks.1 _))

AsksIn-and_then : {A B : Type 0} (mapped : ℕ → Bool) (P : A → Type 0) (d : Dialogue A) (more : A → Dialogue B)
    → AsksIn mapped d → EndsIn P d → ((value : A) → P value → AsksIn mapped (more value))
    → AsksIn mapped (and_then d more)
unfolding and_then
AsksIn-and_then mapped P (End value) more asks ends goes = goes value ends
AsksIn-and_then mapped P (Ask addr unit left next) more asks ends goes =
    (asks.0, λ bytes. AsksIn-and_then mapped P (next bytes) more (asks.1 bytes) (ends bytes) goes)

AsksIn-if : {A : Type 0} (mapped : ℕ → Bool) (b : Bool) (x y : Dialogue A) → (b ≡ true → AsksIn mapped x)
    → (b ≡ false → AsksIn mapped y) → AsksIn mapped (cond b x y)
AsksIn-if mapped true x y so not_so = so refl
AsksIn-if mapped false x y so not_so = not_so refl

AsksIn-unless_faulty : (mapped : ℕ → Bool) (fault : Option StatusCode) (more : Dialogue Reading)
    → (fault ≡ None → AsksIn mapped more) → AsksIn mapped (unless_faulty fault more)
AsksIn-unless_faulty mapped None more goes = goes refl
AsksIn-unless_faulty mapped (Some code) more goes = tt

-- ---- scatter gather lists

-- what is left of an array is mapped
abbrev IsMappedArray : (ℕ → Bool) → Array → Type 0
IsMappedArray mapped a = IsMappedFrom mapped a.from (16 * a.left)

segment_fault-none : (mapped : ℕ → Bool) (rest : Array) (d : List ℕ) → segment_fault mapped rest d ≡ None
    → IsMappedFrom mapped (address_of d) (16 * (length_of d / 16))
segment_fault-none mapped rest d fine =
    let five : List (Bool × StatusCode) = (not (everywhere mapped (address_of d) (length_of d)), DataTransferError) ∷ [] in
    let four : List (Bool × StatusCode) = (not (address_of d % 8 == 0), InvalidSglSegment) ∷ five in
    let three : List (Bool × StatusCode) = (length_of d == 0 || not (length_of d % 16 == 0), InvalidSglSegment) ∷ four in
    let two : List (Bool × StatusCode) = (not (rest.left == 0), InvalidSglCount) ∷ three in
    let behind_one = (first_failing-none rest.by_last InvalidSglSegment two fine).1 in
    let behind_two = (first_failing-none (not (rest.left == 0)) InvalidSglCount three behind_one).1 in
    let behind_three = (first_failing-none (length_of d == 0 || not (length_of d % 16 == 0)) InvalidSglSegment four behind_two).1 in
    let behind_four = (first_failing-none (not (address_of d % 8 == 0)) InvalidSglSegment five behind_three).1 in
    let there = not-false _ (first_failing-none (not (everywhere mapped (address_of d) (length_of d))) DataTransferError [] behind_four).0 in
    λ i below. everywhere-at mapped (address_of d) (length_of d) i there (omega arith)

pub array_by-mapped : (mapped : ℕ → Bool) (kind : Option DescriptorType) (rest : Array) (d : List ℕ)
    → fault_by kind mapped rest d ≡ None → IsMappedArray mapped rest → IsMappedArray mapped (array_by kind rest d)
array_by-mapped mapped None rest d fine each = each
array_by-mapped mapped (Some DataBlock) rest d fine each = each
array_by-mapped mapped (Some BitBucket) rest d fine each = each
array_by-mapped mapped (Some Segment) rest d fine each = segment_fault-none mapped rest d fine
array_by-mapped mapped (Some LastSegment) rest d fine each = segment_fault-none mapped rest d fine

read_descriptor-asks : (mapped : ℕ → Bool) (dest : Bool) (rest : Array) (pieces : List Piece) (follow : Array → List Piece → Dialogue Reading) (d : List ℕ)
    → IsMappedArray mapped rest → ((a : Array) (ps : List Piece) → IsMappedArray mapped a → AsksIn mapped (follow a ps))
    → AsksIn mapped (read_descriptor mapped dest rest pieces follow d)
read_descriptor-asks mapped dest rest pieces follow d each goes =
    AsksIn-unless_faulty mapped (fault_by (kind_of d) mapped rest d) _
    (λ fine. goes (array_by (kind_of d) rest d) (pieces ++ pieces_by (kind_of d) dest d) (array_by-mapped mapped (kind_of d) rest d fine each))

read_array-asks : (mapped : ℕ → Bool) (dest : Bool) (budget left from : ℕ) (by_last : Bool) (pieces : List Piece)
    → IsMappedFrom mapped from (16 * left) → AsksIn mapped (read_array mapped dest budget left from by_last pieces)
unfolding read_array
read_array-asks mapped dest budget zero from by_last pieces each = tt
read_array-asks mapped dest zero (suc left) from by_last pieces each = tt
read_array-asks mapped dest (suc budget) (suc left) from by_last pieces each = (
  (each, omega arith),
  λ d. read_descriptor-asks mapped dest (record { from = from + 16; left = left; by_last = by_last }) pieces
      (λ a ps. read_array mapped dest budget a.left a.from a.by_last ps) d
      (IsMappedFrom-part mapped from (16 * suc left) (from + 16) (16 * left) each (omega arith) (omega arith))
      (λ a ps there. read_array-asks mapped dest budget a.left a.from a.by_last ps there),
)

pub read_sgl-asks : (mapped : ℕ → Bool) (dest : Bool) (limit : ℕ) (own : List ℕ)
    → AsksIn mapped (read_sgl mapped dest limit own)
unfolding read_sgl
read_sgl-asks mapped dest zero own = tt
read_sgl-asks mapped dest (suc budget) own =
    read_descriptor-asks mapped dest behind_own [] (λ a ps. read_array mapped dest budget a.left a.from a.by_last ps) own
    (λ i below. absurd (omega arith)) (λ a ps there. read_array-asks mapped dest budget a.left a.from a.by_last ps there)

-- ---- physical region pages

pub entry_fault-mapped : (mapped : ℕ → Bool) (alignment addr len : ℕ) → entry_fault mapped alignment addr len ≡ None
    → (addr % alignment ≡ 0) × IsMappedFrom mapped addr len
entry_fault-mapped mapped alignment addr len fine =
    let last : List (Bool × StatusCode) = (not (everywhere mapped addr len), DataTransferError) ∷ [] in
    let both = first_failing-none (not (addr % alignment == 0)) PrpOffsetInvalid last fine in
    let there = not-false _ (first_failing-none (not (everywhere mapped addr len)) DataTransferError [] both.1).0 in
    (eqb-true (addr % alignment) 0 (not-false _ both.0), λ i below. everywhere-at mapped addr len i there below)

read_page-asks : (mapped : ℕ → Bool) (bytes : ℕ) (pieces : List Piece) (follow : List Piece → Dialogue Reading) (addr : ℕ)
    → ((ps : List Piece) → AsksIn mapped (follow ps)) → AsksIn mapped (read_page mapped bytes pieces follow addr)
read_page-asks mapped bytes pieces follow addr goes =
    AsksIn-unless_faulty mapped (entry_fault mapped page addr (min bytes page)) _ (λ fine. goes (pieces ++ run addr (min bytes page)))

-- not one slot, where others are to come
pub others-left : (slots pages : ℕ) → (slots == 1 && nat_lt 0 pages) ≡ false → 0 < pages → slots ≡ 1 → ⊥
others-left slots pages is some one =
    let first : (slots == 1) ≡ true = rw one refl in
    let second : nat_lt 0 pages ≡ false = and-false (slots == 1) (nat_lt 0 pages) is first in
    let none = ltb-false 0 pages second in
    omega arith

read_entries-asks : (mapped : ℕ → Bool) (pages slots from bytes : ℕ) (pieces : List Piece)
    → (0 < pages → 0 < slots) → IsMappedFrom mapped from (8 * min slots pages)
    → AsksIn mapped (read_entries mapped pages slots from bytes pieces)
unfolding read_entries
read_entries-asks mapped zero slots from bytes pieces some each = tt
read_entries-asks mapped (suc pages) slots from bytes pieces some each =
    let here = some (omega arith) in
    let slot_mapped = IsMappedFrom-part mapped from (8 * min slots (suc pages)) from 8 each (omega arith) (omega arith) in
    AsksIn-if mapped (slots == 1 && nat_lt 0 pages) _ _
    (λ _. (
      (slot_mapped, omega arith),
      λ slot.
          AsksIn-unless_faulty mapped (entry_fault mapped page (number_at slot 0 8) (8 * min (page / 8) (suc pages))) _ (λ fine.
          let there = (entry_fault-mapped mapped page (number_at slot 0 8) (8 * min (page / 8) (suc pages)) fine).1 in (
            (there, omega arith),
            λ entry. read_page-asks mapped bytes pieces _ (number_at entry 0 8) (λ ps.
                read_entries-asks mapped pages (page / 8 - 1) (number_at slot 0 8 + 8) (bytes - page) ps (λ _. omega arith)
                (IsMappedFrom-part mapped (number_at slot 0 8) (8 * min (page / 8) (suc pages)) (number_at slot 0 8 + 8) (8 * min (page / 8 - 1) pages) there (omega arith) (omega arith))),
          )),
    ))
    (λ more. (
      (each, omega arith),
      λ entry. read_page-asks mapped bytes pieces _ (number_at entry 0 8) (λ ps.
          read_entries-asks mapped pages (slots - 1) (from + 8) (bytes - page) ps
          (λ left. let not_one = others-left slots pages more left in omega arith)
          (IsMappedFrom-part mapped from (8 * min slots (suc pages)) (from + 8) (8 * min (slots - 1) pages) each (omega arith) (omega arith))),
    ))

read_prp2-asks : (mapped : ℕ → Bool) (pages prp2 bytes : ℕ) (pieces : List Piece)
    → AsksIn mapped (read_prp2 mapped pages prp2 bytes pieces)
read_prp2-asks mapped zero prp2 bytes pieces = tt
read_prp2-asks mapped (suc zero) prp2 bytes pieces =
    read_page-asks mapped bytes pieces (λ ps. End (Spells ps)) prp2 (λ ps. tt)
read_prp2-asks mapped (suc (suc pages)) prp2 bytes pieces =
    AsksIn-unless_faulty mapped (entry_fault mapped 8 prp2 (8 * min (slots_of prp2) (suc (suc pages)))) _ (λ fine.
    let there = entry_fault-mapped mapped 8 prp2 (8 * min (slots_of prp2) (suc (suc pages))) fine in
    let aligned : prp2 % 8 ≡ 0 = there.0 in
    read_entries-asks mapped (suc (suc pages)) (slots_of prp2) prp2 bytes pieces (λ _. omega arith) there.1)

pub read_prp-asks : (mapped : ℕ → Bool) (prp1 prp2 len : ℕ) → AsksIn mapped (read_prp mapped prp1 prp2 len)
read_prp-asks mapped prp1 prp2 len =
    AsksIn-unless_faulty mapped (entry_fault mapped 4 prp1 (first_len prp1 len)) _
    (λ fine. read_prp2-asks mapped (pages_of (len - first_len prp1 len)) prp2 (len - first_len prp1 len) (run prp1 (first_len prp1 len)))

-- ---- the verdict

read_by-asks : (pointer : DataPointer) (mapped : ℕ → Bool) (limit : ℕ) (dest : Bool) (len : ℕ) (entry : List ℕ)
    → AsksIn mapped (read_by pointer mapped limit dest len entry)
read_by-asks Prp mapped limit dest len entry = read_prp-asks mapped (prp1_of entry) (prp2_of entry) len
read_by-asks Sgl mapped limit dest len entry = read_sgl-asks mapped dest limit (sgl_of entry)
read_by-asks Reserved mapped limit dest len entry = tt

read_source-asks : (mapped : ℕ → Bool) (pieces : List Piece) (bytes : List ℕ) → All (IsMappedPiece mapped) pieces
    → AsksIn mapped (read_source pieces bytes)
unfolding read_source
read_source-asks mapped [] bytes each = tt
read_source-asks mapped (Run addr len ∷ pieces) bytes each = (
  (λ i below. everywhere-at mapped addr len i (All-head (IsMappedPiece mapped) (Run addr len) pieces each) below, omega arith),
  λ more. read_source-asks mapped pieces (bytes ++ more) (All-tail (IsMappedPiece mapped) (Run addr len) pieces each),
)
read_source-asks mapped (Bucket len ∷ pieces) bytes each =
    read_source-asks mapped pieces bytes (All-tail (IsMappedPiece mapped) (Bucket len) pieces each)

judge_buffer-asks : (form : Form) (mapped : ℕ → Bool) (blocks : ℕ) (opcode : IoOpcode) (entry : List ℕ) (pieces : List Piece)
    → All (IsMappedPiece mapped) pieces
    → AsksIn mapped (judge_buffer form blocks opcode entry pieces)
judge_buffer-asks (Transfer dest) mapped blocks opcode entry pieces each = tt
judge_buffer-asks Clear mapped blocks opcode entry pieces each = tt
judge_buffer-asks Manage mapped blocks opcode entry pieces each =
    AsksIn-and_then mapped (λ _. ⊤) (read_source pieces []) _ (read_source-asks mapped pieces [] each) (EndsIn-any (read_source pieces [])) (λ bytes _. tt)
judge_buffer-asks Keep mapped blocks opcode entry pieces each = tt

judge_reading-asks : (mapped : ℕ → Bool) (blocks : ℕ) (entry : List ℕ) (opcode : IoOpcode) (len : ℕ) (reading : Reading)
    → OfPieces (AreOfLen mapped len) reading → AsksIn mapped (judge_reading blocks entry opcode reading)
judge_reading-asks mapped blocks entry opcode len (Faulty code) there = tt
judge_reading-asks mapped blocks entry opcode len TooLong there = tt
judge_reading-asks mapped blocks entry opcode len (Spells pieces) there =
    judge_buffer-asks (form_of opcode) mapped blocks opcode entry pieces there.mapped_each

judge_by-asks : (opcode : Option IoOpcode) (mapped : ℕ → Bool) (limit blocks : ℕ) (entry : List ℕ)
    → AsksIn mapped (judge_by opcode mapped limit blocks entry)
judge_by-asks None mapped limit blocks entry = tt
judge_by-asks (Some opcode) mapped limit blocks entry =
    let ends = read_buffer-of_len (data_pointer (psdt_of entry)) mapped limit entry (is_read opcode) (transfer_len opcode entry) in
    AsksIn-if mapped (has_buffer opcode) _ _
    (λ _. AsksIn-and_then mapped (OfPieces (AreOfLen mapped (transfer_len opcode entry))) (read_buffer mapped limit opcode entry) (judge_reading blocks entry opcode)
    (AsksIn-and_then mapped (λ _. ⊤) (read_by (data_pointer (psdt_of entry)) mapped limit (is_read opcode) (transfer_len opcode entry) entry) _
    (read_by-asks (data_pointer (psdt_of entry)) mapped limit (is_read opcode) (transfer_len opcode entry) entry) (EndsIn-any _) (λ reading _. tt))
    ends (λ reading there. judge_reading-asks mapped blocks entry opcode (transfer_len opcode entry) reading there))
    (λ _. judge_buffer-asks (form_of opcode) mapped blocks opcode entry [] (All-nil (IsMappedPiece mapped)))

judge_fields-asks : (refusal : Option StatusCode) (mapped : ℕ → Bool) (limit blocks : ℕ) (entry : List ℕ)
    → AsksIn mapped (judge_fields refusal mapped limit blocks entry)
judge_fields-asks (Some code) mapped limit blocks entry = tt
judge_fields-asks None mapped limit blocks entry = judge_by-asks (io_opcode (opcode_of entry)) mapped limit blocks entry

-- what the verdict on a command asks for is mapped
pub judge-asks : (mapped : ℕ → Bool) (limit blocks : ℕ) (entry : List ℕ)
    → AsksIn mapped (judge mapped limit blocks entry)
unfolding judge
judge-asks mapped limit blocks entry = judge_fields-asks (field_refusal blocks entry) mapped limit blocks entry
