-- Lists are asked for in parts: each is used up where the next question begins.
use Rattle.std.proofs.Common.{◌≡◌, ℕ, zero, suc, ◌+◌, ◌-◌, ◌*◌, ◌/◌, ◌%◌, ◌<◌, ◌≤◌}
use Rattle.std.proofs.Common.{min, Bool, true, false, cond, ◌&&◌, ◌==◌, nat_lt, List, [], ◌∷◌, ◌++◌, All}
use Rattle.std.proofs.Common.{Option, Some, None, length, arith, refl, sym, subst, eqb-true}
use Rattle.std.specs.Bool.{⊤}
use Rattle.std.proofs.lemmas.List.Elements.{All-cons, All-head, All-nil, All-tail}
use Rattle.std.proofs.lemmas.List.Sums.{sum_by-cons}
use Rattle.nv_entry.specs.Layout.{bits, number_at}
use Rattle.nv_entry.specs.Descriptor.{kind_of}
use Rattle.nv_entry.specs.Opcode.{data_pointer, io_opcode}
use Rattle.nv_entry.specs.Submission.{opcode_of, psdt_of, prp1_of, prp2_of, sgl_of}
use Rattle.nv_entry.specs.declared.data_pointer.DataPointer.{DataPointer}
use Rattle.nv_entry.specs.declared.data_pointer.DataPointer.TheVariants.{Prp, Sgl, Reserved}
use Rattle.nv_entry.specs.declared.descriptor_type.DescriptorType.{DescriptorType}
use Rattle.nv_entry.specs.declared.descriptor_type.DescriptorType.TheVariants.{DataBlock, BitBucket, Segment, LastSegment}
use Rattle.nv_entry.specs.declared.opcode.IoOpcode.{IoOpcode}
use Rattle.nv_entry.specs.declared.status_code.StatusCode.{StatusCode}
use Rattle.nv_entry.specs.declared.status_code.StatusCode.TheVariants.{SglLengthInvalid}
use Rattle.nv_mem.specs.Places.{piece_len, total_len}
use Rattle.nv_mem.specs.declared.piece.Piece.{Piece}
use Rattle.nv_mem.specs.declared.piece.Piece.TheVariants.{Run, Bucket}
use Rattle.nv_model.specs.Dialogue.{Dialogue, End, Ask, and_then}
use Rattle.nv_model.specs.Reading.{Reading, Faulty, TooLong, Spells, run, unless_faulty}
use Rattle.nv_model.specs.Sgl.{Array, array_by, behind_own, fault_by, pieces_by, read_array, read_descriptor, read_sgl}
use Rattle.nv_model.specs.Prp.{entry_fault, first_len, pages_of, read_entries, read_page, read_prp, read_prp2, slots_of}
use Rattle.nv_model.specs.Limits.{page}
use Rattle.nv_model.specs.Judge.{Form, Transfer, Clear, Manage, Keep, field_refusal, form_of, has_buffer, is_read, judge, judge_buffer, judge_by, judge_fields}
use Rattle.nv_model.specs.Judge.{judge_reading, range_count_of, read_buffer, read_by, read_source, sized, transfer_len}
use Rattle.nv_model.specs.Parts.{AsksInParts, UsesUp, in_hand}
use Rattle.nv_model.proofs.Endings.{EndsIn, EndsIn-any, OfPieces, and-true}
use Rattle.nv_model.proofs.Asking.{entry_fault-mapped, others-left}
use Rattle.nv_model.proofs.Judged.{read_buffer-of_len}
use Rattle.nv_model.proofs.SglSequenced.{segment_fault-names}
use Rattle.nv_model.proofs.Shown.{in_hand-some}
use Rattle.nv_model.proofs.Spelled.{AreOfLen}

-- ---- dialogues

-- as `UsesUp`, and each end has this, of how many bytes of the part are left there
abbrev pub UsesUpTo : {A : Type 0} → (P : ℕ → A → Type 0) → (from rest : ℕ) → Dialogue A → Type 0
UsesUpTo P from rest (End value) = P rest value
UsesUpTo P from rest (Ask addr unit left next) =
    (0 < rest → addr ≡ from)
    × (unit ≤ in_hand rest left)
    × ((bytes : List ℕ) → length bytes ≡ unit → UsesUpTo P (addr + unit) (in_hand rest left - unit) (next bytes))

-- whatever the ends have
pub UsesUp-to : {A : Type 0} (P : ℕ → A → Type 0) (from rest : ℕ) (d : Dialogue A) → UsesUpTo P from rest d
    → UsesUp from rest d
UsesUp-to P from rest (End value) uses = tt
UsesUp-to P from rest (Ask addr unit left next) uses =
    (uses.0, uses.1, λ bytes many. UsesUp-to P (addr + unit) (in_hand rest left - unit) (next bytes) (uses.2 bytes many))

-- one dialogue behind another, which begins with what is left of the part
UsesUp-and_then : {A B : Type 0} (P : ℕ → A → Type 0) (Q : A → Type 0) (R : ℕ → B → Type 0) (from rest : ℕ) (d : Dialogue A) (more : A → Dialogue B)
    → UsesUpTo P from rest d → EndsIn Q d
    → ((at n : ℕ) (value : A) → P n value → Q value → UsesUpTo R at n (more value))
    → UsesUpTo R from rest (and_then d more)
unfolding and_then
UsesUp-and_then P Q R from rest (End value) more uses ends goes = goes from rest value uses ends
UsesUp-and_then P Q R from rest (Ask addr unit left next) more uses ends goes =
    (uses.0, uses.1, λ bytes many. UsesUp-and_then P Q R (addr + unit) (in_hand rest left - unit) (next bytes) more (uses.2 bytes many) (ends bytes) goes)

-- a dialogue that goes by a test
UsesUp-if : {A : Type 0} (P : ℕ → A → Type 0) (from rest : ℕ) (b : Bool) (x y : Dialogue A)
    → (b ≡ true → UsesUpTo P from rest x) → (b ≡ false → UsesUpTo P from rest y) → UsesUpTo P from rest (cond b x y)
UsesUp-if P from rest true x y so not_so = so refl
UsesUp-if P from rest false x y so not_so = not_so refl

-- a list that is spelled has used up its part
abbrev pub IsUsedUp : ℕ → Reading → Type 0
IsUsedUp rest (Faulty code) = ⊤
IsUsedUp rest TooLong = ⊤
IsUsedUp rest (Spells pieces) = rest ≡ 0

-- a fault ends it
UsesUp-unless_faulty : (from rest : ℕ) (fault : Option StatusCode) (more : Dialogue Reading)
    → (fault ≡ None → UsesUpTo IsUsedUp from rest more) → UsesUpTo IsUsedUp from rest (unless_faulty fault more)
UsesUp-unless_faulty from rest None more goes = goes refl
UsesUp-unless_faulty from rest (Some code) more goes = tt

-- of `n` units that are left, one is taken of what is at hand: whole units stay
pub record TakesUnit (unit n hand : ℕ) : Type 0 where
  pub fit : unit ≤ hand
  pub whole : (hand - unit) % unit ≡ 0
  pub within : hand - unit ≤ unit * (n - 1)

-- a descriptor
in_hand-descriptor : (rest n : ℕ) → rest % 16 ≡ 0 → rest ≤ 16 * n → 0 < n → TakesUnit 16 n (in_hand rest (16 * n))
in_hand-descriptor zero n whole within some = record { fit = omega arith; whole = omega arith; within = omega arith }
in_hand-descriptor (suc rest) n whole within some =
    let hand = in_hand-some (suc rest) (16 * n) (omega arith) in
    record { fit = omega arith; whole = omega arith; within = omega arith }

-- a slot
in_hand-slot : (rest n : ℕ) → rest % 8 ≡ 0 → rest ≤ 8 * n → 0 < n → n ≤ 512 → TakesUnit 8 n (in_hand rest (8 * n))
in_hand-slot zero n whole within some full = record { fit = omega arith; whole = omega arith; within = omega arith }
in_hand-slot (suc rest) n whole within some full =
    let hand = in_hand-some (suc rest) (8 * n) (omega arith) in
    record { fit = omega arith; whole = omega arith; within = omega arith }

-- ---- scatter gather lists

-- of an array `rest` bytes of whole descriptors were met and are left
pub record IsPartOf (from rest : ℕ) (a : Array) : Type 0 where
  pub whole : rest % 16 ≡ 0
  pub within : rest ≤ 16 * a.left
  pub next : 0 < rest → a.from ≡ from

-- nothing of it
IsPartOf-none : (from rest : ℕ) (a : Array) → rest ≡ 0 → IsPartOf from rest a
IsPartOf-none from rest a none = record { whole = omega arith; within = omega arith; next = λ some. absurd (omega arith) }

-- so the part goes on with what is read behind a descriptor
array_by-part : (mapped : ℕ → Bool) (kind : Option DescriptorType) (a : Array) (d : List ℕ) (from rest : ℕ)
    → fault_by kind mapped a d ≡ None → IsPartOf from rest a → IsPartOf from rest (array_by kind a d)
array_by-part mapped None a d from rest fine left_over = left_over
array_by-part mapped (Some DataBlock) a d from rest fine left_over = left_over
array_by-part mapped (Some BitBucket) a d from rest fine left_over = left_over
array_by-part mapped (Some Segment) a d from rest fine left_over =
    let names = segment_fault-names mapped a d fine in IsPartOf-none from rest _ (omega arith)
array_by-part mapped (Some LastSegment) a d from rest fine left_over =
    let names = segment_fault-names mapped a d fine in IsPartOf-none from rest _ (omega arith)

read_descriptor-part : (mapped : ℕ → Bool) (dest : Bool) (a : Array) (pieces : List Piece) (follow : Array → List Piece → Dialogue Reading) (d : List ℕ) (from rest : ℕ)
    → IsPartOf from rest a
    → ((b : Array) (ps : List Piece) → IsPartOf from rest b → UsesUpTo IsUsedUp from rest (follow b ps))
    → UsesUpTo IsUsedUp from rest (read_descriptor mapped dest a pieces follow d)
read_descriptor-part mapped dest a pieces follow d from rest left_over goes =
    UsesUp-unless_faulty from rest (fault_by (kind_of d) mapped a d) _
    (λ fine. goes (array_by (kind_of d) a d) (pieces ++ pieces_by (kind_of d) dest d) (array_by-part mapped (kind_of d) a d from rest fine left_over))

read_array-part : (mapped : ℕ → Bool) (dest : Bool) (budget left from : ℕ) (by_last : Bool) (pieces : List Piece) (at rest : ℕ)
    → IsPartOf at rest (record { from = from; left = left; by_last = by_last })
    → UsesUpTo IsUsedUp at rest (read_array mapped dest budget left from by_last pieces)
unfolding read_array
read_array-part mapped dest budget zero from by_last pieces at rest left_over = omega arith
read_array-part mapped dest zero (suc left) from by_last pieces at rest left_over = tt
read_array-part mapped dest (suc budget) (suc left) from by_last pieces at rest left_over =
    let takes = in_hand-descriptor rest (suc left) left_over.whole left_over.within (omega arith) in (
      left_over.next,
      takes.fit,
      λ d many. read_descriptor-part mapped dest (record { from = from + 16; left = left; by_last = by_last }) pieces
          (λ a ps. read_array mapped dest budget a.left a.from a.by_last ps) d (from + 16) (in_hand rest (16 * suc left) - 16)
          (record { whole = takes.whole; within = omega arith; next = λ _. refl })
          (λ a ps there. read_array-part mapped dest budget a.left a.from a.by_last ps (from + 16) (in_hand rest (16 * suc left) - 16) there),
    )

pub read_sgl-part : (mapped : ℕ → Bool) (dest : Bool) (limit : ℕ) (own : List ℕ)
    → UsesUpTo IsUsedUp 0 0 (read_sgl mapped dest limit own)
unfolding read_sgl
read_sgl-part mapped dest zero own = tt
read_sgl-part mapped dest (suc budget) own =
    read_descriptor-part mapped dest behind_own [] (λ a ps. read_array mapped dest budget a.left a.from a.by_last ps) own 0 0
    (IsPartOf-none 0 0 behind_own refl) (λ a ps there. read_array-part mapped dest budget a.left a.from a.by_last ps 0 0 there)

-- ---- physical region pages

read_page-part : (mapped : ℕ → Bool) (bytes : ℕ) (pieces : List Piece) (follow : List Piece → Dialogue Reading) (addr from rest : ℕ)
    → ((ps : List Piece) → UsesUpTo IsUsedUp from rest (follow ps))
    → UsesUpTo IsUsedUp from rest (read_page mapped bytes pieces follow addr)
read_page-part mapped bytes pieces follow addr from rest goes =
    UsesUp-unless_faulty from rest (entry_fault mapped page addr (min bytes page)) _ (λ fine. goes (pieces ++ run addr (min bytes page)))

-- of the slots of a list page `rest` bytes of whole slots were met and are left
pub record IsPartOfSlots (at rest pages slots from : ℕ) : Type 0 where
  pub whole : rest % 8 ≡ 0
  pub within : rest ≤ 8 * min slots pages
  pub next : 0 < rest → from ≡ at
  pub some : 0 < pages → 0 < slots
  pub page_full : slots ≤ 512

read_entries-part : (mapped : ℕ → Bool) (pages slots from bytes : ℕ) (pieces : List Piece) (at rest : ℕ)
    → IsPartOfSlots at rest pages slots from
    → UsesUpTo IsUsedUp at rest (read_entries mapped pages slots from bytes pieces)
unfolding read_entries
read_entries-part mapped zero slots from bytes pieces at rest left_over = omega arith
read_entries-part mapped (suc pages) slots from bytes pieces at rest left_over =
    let here : 0 < slots = left_over.some (omega arith) in
    UsesUp-if IsUsedUp at rest (slots == 1 && nat_lt 0 pages) _ _
    (λ last.
    let one : slots ≡ 1 = eqb-true slots 1 (and-true (slots == 1) (nat_lt 0 pages) last).0 in
    let takes = in_hand-slot rest 1 left_over.whole (omega arith) (omega arith) (omega arith) in (
      left_over.next,
      takes.fit,
      λ slot many. UsesUp-unless_faulty (from + 8) (in_hand rest 8 - 8) (entry_fault mapped page (number_at slot 0 8) (8 * min (page / 8) (suc pages))) _ (λ fine.
          let used : in_hand rest 8 - 8 ≡ 0 = omega arith in
          let takes_behind = in_hand-slot (in_hand rest 8 - 8) (min (page / 8) (suc pages)) (omega arith) (omega arith) (omega arith) (omega arith) in (
            λ some. absurd (omega arith),
            takes_behind.fit,
            λ entry many_too. read_page-part mapped bytes pieces _ (number_at entry 0 8) (number_at slot 0 8 + 8) (in_hand (in_hand rest 8 - 8) (8 * min (page / 8) (suc pages)) - 8) (λ ps.
                read_entries-part mapped pages (page / 8 - 1) (number_at slot 0 8 + 8) (bytes - page) ps (number_at slot 0 8 + 8) (in_hand (in_hand rest 8 - 8) (8 * min (page / 8) (suc pages)) - 8)
                (record { whole = takes_behind.whole; within = omega arith; next = λ _. refl; some = λ _. omega arith; page_full = omega arith })),
          )),
    ))
    (λ more.
    let takes = in_hand-slot rest (min slots (suc pages)) left_over.whole left_over.within (omega arith) (omega arith) in (
      left_over.next,
      takes.fit,
      λ entry many. read_page-part mapped bytes pieces _ (number_at entry 0 8) (from + 8) (in_hand rest (8 * min slots (suc pages)) - 8) (λ ps.
          read_entries-part mapped pages (slots - 1) (from + 8) (bytes - page) ps (from + 8) (in_hand rest (8 * min slots (suc pages)) - 8)
          (record {
            whole = takes.whole;
            within = omega arith;
            next = λ _. refl;
            some = λ left. (let not_one = others-left slots pages more left in omega arith);
            page_full = omega arith;
          })),
    ))

read_prp2-part : (mapped : ℕ → Bool) (pages prp2 bytes : ℕ) (pieces : List Piece)
    → UsesUpTo IsUsedUp 0 0 (read_prp2 mapped pages prp2 bytes pieces)
read_prp2-part mapped zero prp2 bytes pieces = refl
read_prp2-part mapped (suc zero) prp2 bytes pieces =
    read_page-part mapped bytes pieces (λ ps. End (Spells ps)) prp2 0 0 (λ ps. refl)
read_prp2-part mapped (suc (suc pages)) prp2 bytes pieces =
    UsesUp-unless_faulty 0 0 (entry_fault mapped 8 prp2 (8 * min (slots_of prp2) (suc (suc pages)))) _ (λ fine.
    let aligned : prp2 % 8 ≡ 0 = (entry_fault-mapped mapped 8 prp2 (8 * min (slots_of prp2) (suc (suc pages))) fine).0 in
    read_entries-part mapped (suc (suc pages)) (slots_of prp2) prp2 bytes pieces 0 0
    (record { whole = refl; within = omega arith; next = λ some. absurd (omega arith); some = λ _. omega arith; page_full = omega arith }))

pub read_prp-part : (mapped : ℕ → Bool) (prp1 prp2 len : ℕ) → UsesUpTo IsUsedUp 0 0 (read_prp mapped prp1 prp2 len)
read_prp-part mapped prp1 prp2 len =
    UsesUp-unless_faulty 0 0 (entry_fault mapped 4 prp1 (first_len prp1 len)) _
    (λ fine. read_prp2-part mapped (pages_of (len - first_len prp1 len)) prp2 (len - first_len prp1 len) (run prp1 (first_len prp1 len)))

-- ---- the ranges of Dataset Management

-- a piece is at most one part
abbrev IsShort : Piece → Type 0
IsShort p = piece_len p ≤ 4096

-- those of a transfer of one part are
short-each : (pieces : List Piece) → total_len pieces ≤ 4096 → All IsShort pieces
short-each [] few = All-nil IsShort
short-each (p ∷ pieces) few =
    let total = sum_by-cons piece_len p pieces in
    let here : piece_len p ≤ 4096 = omega arith in
    All-cons IsShort p pieces here (short-each pieces (omega arith))

-- a source of runs that are one part each
pub read_source-part : (pieces : List Piece) (bytes : List ℕ) (from : ℕ) → All (λ p. piece_len p ≤ 4096) pieces
    → UsesUpTo (λ rest _. rest ≡ 0) from 0 (read_source pieces bytes)
unfolding read_source
read_source-part [] bytes from few = refl
read_source-part (Run addr len ∷ pieces) bytes from few =
    let short : len ≤ 4096 = All-head IsShort (Run addr len) pieces few in
    let none : in_hand 0 len - len ≡ 0 = omega arith in (
      λ some. absurd (omega arith),
      omega arith,
      λ more many. subst (λ (n : ℕ). UsesUpTo (λ rest _. rest ≡ 0) (addr + len) n (read_source pieces (bytes ++ more))) (sym none)
          (read_source-part pieces (bytes ++ more) (addr + len) (All-tail IsShort (Run addr len) pieces few)),
    )
read_source-part (Bucket len ∷ pieces) bytes from few =
    read_source-part pieces bytes from (All-tail IsShort (Bucket len) pieces few)

read_source-used : (pieces : List Piece) (from rest : ℕ) → rest ≡ 0 → total_len pieces ≤ 4096
    → UsesUpTo (λ n _. n ≡ 0) from rest (read_source pieces [])
read_source-used pieces from rest used few =
    subst (λ (n : ℕ). UsesUpTo (λ m _. m ≡ 0) from n (read_source pieces [])) (sym used) (read_source-part pieces [] from (short-each pieces few))

-- ---- the verdict

-- whatever the end is
abbrev Any : {A : Type 0} → ℕ → A → Type 0
Any rest value = ⊤

read_by-part : (pointer : DataPointer) (mapped : ℕ → Bool) (limit : ℕ) (dest : Bool) (len : ℕ) (entry : List ℕ)
    → UsesUpTo IsUsedUp 0 0 (read_by pointer mapped limit dest len entry)
read_by-part Prp mapped limit dest len entry = read_prp-part mapped (prp1_of entry) (prp2_of entry) len
read_by-part Sgl mapped limit dest len entry = read_sgl-part mapped dest limit (sgl_of entry)
read_by-part Reserved mapped limit dest len entry = tt

-- the check of its length leaves it so
sized-part : (rest len : ℕ) (reading : Reading) → IsUsedUp rest reading → IsUsedUp rest (sized len reading)
sized-part rest len (Faulty code) used = tt
sized-part rest len TooLong used = tt
sized-part rest len (Spells pieces) used =
    (elim (total_len pieces == len) as (λ b. IsUsedUp rest (cond b (Spells pieces) (Faulty SglLengthInvalid))) [ true ↦ used | false ↦ tt ])

-- a list whose length is checked
pub read_buffer-part : (pointer : DataPointer) (mapped : ℕ → Bool) (limit : ℕ) (dest : Bool) (len : ℕ) (entry : List ℕ)
    → UsesUpTo IsUsedUp 0 0 (and_then (read_by pointer mapped limit dest len entry) (λ reading. End (sized len reading)))
read_buffer-part pointer mapped limit dest len entry =
    let list = read_by pointer mapped limit dest len entry in
    UsesUp-and_then IsUsedUp (λ _. ⊤) IsUsedUp 0 0 list _ (read_by-part pointer mapped limit dest len entry) (EndsIn-any list)
    (λ at n reading used _. sized-part n len reading used)

-- the ranges are at most a part
pub ranges-short : (entry : List ℕ) → 16 * range_count_of entry ≤ 4096
unfolding bits
ranges-short entry = omega arith

ranged-short : (opcode : IoOpcode) (entry : List ℕ) → form_of opcode ≡ Manage → transfer_len opcode entry ≤ 4096
ranged-short opcode entry form = rw form (ranges-short entry)

judge_buffer-part : (form : Form) (blocks : ℕ) (opcode : IoOpcode) (entry : List ℕ) (pieces : List Piece) (from rest : ℕ)
    → IsUsedUp rest (Spells pieces) → (form ≡ Manage → total_len pieces ≤ 4096)
    → UsesUpTo Any from rest (judge_buffer form blocks opcode entry pieces)
judge_buffer-part (Transfer dest) blocks opcode entry pieces from rest used short = tt
judge_buffer-part Clear blocks opcode entry pieces from rest used short = tt
judge_buffer-part Manage blocks opcode entry pieces from rest used short =
    UsesUp-and_then (λ n _. n ≡ 0) (λ _. ⊤) Any from rest (read_source pieces []) _
    (read_source-used pieces from rest used (short refl)) (EndsIn-any (read_source pieces [])) (λ at n bytes _ _. tt)
judge_buffer-part Keep blocks opcode entry pieces from rest used short = tt

judge_reading-part : (mapped : ℕ → Bool) (blocks : ℕ) (entry : List ℕ) (opcode : IoOpcode) (reading : Reading) (from rest : ℕ)
    → IsUsedUp rest reading → OfPieces (AreOfLen mapped (transfer_len opcode entry)) reading
    → UsesUpTo Any from rest (judge_reading blocks entry opcode reading)
judge_reading-part mapped blocks entry opcode (Faulty code) from rest used there = tt
judge_reading-part mapped blocks entry opcode TooLong from rest used there = tt
judge_reading-part mapped blocks entry opcode (Spells pieces) from rest used there =
    judge_buffer-part (form_of opcode) blocks opcode entry pieces from rest used
    (λ form. let short = ranged-short opcode entry form in let total = there.total in omega arith)

judge_by-part : (opcode : Option IoOpcode) (mapped : ℕ → Bool) (limit blocks : ℕ) (entry : List ℕ)
    → UsesUpTo Any 0 0 (judge_by opcode mapped limit blocks entry)
judge_by-part None mapped limit blocks entry = tt
judge_by-part (Some opcode) mapped limit blocks entry =
    UsesUp-if Any 0 0 (has_buffer opcode) _ _
    (λ _. UsesUp-and_then IsUsedUp (OfPieces (AreOfLen mapped (transfer_len opcode entry))) Any 0 0 (read_buffer mapped limit opcode entry) (judge_reading blocks entry opcode)
    (read_buffer-part (data_pointer (psdt_of entry)) mapped limit (is_read opcode) (transfer_len opcode entry) entry)
    (read_buffer-of_len (data_pointer (psdt_of entry)) mapped limit entry (is_read opcode) (transfer_len opcode entry))
    (λ at n reading used there. judge_reading-part mapped blocks entry opcode reading at n used there))
    (λ _. judge_buffer-part (form_of opcode) blocks opcode entry [] 0 0 refl (λ _. omega arith))

judge_fields-part : (refusal : Option StatusCode) (mapped : ℕ → Bool) (limit blocks : ℕ) (entry : List ℕ)
    → UsesUpTo Any 0 0 (judge_fields refusal mapped limit blocks entry)
judge_fields-part (Some code) mapped limit blocks entry = tt
judge_fields-part None mapped limit blocks entry = judge_by-part (io_opcode (opcode_of entry)) mapped limit blocks entry

judge-part : (mapped : ℕ → Bool) (limit blocks : ℕ) (entry : List ℕ)
    → UsesUpTo Any 0 0 (judge mapped limit blocks entry)
unfolding judge
judge-part mapped limit blocks entry = judge_fields-part (field_refusal blocks entry) mapped limit blocks entry

-- ---- they ask in parts

pub read_sgl-in_parts : (mapped : ℕ → Bool) (dest : Bool) (limit : ℕ) (own : List ℕ)
    → AsksInParts (read_sgl mapped dest limit own)
read_sgl-in_parts mapped dest limit own =
    UsesUp-to IsUsedUp 0 0 (read_sgl mapped dest limit own) (read_sgl-part mapped dest limit own)

pub read_prp-in_parts : (mapped : ℕ → Bool) (prp1 prp2 len : ℕ) → AsksInParts (read_prp mapped prp1 prp2 len)
read_prp-in_parts mapped prp1 prp2 len =
    UsesUp-to IsUsedUp 0 0 (read_prp mapped prp1 prp2 len) (read_prp-part mapped prp1 prp2 len)

pub read_source-in_parts : (pieces : List Piece) (bytes : List ℕ) → All (λ p. piece_len p ≤ 4096) pieces
    → AsksInParts (read_source pieces bytes)
read_source-in_parts pieces bytes few =
    UsesUp-to (λ rest _. rest ≡ 0) 0 0 (read_source pieces bytes) (read_source-part pieces bytes 0 few)

pub judge-in_parts : (mapped : ℕ → Bool) (limit blocks : ℕ) (entry : List ℕ)
    → AsksInParts (judge mapped limit blocks entry)
judge-in_parts mapped limit blocks entry =
    UsesUp-to Any 0 0 (judge mapped limit blocks entry) (judge-part mapped limit blocks entry)
