-- What carrying a command out has to show
use Rattle.std.proofs.Common.{◌≡◌, ℕ, ◌+◌, ◌*◌, ◌≤◌, Bool, true, false, ◌&&◌, Some, None, Ok, Err, List, [], length, refl, sym, ap, subst, ◌∙◌, arith, ◌<◌}
use Rattle.std.specs.List.{range_with_len}
use Rattle.std.proofs.lemmas.Bool.Decides.{nat_tests}
use Rattle.nv_entry.specs.Opcode.{io_opcode}
use Rattle.nv_entry.specs.Submission.{opcode_of, slba_of}
use Rattle.nv_entry.specs.Status.{StatusField}
use Rattle.nv_entry.specs.StatusCode.{done_with, refused_with}
use Rattle.nv_entry.specs.declared.opcode.IoOpcode.{IoOpcode}
use Rattle.nv_entry.specs.declared.opcode.IoOpcode.TheVariants.{Flush, Write, Read, Compare, WriteZeroes, DatasetManagement}
use Rattle.nv_entry.specs.declared.status_code.StatusCode.TheVariants.{InternalError, Success}
use Rattle.nv_judge.specs.declared.need.Need.{Need}
use Rattle.nv_judge.specs.Need.{HasFieldsInOrder, field_verdict, need_of}
use Rattle.nv_mem.specs.declared.piece.Piece.{Piece}
use Rattle.nv_ns.specs.BlockRange.{in_namespace}
use Rattle.nv_model.specs.Dialogue.{End, in_memory}
use Rattle.nv_model.specs.Reading.{Reading, Faulty, TooLong, Spells}
use Rattle.nv_model.specs.Judge.{Verdict, Work, KeepAll, Refuse, Go, count_of, has_blocks, has_buffer, judge_reading, work_of, is_fua, lbas_of}
use Rattle.nv_model.specs.Private.{moved_status, verdict_in}
use Rattle.nv_model.specs.Carried.{block_work, moved_on, units_moved}
use Rattle.nv_model.specs.Carrying.{cleared, units_from}
use Rattle.nv_model.specs.Memory.{byte_in}
use Rattle.nv_disk.specs.Flat.{Flat, moved_of}
use Rattle.nv_flat.specs.Listed.{refusal_of_reading, list_reading}
use Rattle.nv_flat.specs.One.{IsRun, shape_of}
use Rattle.nv_flat.specs.Transfer.{is_transfer}
use Rattle.nv_flat.proofs.OneLemmas.{moved-run, refused-run}
use Rattle.nv_judge.proofs.FieldLemmas.{field_verdict-err, field_verdict-ok, count-at_most, in-namespace}
use Rattle.nv_flat.proofs.VerdictLemmas.{verdict-listed, verdict-refused, verdict-unlisted}
use Rattle.nv_flat.proofs.WorkLemmas.{units_moved-transfer}
use Rattle.nv_model.proofs.UnitWords.{units_moved-cleared}

-- ---- the fields

-- a command that its fields refuse
pub fields-refused : (f : Flat) (entry : List ℕ) (st : StatusField) → field_verdict (length f.disk) entry ≡ Err st
    → IsRun f entry st f
fields-refused f entry st e =
    let r = field_verdict-err (length f.disk) entry st e in
    refused-run f entry st (verdict-refused (shape_of f) (byte_in f.memory) entry r.0 r.1 ∙ ap Refuse (sym r.2))

-- a command whose fields are in order
pub in-order : (f : Flat) (entry : List ℕ) (need : Need) (opcode : IoOpcode)
    → field_verdict (length f.disk) entry ≡ Ok need → io_opcode (opcode_of entry) ≡ Some opcode
    → HasFieldsInOrder (length f.disk) entry opcode need
in-order f entry need opcode verdict known =
    let ok = field_verdict-ok (length f.disk) entry need verdict in
    let same : ok.1.0 ≡ opcode = some-same ok.1.0 opcode (sym ok.1.1 ∙ known) in
    record { unrefused = ok.0; known = known; needs = ok.1.2 ∙ ap (need_of entry) same }
  where
    some-same : (a b : IoOpcode) → Some a ≡ Some b → a ≡ b
    some-same a b e = (cc)

-- a command whose fields are in order has a known opcode
pub known-opcode : (f : Flat) (entry : List ℕ) (need : Need) → field_verdict (length f.disk) entry ≡ Ok need
    → io_opcode (opcode_of entry) ≡ None → ⊥
known-opcode f entry need verdict unknown =
    let ok = field_verdict-ok (length f.disk) entry need verdict in
    let bad = sym ok.1.1 ∙ unknown in
    (cc)

-- ---- the list

-- the verdict on a command, once its list is read
pub list-verdict : (f : Flat) (entry : List ℕ) (opcode : IoOpcode) (need : Need) (reading : Reading)
    → HasFieldsInOrder (length f.disk) entry opcode need
    → has_buffer opcode ≡ true → list_reading f entry need ≡ reading
    → verdict_in (shape_of f) (byte_in f.memory) entry ≡ in_memory (byte_in f.memory) (judge_reading (length f.disk) entry opcode reading)
list-verdict f entry opcode need reading o buffer read =
    let P : Need → Type 0 = λ n. list_reading f entry n ≡ reading in
    verdict-listed (shape_of f) (byte_in f.memory) entry opcode reading o.unrefused o.known buffer (subst P o.needs read)

-- a dialogue that has ended
ended : (m : ℕ → ℕ) (v : Verdict) → in_memory m (End v) ≡ v
unfolding in_memory
ended m v = refl

-- a command that its list refuses
pub list-refused : (f : Flat) (entry : List ℕ) (opcode : IoOpcode) (need : Need) (st : StatusField)
    → HasFieldsInOrder (length f.disk) entry opcode need
    → has_buffer opcode ≡ true → refusal_of_reading (list_reading f entry need) ≡ Some st → IsRun f entry st f
list-refused f entry opcode need st o buffer refused =
    refused-run f entry st
    (list-verdict f entry opcode need (list_reading f entry need) o buffer refl
    ∙ judged (length f.disk) (byte_in f.memory) entry opcode (list_reading f entry need) st refused)
  where
    judged : (blocks : ℕ) (m : ℕ → ℕ) (entry : List ℕ) (opcode : IoOpcode) (reading : Reading) (st : StatusField)
        → refusal_of_reading reading ≡ Some st → in_memory m (judge_reading blocks entry opcode reading) ≡ Refuse st
    judged blocks m entry opcode (Faulty code) st e =
        (let same : refused_with code ≡ st = (cc) in ended m (Refuse (refused_with code)) ∙ ap Refuse same)
    judged blocks m entry opcode TooLong st e =
        (let same : done_with InternalError ≡ st = (cc) in ended m (Refuse (done_with InternalError)) ∙ ap Refuse same)
    judged blocks m entry opcode (Spells pieces) st e = (cc)

-- ---- Read, Write and Compare

pub buffered : (opcode : IoOpcode) → is_transfer opcode ≡ true → (has_buffer opcode ≡ true) × (has_blocks opcode ≡ true)
buffered Read e = (refl, refl)
buffered Write e = (refl, refl)
buffered Compare e = (refl, refl)
buffered Flush e = (cc)
buffered WriteZeroes e = (cc)
buffered DatasetManagement e = (cc)

-- what they need
pub transfer-needs : (entry : List ℕ) (opcode : IoOpcode) → is_transfer opcode ≡ true
    → ((need_of entry opcode).blocks ≡ count_of entry) × ((need_of entry opcode).bytes ≡ 512 * count_of entry)
transfer-needs entry Read t = (refl, refl)
transfer-needs entry Write t = (refl, refl)
transfer-needs entry Compare t = (refl, refl)
transfer-needs entry Flush t = (cc)
transfer-needs entry WriteZeroes t = (cc)
transfer-needs entry DatasetManagement t = (cc)

-- the work of a command over blocks whose list is read
goes-with : (f : Flat) (entry : List ℕ) (opcode : IoOpcode) (pieces : List Piece) → is_transfer opcode ≡ true
    → in_memory (byte_in f.memory) (judge_reading (length f.disk) entry opcode (Spells pieces)) ≡ Go (work_of (length f.disk) opcode entry pieces [])
unfolding in_memory
goes-with f entry Read pieces t = refl
goes-with f entry Write pieces t = refl
goes-with f entry Compare pieces t = refl
goes-with f entry WriteZeroes pieces t = (cc)
goes-with f entry Flush pieces t = (cc)
goes-with f entry DatasetManagement pieces t = (cc)

-- a Read, Write or Compare whose blocks have moved
pub transfer-run : (f g : Flat) (entry : List ℕ) (opcode : IoOpcode) (need : Need) (pieces : List Piece) (differed : Bool)
    → HasFieldsInOrder (length f.disk) entry opcode need
    → is_transfer opcode ≡ true → list_reading f entry need ≡ Spells pieces
    → moved_of g differed ≡ units_moved (units_from 0 (slba_of entry) need.blocks) (block_work opcode pieces need.fua) (moved_of f false)
    → IsRun f entry (moved_status differed) g
transfer-run f g entry opcode need pieces differed o t read moved =
    let b = buffered opcode t in
    let goes = list-verdict f entry opcode need (Spells pieces) o b.0 read ∙ goes-with f entry opcode pieces t in
    let Q : Need → Type 0 =
    λ n. moved_of g differed ≡ units_moved (units_from 0 (slba_of entry) n.blocks) (block_work opcode pieces n.fua) (moved_of f false) in
    let N : ℕ → Type 0 =
    λ n. moved_of g differed ≡ units_moved (units_from 0 (slba_of entry) n) (block_work opcode pieces (has_blocks opcode && is_fua entry)) (moved_of f false) in
    moved-run f g entry (work_of (length f.disk) opcode entry pieces []) differed goes
    (subst N (transfer-needs entry opcode t).0 (subst Q o.needs moved)
    ∙ sym (units_moved-transfer (length f.disk) opcode entry pieces (moved_of f false) t))

-- the same, with the numbers that the code has
pub transfer-done : (f g : Flat) (entry : List ℕ) (opcode : IoOpcode) (need : Need) (pieces : List Piece) (slba count : ℕ) (result differed : Bool) (st : StatusField)
    → HasFieldsInOrder (length f.disk) entry opcode need → is_transfer opcode ≡ true
    → list_reading f entry need ≡ Spells pieces
    → slba ≡ slba_of entry → count ≡ need.blocks → result ≡ differed → st ≡ moved_status differed
    → moved_of g result ≡ units_moved (units_from 0 slba count) (block_work opcode pieces need.fua) (moved_of f false)
    → IsRun f entry st g
transfer-done f g entry opcode need pieces slba count result differed st o t read at many is status moved =
    let S : ℕ → Type 0 = λ n. moved_of g result ≡ units_moved (units_from 0 n count) (block_work opcode pieces need.fua) (moved_of f false) in
    let C : ℕ → Type 0 = λ n. moved_of g result ≡ units_moved (units_from 0 (slba_of entry) n) (block_work opcode pieces need.fua) (moved_of f false) in
    let D : Bool → Type 0 = λ d. moved_of g d ≡ units_moved (units_from 0 (slba_of entry) need.blocks) (block_work opcode pieces need.fua) (moved_of f false) in
    let T : StatusField → Type 0 = λ s. IsRun f entry s g in
    subst T (sym status) (transfer-run f g entry opcode need pieces differed o t read (subst D is (subst C many (subst S at moved))))

-- ---- Write Zeroes and Flush

pub zeroes-run : (f g : Flat) (entry : List ℕ) (need : Need) → HasFieldsInOrder (length f.disk) entry WriteZeroes need
    → moved_of g false ≡ cleared (range_with_len (slba_of entry) need.blocks) need.fua (moved_of f false)
    → IsRun f entry (done_with Success) g
zeroes-run f g entry need o moved =
    let Q : Need → Type 0 = λ n. moved_of g false ≡ cleared (range_with_len (slba_of entry) n.blocks) n.fua (moved_of f false) in
    let work : Work = work_of (length f.disk) WriteZeroes entry [] [] in
    moved-run f g entry work false
    (verdict-unlisted (shape_of f) (byte_in f.memory) entry WriteZeroes o.unrefused o.known refl)
    (subst Q o.needs moved ∙ sym (units_moved-cleared (is_fua entry) (lbas_of entry) work (moved_of f false)))

pub flush-run : (f g : Flat) (entry : List ℕ) (need : Need) → HasFieldsInOrder (length f.disk) entry Flush need
    → ((work : Work) → moved_of g false ≡ moved_on (KeepAll (length f.disk)) work (moved_of f false))
    → IsRun f entry (done_with Success) g
unfolding units_moved
flush-run f g entry need o moved =
    let work : Work = work_of (length f.disk) Flush entry [] [] in
    moved-run f g entry work false
    (verdict-unlisted (shape_of f) (byte_in f.memory) entry Flush o.unrefused o.known refl) (moved work)

-- ---- the blocks

-- a range of a namespace ends before its end
pub range-within : (slba count blocks : ℕ) → in_namespace slba count blocks ≡ true → slba + count ≤ blocks
range-within slba count blocks inside = grind (arith, nat_tests)

-- the blocks of a command are there
pub blocks-within : (blocks : ℕ) (entry : List ℕ) (opcode : IoOpcode) (need : Need)
    → HasFieldsInOrder blocks entry opcode need → has_blocks opcode ≡ true → slba_of entry + count_of entry ≤ blocks
blocks-within blocks entry opcode need o ranged =
    range-within (slba_of entry) (count_of entry) blocks (in-namespace blocks entry opcode o.unrefused o.known ranged)

-- ---- the transfer

-- no transfer is longer than 128 KiB, and each is some bytes
pub transfer-at_most : (blocks : ℕ) (entry : List ℕ) (opcode : IoOpcode) (need : Need)
    → HasFieldsInOrder blocks entry opcode need → is_transfer opcode ≡ true → need.bytes ≤ 131072
transfer-at_most blocks entry opcode need o t =
    let bytes : need.bytes ≡ 512 * count_of entry = ap (λ (n : Need). n.bytes) o.needs ∙ (transfer-needs entry opcode t).1 in
    let few = count-at_most blocks entry opcode o.unrefused o.known (buffered opcode t).0 (buffered opcode t).1 in
    omega arith

pub transfer-some : (blocks : ℕ) (entry : List ℕ) (opcode : IoOpcode) (need : Need)
    → HasFieldsInOrder blocks entry opcode need → is_transfer opcode ≡ true → 0 < need.bytes
transfer-some blocks entry opcode need o t =
    let bytes : need.bytes ≡ 512 * count_of entry = ap (λ (n : Need). n.bytes) o.needs ∙ (transfer-needs entry opcode t).1 in
    omega arith
