-- What judging a command is, by what its fields say
use Rattle.std.proofs.Common.{◌≡◌, ℕ, Bool, true, false, cond, List, [], Option, Some, None, refl, ap, ◌∙◌}
use Rattle.std.specs.List.{list_all}
use Rattle.nv_entry.specs.Opcode.{io_opcode}
use Rattle.nv_entry.specs.StatusCode.{refused_with}
use Rattle.nv_entry.specs.Submission.{opcode_of}
use Rattle.nv_entry.specs.declared.opcode.IoOpcode.{IoOpcode}
use Rattle.nv_entry.specs.declared.opcode.IoOpcode.TheVariants.{Flush, Write, Read, Compare, WriteZeroes, DatasetManagement}
use Rattle.nv_entry.specs.declared.status_code.StatusCode.{StatusCode}
use Rattle.nv_entry.specs.declared.status_code.StatusCode.TheVariants.{LbaOutOfRange}
use Rattle.nv_mem.specs.declared.piece.Piece.{Piece}
use Rattle.nv_model.specs.Dialogue.{End, and_then}
use Rattle.nv_model.specs.Judge.{Refuse, Go, field_refusal, form_of, has_buffer, judge, judge_buffer, judge_by, judge_fields, judge_ranges, judge_reading, range_fits, read_buffer, work_of}

-- a command that its fields refuse is refused
pub judge-refused : (mapped : ℕ → Bool) (limit blocks : ℕ) (entry : List ℕ) (code : StatusCode)
    → field_refusal blocks entry ≡ Some code → judge mapped limit blocks entry ≡ End (Refuse (refused_with code))
unfolding judge
judge-refused mapped limit blocks entry code refused =
    ap (λ (o : Option StatusCode). judge_fields o mapped limit blocks entry) refused

-- a command whose fields are in order
judge-known : (mapped : ℕ → Bool) (limit blocks : ℕ) (entry : List ℕ) (opcode : IoOpcode)
    → field_refusal blocks entry ≡ None → io_opcode (opcode_of entry) ≡ Some opcode
    → judge mapped limit blocks entry ≡ judge_by (Some opcode) mapped limit blocks entry
unfolding judge
judge-known mapped limit blocks entry opcode none known =
    ap (λ (o : Option StatusCode). judge_fields o mapped limit blocks entry) none
    ∙ ap (λ (o : Option IoOpcode). judge_by o mapped limit blocks entry) known

-- one with a buffer
pub judge-listed : (mapped : ℕ → Bool) (limit blocks : ℕ) (entry : List ℕ) (opcode : IoOpcode)
    → field_refusal blocks entry ≡ None → io_opcode (opcode_of entry) ≡ Some opcode → has_buffer opcode ≡ true
    → judge mapped limit blocks entry ≡ and_then (read_buffer mapped limit opcode entry) (judge_reading blocks entry opcode)
judge-listed mapped limit blocks entry opcode none known buffer =
    judge-known mapped limit blocks entry opcode none known
    ∙ ap (λ (b : Bool). cond b (and_then (read_buffer mapped limit opcode entry) (judge_reading blocks entry opcode)) (judge_buffer (form_of opcode) blocks opcode entry [])) buffer

-- one without a buffer goes
unbuffered : (blocks : ℕ) (entry : List ℕ) (opcode : IoOpcode) → has_buffer opcode ≡ false
    → judge_buffer (form_of opcode) blocks opcode entry [] ≡ End (Go (work_of blocks opcode entry [] []))
unbuffered blocks entry Flush none = refl
unbuffered blocks entry WriteZeroes none = refl
unbuffered blocks entry Read none = (cc)
unbuffered blocks entry Write none = (cc)
unbuffered blocks entry Compare none = (cc)
unbuffered blocks entry DatasetManagement none = (cc)

pub judge-unlisted : (mapped : ℕ → Bool) (limit blocks : ℕ) (entry : List ℕ) (opcode : IoOpcode)
    → field_refusal blocks entry ≡ None → io_opcode (opcode_of entry) ≡ Some opcode → has_buffer opcode ≡ false
    → judge mapped limit blocks entry ≡ End (Go (work_of blocks opcode entry [] []))
judge-unlisted mapped limit blocks entry opcode none known buffer =
    judge-known mapped limit blocks entry opcode none known
    ∙ ap (λ (b : Bool). cond b (and_then (read_buffer mapped limit opcode entry) (judge_reading blocks entry opcode)) (judge_buffer (form_of opcode) blocks opcode entry [])) buffer
    ∙ unbuffered blocks entry opcode buffer

-- the verdict on a command one of whose ranges does not fit, or all of whose do
pub judge_ranges-refused : (blocks : ℕ) (opcode : IoOpcode) (entry : List ℕ) (pieces : List Piece) (ranges : List (List ℕ))
    → list_all (range_fits blocks) ranges ≡ false
    → judge_ranges blocks opcode entry pieces ranges ≡ Refuse (refused_with LbaOutOfRange)
judge_ranges-refused blocks opcode entry pieces ranges leave =
    ap (λ (b : Bool). cond b (Go (work_of blocks opcode entry pieces ranges)) (Refuse (refused_with LbaOutOfRange))) leave

pub judge_ranges-fits : (blocks : ℕ) (opcode : IoOpcode) (entry : List ℕ) (pieces : List Piece) (ranges : List (List ℕ))
    → list_all (range_fits blocks) ranges ≡ true
    → judge_ranges blocks opcode entry pieces ranges ≡ Go (work_of blocks opcode entry pieces ranges)
judge_ranges-fits blocks opcode entry pieces ranges fit =
    ap (λ (b : Bool). cond b (Go (work_of blocks opcode entry pieces ranges)) (Refuse (refused_with LbaOutOfRange))) fit
