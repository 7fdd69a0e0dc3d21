-- The buffer of a command that goes and whose buffer is a source: each of its pieces is a run.
use Rattle.std.proofs.Common.{◌≡◌, ℕ, Bool, true, false, cond, ◌==◌, List, [], All, Option, Some, None}
use Rattle.std.specs.Bool.{⊤}
use Rattle.std.specs.List.{list_all}
use Rattle.std.proofs.lemmas.List.Elements.{All-nil}
use Rattle.nv_entry.specs.Opcode.{data_pointer, io_opcode}
use Rattle.nv_entry.specs.Submission.{opcode_of, psdt_of}
use Rattle.nv_entry.specs.StatusCode.{refused_with}
use Rattle.nv_entry.specs.declared.data_pointer.DataPointer.{DataPointer}
use Rattle.nv_entry.specs.declared.opcode.IoOpcode.{IoOpcode}
use Rattle.nv_entry.specs.declared.status_code.StatusCode.{StatusCode}
use Rattle.nv_entry.specs.declared.status_code.StatusCode.TheVariants.{LbaOutOfRange, SglLengthInvalid}
use Rattle.nv_mem.specs.Places.{total_len}
use Rattle.nv_mem.specs.declared.piece.Piece.{Piece}
use Rattle.nv_model.specs.Dialogue.{End, and_then}
use Rattle.nv_model.specs.Endings.{MayEndIn}
use Rattle.nv_model.specs.Judge.{Clear, Form, Go, Keep, Manage, Refuse, Transfer, Work, field_refusal, form_of, has_buffer, is_read, judge, judge_buffer}
use Rattle.nv_model.specs.Judge.{judge_by, judge_fields, judge_ranges, judge_reading, range_count_of, range_fits, ranges_in, read_buffer, read_by, read_source}
use Rattle.nv_model.specs.Judge.{sized, transfer_len, work_of}
use Rattle.nv_model.specs.Reading.{Faulty, Reading, Spells, TooLong}
use Rattle.nv_model.proofs.AnyAnswers.{MayEndIn-has}
use Rattle.nv_model.proofs.Endings.{EndsIn, EndsIn-and_then, EndsIn-any, EndsIn-if, OfPieces}
use Rattle.nv_model.proofs.Judged.{IfGo}
use Rattle.nv_model.proofs.RunPieces.{IsRunPiece, read_by-runs}

-- pieces are runs, where they are not a destination's
abbrev AreRuns : (dest : Bool) → List Piece → Type 0
AreRuns dest pieces = dest ≡ false → All IsRunPiece pieces

-- so are those of a work
abbrev HasRuns : Work → Type 0
HasRuns work = AreRuns (is_read work.opcode) work.pieces

any-destination : (reading : Reading) → OfPieces (AreRuns true) reading
any-destination (Faulty code) = tt
any-destination TooLong = tt
any-destination (Spells pieces) = λ e. cc

sized-runs : (len : ℕ) (reading : Reading) → OfPieces (λ pieces. All IsRunPiece pieces) reading → OfPieces (AreRuns false) (sized len reading)
sized-runs len (Faulty code) runs = tt
sized-runs len TooLong runs = tt
sized-runs len (Spells pieces) runs =
    (elim (total_len pieces == len) as (λ b. OfPieces (AreRuns false) (cond b (Spells pieces) (Faulty SglLengthInvalid))) [ true ↦ λ e. runs | false ↦ tt ])

-- those that a list spells
list-runs : (pointer : DataPointer) (mapped : ℕ → Bool) (limit : ℕ) (dest : Bool) (len : ℕ) (entry : List ℕ)
    → EndsIn (OfPieces (AreRuns dest)) (and_then (read_by pointer mapped limit dest len entry) (λ reading. End (sized len reading)))
list-runs pointer mapped limit true len entry =
    EndsIn-and_then (λ _. ⊤) (OfPieces (AreRuns true)) (read_by pointer mapped limit true len entry) (λ reading. End (sized len reading))
    (EndsIn-any (read_by pointer mapped limit true len entry)) (λ reading _. any-destination (sized len reading))
list-runs pointer mapped limit false len entry =
    EndsIn-and_then (OfPieces (λ pieces. All IsRunPiece pieces)) (OfPieces (AreRuns false)) (read_by pointer mapped limit false len entry) (λ reading. End (sized len reading))
    (read_by-runs pointer mapped limit len entry) (λ reading runs. sized-runs len reading runs)

judge_ranges-runs : (blocks : ℕ) (opcode : IoOpcode) (entry : List ℕ) (pieces : List Piece) (ranges : List (List ℕ)) → AreRuns (is_read opcode) pieces
    → IfGo HasRuns (judge_ranges blocks opcode entry pieces ranges)
judge_ranges-runs blocks opcode entry pieces ranges runs =
    (elim (list_all (range_fits blocks) ranges) as (λ b. IfGo HasRuns (cond b (Go (work_of blocks opcode entry pieces ranges)) (Refuse (refused_with LbaOutOfRange))))
    [ true ↦ runs | false ↦ tt ])

judge_buffer-runs : (form : Form) (blocks : ℕ) (opcode : IoOpcode) (entry : List ℕ) (pieces : List Piece) → AreRuns (is_read opcode) pieces
    → EndsIn (IfGo HasRuns) (judge_buffer form blocks opcode entry pieces)
judge_buffer-runs (Transfer dest) blocks opcode entry pieces runs = runs
judge_buffer-runs Clear blocks opcode entry pieces runs = runs
judge_buffer-runs Keep blocks opcode entry pieces runs = runs
judge_buffer-runs Manage blocks opcode entry pieces runs =
    EndsIn-and_then (λ _. ⊤) (IfGo HasRuns) (read_source pieces []) _ (EndsIn-any (read_source pieces []))
    (λ bytes _. judge_ranges-runs blocks opcode entry pieces (ranges_in (range_count_of entry) bytes) runs)

judge_reading-runs : (blocks : ℕ) (opcode : IoOpcode) (entry : List ℕ) (reading : Reading) → OfPieces (AreRuns (is_read opcode)) reading
    → EndsIn (IfGo HasRuns) (judge_reading blocks entry opcode reading)
judge_reading-runs blocks opcode entry (Faulty code) runs = tt
judge_reading-runs blocks opcode entry TooLong runs = tt
judge_reading-runs blocks opcode entry (Spells pieces) runs = judge_buffer-runs (form_of opcode) blocks opcode entry pieces runs

judge_by-runs : (opcode : Option IoOpcode) (mapped : ℕ → Bool) (limit blocks : ℕ) (entry : List ℕ) → EndsIn (IfGo HasRuns) (judge_by opcode mapped limit blocks entry)
judge_by-runs None mapped limit blocks entry = tt
judge_by-runs (Some opcode) mapped limit blocks entry =
    EndsIn-if (IfGo HasRuns) (has_buffer opcode) _ _
    (λ buffer.
    EndsIn-and_then (OfPieces (AreRuns (is_read opcode))) (IfGo HasRuns) (read_buffer mapped limit opcode entry) (judge_reading blocks entry opcode)
    (list-runs (data_pointer (psdt_of entry)) mapped limit (is_read opcode) (transfer_len opcode entry) entry)
    (λ reading runs. judge_reading-runs blocks opcode entry reading runs))
    (λ none. judge_buffer-runs (form_of opcode) blocks opcode entry [] (λ e. All-nil IsRunPiece))

judge_fields-runs : (refusal : Option StatusCode) (mapped : ℕ → Bool) (limit blocks : ℕ) (entry : List ℕ)
    → EndsIn (IfGo HasRuns) (judge_fields refusal mapped limit blocks entry)
judge_fields-runs (Some code) mapped limit blocks entry = tt
judge_fields-runs None mapped limit blocks entry = judge_by-runs (io_opcode (opcode_of entry)) mapped limit blocks entry

judge-runs : (mapped : ℕ → Bool) (limit blocks : ℕ) (entry : List ℕ) → EndsIn (IfGo HasRuns) (judge mapped limit blocks entry)
unfolding judge
judge-runs mapped limit blocks entry = judge_fields-runs (field_refusal blocks entry) mapped limit blocks entry

-- whatever answers
pub source-runs : (mapped : ℕ → Bool) (limit blocks : ℕ) (entry : List ℕ) (work : Work) → MayEndIn (judge mapped limit blocks entry) (Go work)
    → is_read work.opcode ≡ false → All IsRunPiece work.pieces
source-runs mapped limit blocks entry work may source =
    MayEndIn-has (IfGo HasRuns) (judge mapped limit blocks entry) (Go work) (judge-runs mapped limit blocks entry) may source
