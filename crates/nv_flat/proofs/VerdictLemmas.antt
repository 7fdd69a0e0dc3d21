-- The verdict on a command
use Rattle.std.proofs.Common.{◌≡◌, ℕ, true, false, Some, None, List, [], ap, ◌∙◌}
use Rattle.nv_entry.specs.Opcode.{io_opcode}
use Rattle.nv_entry.specs.Submission.{opcode_of}
use Rattle.nv_entry.specs.StatusCode.{refused_with}
use Rattle.nv_entry.specs.declared.opcode.IoOpcode.{IoOpcode}
use Rattle.nv_entry.specs.declared.status_code.StatusCode.{StatusCode}
use Rattle.nv_model.specs.Dialogue.{in_memory}
use Rattle.nv_model.proofs.DialogueLemmas.{in_memory-and_then}
use Rattle.nv_model.proofs.JudgeCases.{judge-listed, judge-refused, judge-unlisted}
use Rattle.nv_model.specs.Reading.{Reading}
use Rattle.nv_model.specs.Judge.{Refuse, Go, field_refusal, has_buffer, judge_reading, read_buffer, work_of}
use Rattle.nv_model.specs.Private.{Shape, verdict_in}

-- a command that its fields refuse is refused
pub verdict-refused : (shape : Shape) (memory : ℕ → ℕ) (entry : List ℕ) (code : StatusCode)
    → field_refusal shape.blocks entry ≡ Some code → verdict_in shape memory entry ≡ Refuse (refused_with code)
unfolding in_memory
verdict-refused shape memory entry code refused =
    ap (in_memory memory) (judge-refused shape.mapped shape.limit shape.blocks entry code refused)

-- a command with a buffer, whose fields are in order
pub verdict-listed : (shape : Shape) (memory : ℕ → ℕ) (entry : List ℕ) (opcode : IoOpcode) (reading : Reading)
    → field_refusal shape.blocks entry ≡ None → io_opcode (opcode_of entry) ≡ Some opcode → has_buffer opcode ≡ true
    → in_memory memory (read_buffer shape.mapped shape.limit opcode entry) ≡ reading
    → verdict_in shape memory entry ≡ in_memory memory (judge_reading shape.blocks entry opcode reading)
verdict-listed shape memory entry opcode reading none known buffer read =
    ap (in_memory memory) (judge-listed shape.mapped shape.limit shape.blocks entry opcode none known buffer)
    ∙ in_memory-and_then memory (read_buffer shape.mapped shape.limit opcode entry) (judge_reading shape.blocks entry opcode)
    ∙ ap (λ (r : Reading). in_memory memory (judge_reading shape.blocks entry opcode r)) read

-- a command without a buffer, whose fields are in order
pub verdict-unlisted : (shape : Shape) (memory : ℕ → ℕ) (entry : List ℕ) (opcode : IoOpcode)
    → field_refusal shape.blocks entry ≡ None → io_opcode (opcode_of entry) ≡ Some opcode → has_buffer opcode ≡ false
    → verdict_in shape memory entry ≡ Go (work_of shape.blocks opcode entry [] [])
unfolding in_memory
verdict-unlisted shape memory entry opcode none known buffer =
    ap (in_memory memory) (judge-unlisted shape.mapped shape.limit shape.blocks entry opcode none known buffer)
