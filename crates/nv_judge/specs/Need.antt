-- What a command that its fields do not refuse needs, and the verdict of the fields: Base Specification 2.0, "Submission Queue Entry"
-- (FUSE, OPC, NSID, PSDT), and NVM Command Set Specification 1.0, "Read command", "Write command", "Compare command", "Write Zeroes
-- command" (SLBA, NLB, FUA) and "Dataset Management command" (NR). The order of the checks and DNR are the project's own (profile).
use Rattle.std.specs.Prelude.{◌≡◌, ℕ, ◌&&◌, ◌==◌, if◌then◌else◌, List, Option, Some, None, Result, Ok, Err}
use Rattle.nv_entry.specs.Opcode.{io_opcode}
use Rattle.nv_entry.specs.Submission.{opcode_of, fua_of}
use Rattle.nv_entry.specs.Status.{StatusField}
use Rattle.nv_entry.specs.StatusCode.{refused_with}
use Rattle.nv_entry.specs.declared.opcode.IoOpcode.{IoOpcode}
use Rattle.nv_entry.specs.declared.status_code.StatusCode.{StatusCode}
use Rattle.nv_entry.specs.declared.status_code.StatusCode.TheVariants.{InvalidOpcode}
use Rattle.nv_model.specs.Judge.{count_of, field_refusal, has_blocks, is_read, transfer_len}
use Rattle.nv_judge.specs.declared.need.Need.{Need}

-- whether it is a Read, the length of its buffer, the blocks of its LBA range, and its FUA bit; 0 or false where it has none
abbrev pub need_of : List ℕ → IoOpcode → Need
need_of entry opcode =
    record {
      dest = is_read opcode;
      bytes = transfer_len opcode entry;
      blocks = (if has_blocks opcode then count_of entry else 0);
      fua = has_blocks opcode && fua_of entry == 1;
    }

-- the verdict, where the fields refuse with that code, or do not refuse, and the opcode is that of this command
abbrev pub verdict_by : Option StatusCode → Option IoOpcode → List ℕ → Result Need StatusField
verdict_by (Some code) opcode entry = Err (refused_with code)
verdict_by None None entry = Err (refused_with InvalidOpcode)
verdict_by None (Some opcode) entry = Ok (need_of entry opcode)

-- the verdict of the fields of a command of 64 bytes, in a namespace of `blocks` blocks
abbrev pub field_verdict : (blocks : ℕ) → List ℕ → Result Need StatusField
field_verdict blocks entry = verdict_by (field_refusal blocks entry) (io_opcode (opcode_of entry)) entry

-- a command whose fields are in order in a namespace of `blocks` blocks: its opcode, and what it needs
pub record HasFieldsInOrder (blocks : ℕ) (entry : List ℕ) (opcode : IoOpcode) (need : Need) : Type 0 where
  pub unrefused : field_refusal blocks entry ≡ None
  pub known : io_opcode (opcode_of entry) ≡ Some opcode
  pub needs : need ≡ need_of entry opcode
