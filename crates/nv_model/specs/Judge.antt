-- The verdict on an I/O command: the checks in their order, and what a command that passes them does. The order of the checks,
-- the limit on a transfer (MDTS) and DNR are the project's own (profile).
use Rattle.std.specs.Prelude.{ℕ, zero, suc, ◌+◌, ◌*◌, Bool, true, false, not, ◌&&◌, ◌==◌, nat_lt}
use Rattle.std.specs.Prelude.{if◌then◌else◌, List, [], ◌∷◌, ◌++◌, map, take, drop, Option, Some, None}
use Rattle.std.specs.List.{flat_map, list_all, range_with_len, enumerate_from}
use Rattle.nv_entry.specs.Submission.{opcode_of, fuse_of, psdt_of, nsid_of, prp1_of, prp2_of, sgl_of, slba_of, nlb_of, fua_of, nr_of, deallocate_of}
use Rattle.nv_entry.specs.Opcode.{io_opcode, data_pointer}
use Rattle.nv_entry.specs.Range.{blocks_of, start_of}
use Rattle.nv_entry.specs.Status.{StatusField}
use Rattle.nv_entry.specs.StatusCode.{done_with, refused_with}
use Rattle.nv_entry.specs.declared.data_pointer.DataPointer.{DataPointer}
use Rattle.nv_entry.specs.declared.data_pointer.DataPointer.TheVariants.{Prp, Sgl, Reserved}
use Rattle.nv_entry.specs.declared.opcode.IoOpcode.{IoOpcode}
use Rattle.nv_entry.specs.declared.opcode.IoOpcode.TheVariants.{Flush, Write, Read, Compare, WriteZeroes, DatasetManagement}
use Rattle.nv_entry.specs.declared.status_code.StatusCode.{StatusCode}
use Rattle.nv_entry.specs.declared.status_code.StatusCode.TheVariants.{InternalError, InvalidField, InvalidNamespace, InvalidOpcode, LbaOutOfRange, SglLengthInvalid}
use Rattle.nv_mem.specs.Places.{total_len}
use Rattle.nv_mem.specs.declared.piece.Piece.{Piece}
use Rattle.nv_mem.specs.declared.piece.Piece.TheVariants.{Run, Bucket}
use Rattle.nv_ns.specs.BlockRange.{in_namespace}
use Rattle.nv_model.specs.Dialogue.{Dialogue, End, Ask, and_then}
use Rattle.nv_model.specs.Reading.{Reading, Faulty, TooLong, Spells, first_failing}
use Rattle.nv_model.specs.Sgl.{read_sgl}
use Rattle.nv_model.specs.Prp.{read_prp}
use Rattle.nv_model.specs.Limits.{block, most_blocks, range_size}

-- one step of a command's work, with its effect
pub data WorkUnit : Type 0 where
  -- a block moves between the disk and the buffer, or is compared with it: which one of the transfer, and its LBA
  MoveBlock : (index lba : ℕ) → WorkUnit
  -- a block becomes zeros, and has this mark
  ClearBlock : (lba : ℕ) (mark : Bool) → WorkUnit
  -- a block of a range that is not deallocated: the other attributes have no effect
  LeaveBlock : (lba : ℕ) → WorkUnit
  -- every block of a namespace of that many becomes kept
  KeepAll : (blocks : ℕ) → WorkUnit

-- what a command that is carried out does: where its buffer lies, the ranges that it names, 16 bytes each, if it is a Dataset
-- Management, its units in order of their numbers, and whether its blocks are kept (Force Unit Access)
pub record Work : Type 0 where
  pub opcode : IoOpcode
  pub pieces : List Piece
  pub ranges : List (List ℕ)
  pub units : List WorkUnit
  pub fua : Bool

-- a command is refused with a status, or goes
pub data Verdict : Type 0 where
  Refuse : StatusField → Verdict
  Go : Work → Verdict

-- ---- the fields of a command

-- the forms that commands have
pub data Form : Type 0 where
  -- a range of blocks, and a buffer that holds their bytes, which is a destination or not: each block moves
  Transfer : (dest : Bool) → Form
  -- a range of blocks and no buffer: each block is cleared
  Clear : Form
  -- a buffer that holds ranges of blocks: each block of each range is cleared where the command deallocates
  Manage : Form
  -- neither: all blocks of the namespace are kept
  Keep : Form

-- the form of each command
abbrev pub form_of : IoOpcode → Form
form_of Flush = Keep
form_of Write = Transfer false
form_of Read = Transfer true
form_of Compare = Transfer false
form_of WriteZeroes = Clear
form_of DatasetManagement = Manage

-- whether a command of that form reads or writes a buffer
abbrev pub form_has_buffer : Form → Bool
form_has_buffer (Transfer dest) = true
form_has_buffer Manage = true
form_has_buffer _ = false

abbrev pub has_buffer : IoOpcode → Bool
has_buffer opcode = form_has_buffer (form_of opcode)

-- whether it names a range of blocks by SLBA and NLB
abbrev pub form_has_blocks : Form → Bool
form_has_blocks (Transfer dest) = true
form_has_blocks Clear = true
form_has_blocks _ = false

abbrev pub has_blocks : IoOpcode → Bool
has_blocks opcode = form_has_blocks (form_of opcode)

-- whether its buffer is a destination
abbrev pub form_is_read : Form → Bool
form_is_read (Transfer dest) = dest
form_is_read _ = false

abbrev pub is_read : IoOpcode → Bool
is_read opcode = form_is_read (form_of opcode)

-- the blocks of a command's range; NLB counts from 0
abbrev pub count_of : List ℕ → ℕ
count_of entry = nlb_of entry + 1

-- the ranges of Dataset Management; NR counts from 0
abbrev pub range_count_of : List ℕ → ℕ
range_count_of entry = nr_of entry + 1

-- the length of its buffer in bytes
abbrev pub form_transfer_len : Form → List ℕ → ℕ
form_transfer_len (Transfer dest) entry = block * count_of entry
form_transfer_len Manage entry = range_size * range_count_of entry
form_transfer_len _ entry = 0

abbrev pub transfer_len : IoOpcode → List ℕ → ℕ
transfer_len opcode entry = form_transfer_len (form_of opcode) entry

-- the checks of the fields of a command that is one of the six, in a namespace of `blocks` blocks
abbrev pub command_checks : ℕ → List ℕ → IoOpcode → List (Bool × StatusCode)
command_checks blocks entry opcode =
    (not (nsid_of entry == 1), InvalidNamespace)
    ∷ (has_buffer opcode && psdt_of entry == 3, InvalidField)
    ∷ (has_buffer opcode && has_blocks opcode && nat_lt most_blocks (count_of entry), InvalidField)
    ∷ (has_blocks opcode && not (in_namespace (slba_of entry) (count_of entry) blocks), LbaOutOfRange) ∷ []

-- the refusal by the fields of a command with this opcode
abbrev pub refusal_by_opcode : ℕ → List ℕ → Option IoOpcode → Option StatusCode
refusal_by_opcode blocks entry None = Some InvalidOpcode
refusal_by_opcode blocks entry (Some opcode) = first_failing (command_checks blocks entry opcode)

-- the refusal by the fields: fused commands are unknown, then the opcode, then the checks of the command
abbrev pub field_refusal : ℕ → List ℕ → Option StatusCode
field_refusal blocks entry =
    if not (fuse_of entry == 0) then Some InvalidField else refusal_by_opcode blocks entry (io_opcode (opcode_of entry))

-- ---- the buffer

-- the command's list, by what its data pointer holds
abbrev pub read_by : DataPointer → (ℕ → Bool) → (limit : ℕ) → Bool → ℕ → List ℕ → Dialogue Reading
read_by Prp mapped limit dest len entry = read_prp mapped (prp1_of entry) (prp2_of entry) len
read_by Sgl mapped limit dest len entry = read_sgl mapped dest limit (sgl_of entry)
read_by Reserved mapped limit dest len entry = End (Faulty InvalidField)

-- a list that names another number of bytes than the transfer has is faulty
abbrev pub sized : ℕ → Reading → Reading
sized len (Spells pieces) = if total_len pieces == len then Spells pieces else Faulty SglLengthInvalid
sized len reading = reading

-- the command's list
abbrev pub read_buffer : (ℕ → Bool) → (limit : ℕ) → IoOpcode → List ℕ → Dialogue Reading
read_buffer mapped limit opcode entry =
    and_then (read_by (data_pointer (psdt_of entry)) mapped limit (is_read opcode) (transfer_len opcode entry) entry)
    (λ reading. End (sized (transfer_len opcode entry) reading))

-- ---- Dataset Management

-- the bytes of a source, run by run
unfoldable pub read_source : List Piece → List ℕ → Dialogue (List ℕ)
read_source [] bytes = End bytes
read_source (Run addr len ∷ pieces) bytes = Ask addr len len (λ more. read_source pieces (bytes ++ more))
read_source (Bucket len ∷ pieces) bytes = read_source pieces bytes

-- the first n ranges in these bytes, 16 bytes each
unfoldable pub ranges_in : ℕ → List ℕ → List (List ℕ)
ranges_in zero bytes = []
ranges_in (suc n) bytes = take range_size bytes ∷ ranges_in n (drop range_size bytes)

-- whether a range lies in a namespace of `blocks` blocks
abbrev pub range_fits : ℕ → List ℕ → Bool
range_fits blocks range = in_namespace (start_of range) (blocks_of range) blocks

-- ---- the units

-- the LBAs of a command's range, in order
abbrev pub lbas_of : List ℕ → List ℕ
lbas_of entry = range_with_len (slba_of entry) (count_of entry)

-- a unit for each block of a transfer, in its order
unfoldable pub move_units : List ℕ → List WorkUnit
move_units lbas = map (λ p. MoveBlock p.0 p.1) (enumerate_from 0 lbas)

-- a unit for each block that is cleared
unfoldable pub clear_units : (mark : Bool) → List ℕ → List WorkUnit
clear_units mark lbas = map (λ lba. ClearBlock lba mark) lbas

-- a unit for each block of a range, which is cleared, or stays as it is
abbrev pub one_range_units : (deallocate : Bool) → List ℕ → List WorkUnit
one_range_units true range = clear_units false (range_with_len (start_of range) (blocks_of range))
one_range_units false range = map LeaveBlock (range_with_len (start_of range) (blocks_of range))

-- those of all ranges, in their order; a range of no blocks has none
unfoldable pub range_units : (deallocate : Bool) → List (List ℕ) → List WorkUnit
range_units deallocate ranges = flat_map (one_range_units deallocate) ranges

-- whether the blocks of a command are kept: Force Unit Access
abbrev pub is_fua : List ℕ → Bool
is_fua entry = fua_of entry == 1

-- whether a Dataset Management deallocates
abbrev pub deallocates : List ℕ → Bool
deallocates entry = deallocate_of entry == 1

-- the units of a command of that form, in a namespace of `blocks` blocks; those of a Dataset Management by the ranges that it names
abbrev pub form_units : Form → (blocks : ℕ) → List ℕ → (ranges : List (List ℕ)) → List WorkUnit
form_units (Transfer dest) blocks entry ranges = move_units (lbas_of entry)
form_units Clear blocks entry ranges = clear_units (is_fua entry) (lbas_of entry)
form_units Manage blocks entry ranges = range_units (deallocates entry) ranges
form_units Keep blocks entry ranges = KeepAll blocks ∷ []

-- the work of a command of `blocks` blocks whose buffer lies there, and whose ranges, if it names any, are these
abbrev pub work_of : (blocks : ℕ) → IoOpcode → List ℕ → List Piece → (ranges : List (List ℕ)) → Work
work_of blocks opcode entry pieces ranges =
    record {
      opcode = opcode;
      pieces = pieces;
      ranges = ranges;
      units = form_units (form_of opcode) blocks entry ranges;
      fua = has_blocks opcode && is_fua entry;
    }

-- ---- the verdict

-- a command whose ranges are read: each must lie in the namespace
abbrev pub judge_ranges : (blocks : ℕ) → IoOpcode → List ℕ → List Piece → List (List ℕ) → Verdict
judge_ranges blocks opcode entry pieces ranges =
    if list_all (range_fits blocks) ranges then Go (work_of blocks opcode entry pieces ranges)
    else Refuse (refused_with LbaOutOfRange)

-- a command of that form whose buffer lies there
abbrev pub judge_buffer : Form → (blocks : ℕ) → IoOpcode → List ℕ → List Piece → Dialogue Verdict
judge_buffer Manage blocks opcode entry pieces =
    and_then (read_source pieces []) (λ bytes. End (judge_ranges blocks opcode entry pieces (ranges_in (range_count_of entry) bytes)))
judge_buffer _ blocks opcode entry pieces = End (Go (work_of blocks opcode entry pieces []))

-- a command whose list was read
abbrev pub judge_reading : ℕ → List ℕ → IoOpcode → Reading → Dialogue Verdict
judge_reading blocks entry opcode (Faulty code) = End (Refuse (refused_with code))
judge_reading blocks entry opcode TooLong = End (Refuse (done_with InternalError))
judge_reading blocks entry opcode (Spells pieces) = judge_buffer (form_of opcode) blocks opcode entry pieces

-- a command whose fields are in order: its list is read where it has one
abbrev pub judge_by : Option IoOpcode → (ℕ → Bool) → (limit blocks : ℕ) → List ℕ → Dialogue Verdict
judge_by None mapped limit blocks entry = End (Refuse (refused_with InvalidOpcode))
judge_by (Some opcode) mapped limit blocks entry =
    if has_buffer opcode then and_then (read_buffer mapped limit opcode entry) (judge_reading blocks entry opcode)
    else judge_buffer (form_of opcode) blocks opcode entry []

-- refused by its fields, or judged further
abbrev pub judge_fields : Option StatusCode → (ℕ → Bool) → (limit blocks : ℕ) → List ℕ → Dialogue Verdict
judge_fields (Some code) mapped limit blocks entry = End (Refuse (refused_with code))
judge_fields None mapped limit blocks entry = judge_by (io_opcode (opcode_of entry)) mapped limit blocks entry

-- the verdict on a command of 64 bytes, in a namespace of `blocks` blocks, with at most `limit` descriptors in a list
unfoldable pub judge : (ℕ → Bool) → (limit blocks : ℕ) → List ℕ → Dialogue Verdict
judge mapped limit blocks entry = judge_fields (field_refusal blocks entry) mapped limit blocks entry
