-- Worked examples: the memory, the lists and the commands that they start from
use Rattle.std.specs.Prelude.{ℕ, zero, suc, ◌+◌, ◌*◌, ◌/◌, ◌%◌, ◌==◌, if◌then◌else◌, Bool}
use Rattle.std.specs.Prelude.{true, false, nat_lt, List, [], ◌∷◌, ◌++◌, replicate, flat_map, Option, Some, None}
use Rattle.nv_entry.specs.Layout.{number_at, number_bytes, dword}
use Rattle.nv_entry.specs.Completion.{completion}
use Rattle.nv_entry.specs.declared.opcode.IoOpcode.{IoOpcode}
use Rattle.nv_entry.specs.declared.opcode.IoOpcode.TheVariants as opcode
use Rattle.nv_mem.specs.declared.piece.Piece.{Piece}
use Rattle.nv_model.specs.Memory.{stored}
use Rattle.nv_model.specs.Dialogue.{in_memory}
use Rattle.nv_model.specs.Reading.{Reading}
use Rattle.nv_model.specs.Sgl.{read_sgl}
use Rattle.nv_model.specs.Prp.{read_prp}
use Rattle.nv_model.specs.Admin.{controller_structure}
use Rattle.nv_model.specs.Judge.{WorkUnit, Verdict, Refuse, Go, judge}
use Rattle.nv_model.specs.Transcript.{ReadDone, Outcome, in_transcript}
use Rattle.nv_model.specs.Private.{Shape, verdict_in}
use Rattle.nv_model.specs.Limits.{most_descriptors}

-- ---- memory

-- the addresses of a memory of `size` bytes
abbrev pub below : (size : ℕ) → ℕ → Bool
below size addr = nat_lt addr size

-- a guest's memory of 20000h bytes
abbrev pub guest_memory : ℕ → Bool
guest_memory addr = below 0x20000 addr

-- a memory of zeros
abbrev pub zeros : ℕ → ℕ
zeros addr = 0

-- a memory of zeros but for these bytes
abbrev pub holding : (addr : ℕ) → List ℕ → ℕ → ℕ
holding addr bytes = stored zeros addr bytes

-- a guest with a memory of 20000h bytes, a namespace of 64 blocks and at most 1,024 descriptors in a list
abbrev pub guest : Shape
guest = record { mapped = guest_memory; blocks = 64; limit = most_descriptors }

-- a guest with a memory of 40000h bytes and a namespace of 256 blocks
abbrev pub larger_guest : Shape
larger_guest = record { mapped = below 0x40000; blocks = 256; limit = most_descriptors }

-- ---- lists

-- an SGL descriptor
abbrev pub descriptor : (kind addr len : ℕ) → List ℕ
descriptor kind addr len = number_bytes 8 addr ++ number_bytes 4 len ++ number_bytes 3 0 ++ number_bytes 1 kind

abbrev pub data_block : (addr len : ℕ) → List ℕ
data_block addr len = descriptor 0x00 addr len

abbrev pub bit_bucket : (len : ℕ) → List ℕ
bit_bucket len = descriptor 0x10 0 len

abbrev pub segment : (addr len : ℕ) → List ℕ
segment addr len = descriptor 0x20 addr len

abbrev pub last_segment : (addr len : ℕ) → List ℕ
last_segment addr len = descriptor 0x30 addr len

-- a descriptor of a type that is none of the four
abbrev pub type_four : List ℕ
type_four = descriptor 0x40 0 0

-- 512 bytes at 3000h
abbrev pub one_block : List ℕ
one_block = data_block 0x3000 512

-- the list of an SGL descriptor that is a command's own, whose buffer is a destination
abbrev pub sgl_in : (ℕ → ℕ) → List ℕ → Reading
sgl_in memory own = in_memory memory (read_sgl guest_memory true most_descriptors own)

-- the same, of which at most `limit` descriptors are read
abbrev pub sgl_within : (limit : ℕ) → (ℕ → ℕ) → List ℕ → Reading
sgl_within limit memory own = in_memory memory (read_sgl guest_memory true limit own)

-- the list of a transfer of `len` bytes by PRP1 and PRP2, in a memory of 40000h bytes
abbrev pub prp_in : (ℕ → ℕ) → (prp1 prp2 len : ℕ) → Reading
prp_in memory prp1 prp2 len = in_memory memory (read_prp (below 0x40000) prp1 prp2 len)

-- ---- commands

-- the 64 bytes of a command: dword 0, NSID, the data pointer, and CDW10 to CDW12; every other field is 0
abbrev pub command : (dword0 nsid : ℕ) → (pointer : List ℕ) → (cdw10 cdw11 cdw12 : ℕ) → List ℕ
command dword0 nsid pointer cdw10 cdw11 cdw12 =
    number_bytes 4 dword0 ++ number_bytes 4 nsid ++ replicate 16 0 ++ pointer
    ++ number_bytes 4 cdw10 ++ number_bytes 4 cdw11 ++ number_bytes 4 cdw12 ++ replicate 12 0

-- opcodes
abbrev pub flush : ℕ
flush = 0x00

abbrev pub write : ℕ
write = 0x01

abbrev pub read : ℕ
read = 0x02

abbrev pub compare : ℕ
compare = 0x05

abbrev pub write_zeroes : ℕ
write_zeroes = 0x08

abbrev pub dataset_management : ℕ
dataset_management = 0x09

-- dword 0 of a command with this opcode, FUSE and PSDT, and command identifier 7
abbrev pub dword0 : (opcode fuse psdt : ℕ) → ℕ
dword0 opcode fuse psdt = opcode + 0x100 * fuse + 0x4000 * psdt + 0x70000

-- two PRP entries
abbrev pub prps : (prp1 prp2 : ℕ) → List ℕ
prps prp1 prp2 = number_bytes 8 prp1 ++ number_bytes 8 prp2

-- a command on blocks from SLBA on, NLB being counted from 0, whose buffer is given by SGL
abbrev pub by_sgl : (opcode slba nlb : ℕ) → List ℕ → List ℕ
by_sgl opcode slba nlb own = command (dword0 opcode 0 1) 1 own slba (slba / 0x100000000) nlb

-- the same by PRP
abbrev pub by_prp : (opcode slba nlb prp1 prp2 : ℕ) → List ℕ
by_prp opcode slba nlb prp1 prp2 = command (dword0 opcode 0 0) 1 (prps prp1 prp2) slba (slba / 0x100000000) nlb

-- Dataset Management of so many ranges, counted from 0, which are where this descriptor says; deallocate set, or clear
abbrev pub manage : (deallocate : Bool) → (nr : ℕ) → List ℕ → List ℕ
manage deallocate nr own = command (dword0 dataset_management 0 1) 1 own nr (if deallocate then 4 else 0) 0

-- a range of Dataset Management
abbrev pub block_range : (lba blocks : ℕ) → List ℕ
block_range lba blocks = number_bytes 4 0 ++ number_bytes 4 blocks ++ number_bytes 8 lba

-- the FUA bit of CDW12, beside NLB
abbrev pub with_fua : (nlb : ℕ) → ℕ
with_fua nlb = 0x40000000 + nlb

-- the first example: a Read of block 5 into the 512 bytes at 3000h, by one Data Block, with command identifier 7
abbrev pub first_example : List ℕ
first_example =
    0x02 ∷ 0x40 ∷ 0x07 ∷ 0x00 ∷ 0x01 ∷ 0x00 ∷ 0x00 ∷ 0x00
    ∷ 0x00 ∷ 0x00 ∷ 0x00 ∷ 0x00 ∷ 0x00 ∷ 0x00 ∷ 0x00 ∷ 0x00 ∷ 0x00 ∷ 0x00 ∷ 0x00 ∷ 0x00 ∷ 0x00 ∷ 0x00 ∷ 0x00 ∷ 0x00
    ∷ 0x00 ∷ 0x30 ∷ 0x00 ∷ 0x00 ∷ 0x00 ∷ 0x00 ∷ 0x00 ∷ 0x00 ∷ 0x00 ∷ 0x02 ∷ 0x00 ∷ 0x00 ∷ 0x00 ∷ 0x00 ∷ 0x00 ∷ 0x00
    ∷ 0x05 ∷ 0x00 ∷ 0x00 ∷ 0x00 ∷ 0x00 ∷ 0x00 ∷ 0x00 ∷ 0x00 ∷ 0x00 ∷ 0x00 ∷ 0x00 ∷ 0x00 ∷ 0x00 ∷ 0x00 ∷ 0x00 ∷ 0x00
    ∷ 0x00 ∷ 0x00 ∷ 0x00 ∷ 0x00 ∷ 0x00 ∷ 0x00 ∷ 0x00 ∷ 0x00 ∷ []

-- 255 ranges of block 0 alone, from 3000h on, and this one after them
abbrev pub many_ranges : (last : List ℕ) → ℕ → ℕ
many_ranges last addr = stored (λ at. if at % 16 == 4 then 1 else 0) 0x3ff0 last addr

-- entries of a PRP list
abbrev pub prp_entries : List ℕ → List ℕ
prp_entries addrs = flat_map (number_bytes 8) addrs

-- so many pages, one after the other
unfoldable pub pages_from : (addr count : ℕ) → List ℕ
pages_from addr zero = []
pages_from addr (suc count) = addr ∷ pages_from (addr + 0x1000) count

-- ---- verdicts

-- a Read that goes
abbrev pub reads : List Piece → List WorkUnit → Verdict
reads pieces units = Go (record { opcode = opcode.Read; pieces = pieces; ranges = []; units = units; fua = false })

-- a command without a buffer that goes
abbrev pub goes_without_buffer : IoOpcode → List WorkUnit → Verdict
goes_without_buffer code units =
    Go (record { opcode = code; pieces = []; ranges = []; units = units; fua = false })

-- the last dword of the completion with which a command of identifier 7 is refused, phase tag 1; none where it goes
abbrev pub refusal : Verdict → Option ℕ
refusal (Refuse st) = Some (dword (completion 0 1 1 7 true st) 3)
refusal (Go work) = None

-- the same of a command of a guest with that memory
abbrev pub refusal_in : (ℕ → ℕ) → List ℕ → Option ℕ
refusal_in memory entry = refusal (verdict_in guest memory entry)

-- the same of a command of the larger guest
abbrev pub larger_refusal_in : (ℕ → ℕ) → List ℕ → Option ℕ
larger_refusal_in memory entry = refusal (verdict_in larger_guest memory entry)

-- Dataset Management that goes
abbrev pub manages : List Piece → (ranges : List (List ℕ)) → List WorkUnit → Verdict
manages pieces ranges units =
    Go (record { opcode = opcode.DatasetManagement; pieces = pieces; ranges = ranges; units = units; fua = false })

-- ---- optional commands

-- ONCS, as Identify shows it
abbrev pub oncs : ℕ
oncs = number_at controller_structure 520 2

-- the opcode of each optional command of the NVM Command Set, and its bit of ONCS (Base Specification 2.0, "Identify Controller Data
-- Structure", ONCS)
abbrev pub optional_commands : List (ℕ × ℕ)
optional_commands = (0x05, 0) ∷ (0x04, 1) ∷ (0x09, 2) ∷ (0x08, 3) ∷ (0x0d, 5) ∷ (0x0c, 7) ∷ (0x19, 8) ∷ []

-- ---- transcripts

-- a read of these bytes
abbrev pub read_of : (addr : ℕ) → List ℕ → ReadDone
read_of addr bytes = record { addr = addr; bytes = bytes }

-- what has come of a command's lists with these reads, of which at most `limit` descriptors are read
abbrev pub outcome_within : (limit : ℕ) → List ℕ → List ReadDone → Outcome Verdict
outcome_within limit entry done = in_transcript (judge guest_memory limit 64 entry) [] done

-- the same under the guest's own limit
abbrev pub outcome_in : List ℕ → List ReadDone → Outcome Verdict
outcome_in entry done = outcome_within most_descriptors entry done
