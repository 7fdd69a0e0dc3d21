-- Worked examples: states that fine traces start from, and what is seen of those that they lead to. Guests, blocks and the mediator's area are those of
-- nv_machine's: the second guest has its memory at 200000h, and queue 1 at 13000h there; the completion ring begins at 402000h.
use Rattle.std.specs.Prelude.{ℕ, ◌+◌, ◌==◌, Bool, true, false, if◌then◌else◌, List, [], ◌∷◌, ◌++◌, map, replicate, Option, Some, None, is_none, option_map}
use Rattle.nv_entry.specs.declared.opcode.IoOpcode.{IoOpcode}
use Rattle.nv_entry.specs.declared.opcode.IoOpcode.TheVariants as opcode
use Rattle.nv_fine.specs.Drive.{Answers, Buffer, Completes, DriveAccess, Working}
use Rattle.nv_fine.specs.Fine.{Access, Begins, Drives, Fine, GoesOn, traced}
use Rattle.nv_laws_sound.specs.Side.{Side}
use Rattle.nv_machine.specs.Doing.{tag_at}
use Rattle.nv_machine.specs.Rows.{entry_of}
use Rattle.nv_mem.specs.declared.piece.Piece.TheVariants as piece
use Rattle.nv_model.specs.Judge.{MoveBlock, Work}
use Rattle.nv_model.specs.Memory.{bytes_from}
use Rattle.nv_world_model.specs.Rows.{numbered, set_up}
use Rattle.nv_world_model.specs.World.{Tag}
use Rattle.nv_world_model.specs.declared.event.Event.{Event}

-- ---- what is seen

-- what a trace leads to, where deallocated blocks may keep their bytes
abbrev pub trace : List Access → Fine → Option Fine
trace accesses f = traced set_up false accesses f

-- whether it may not happen
abbrev pub is_refused : List Access → Fine → Bool
is_refused accesses f = is_none (trace accesses f)

-- bytes in memory, a byte of a block, and a tag of lane 0 after it
abbrev pub bytes_after : (at len : ℕ) → List Access → Fine → Option (List ℕ)
bytes_after at len accesses f = option_map (λ g. bytes_from g.outside.memory at len) (trace accesses f)

abbrev pub block_after : (lba offset : ℕ) → List Access → Fine → Option ℕ
block_after lba offset accesses f = option_map (λ g. g.outside.disk lba offset) (trace accesses f)

abbrev pub tag_after : (tag : ℕ) → List Access → Fine → Option (Option Tag)
tag_after tag accesses f = option_map (λ g. tag_at g.side 0 tag) (trace accesses f)

-- ---- accesses

-- the call under way goes on so many times
abbrev pub on : (times : ℕ) → List Access
on times = replicate times GoesOn

-- the drive's accesses
abbrev pub drive : List DriveAccess → List Access
drive accesses = map Drives accesses

-- a call with so many accesses, and its return
abbrev pub whole : Event → (accesses : ℕ) → List Access
whole e accesses = Begins e ∷ on accesses ++ GoesOn ∷ []

-- ---- states

-- nothing is under way: memory has zeros, each block its number modulo 256 in every byte, and these commands are in the drive
abbrev pub state_with : Side → List (Option Working) → Fine
state_with side commands =
    record {
      outside = record {
        memory = (λ _. 0);
        disk = numbered;
        kept = (λ _. false);
        lanes = record { head = 0; seen = (λ _. None); posted = 0; phase = true; working = commands } ∷ [];
      };
      side = side;
      call = None;
    }

-- the doorbell was written for one more entry
abbrev pub rung : Side → Side
rung side = record side { tails = 1 ∷ [] }

-- a command by identifier 1 of that opcode on block 2005 and the second guest's page at 3000h, as it was taken, and as it is with its list known and these bytes
abbrev pub entry_by : (code : ℕ) → List ℕ
entry_by code = entry_of (0x10000 + code) 0x203000 2005 0 0

abbrev pub taken : (code : ℕ) → List (Option Working)
taken code = None ∷ Some (record { entry = entry_by code; buffer = (λ _. None); work = None; left = []; differed = false; owed = [] }) ∷ []

abbrev pub work_by : IoOpcode → Work
work_by op =
    record { opcode = op; pieces = piece.Run 0x203000 512 ∷ []; ranges = []; units = MoveBlock 0 2005 ∷ []; fua = false }

abbrev pub known_with : (code : ℕ) → IoOpcode → Buffer → (left : List ℕ) → List (Option Working)
known_with code op buffer left =
    None ∷ Some (record { entry = entry_by code; buffer = buffer; work = Some (work_by op); left = left; differed = false; owed = [] }) ∷ []

-- a Read that has nothing left to do; it has the bytes of its block still
abbrev pub read_out : List (Option Working)
read_out = known_with 2 opcode.Read (λ _. Some 213) []

-- a Write that has read sevens from its source, but for the last byte
abbrev pub all_but_last : Buffer
all_but_last at = if at == 0x2031ff then None else Some 7

abbrev pub half_read : List (Option Working)
half_read = known_with 1 opcode.Write all_but_last (0 ∷ [])

-- of a completion of identifier 1 and queue 1 all bytes but the one with the phase tag, which is the last; in an order of its own, and with a dword 0 that nobody reads
abbrev pub first_bytes : List DriveAccess
first_bytes = Answers 0 12 1 ∷ Answers 0 13 0 ∷ Answers 0 15 0 ∷ Answers 0 10 1 ∷ Answers 0 11 0 ∷ Answers 0 0 0xab ∷ []

abbrev pub last_byte : DriveAccess
last_byte = Completes 0 1 false 1
