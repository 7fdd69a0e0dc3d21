-- What an admin command stores beside its completion: Base Specification 2.0, "Identify command".
use Rattle.std.specs.Prelude.{ℕ, Bool, ◌==◌, if◌then◌else◌, List, Option, Some, None}
use Rattle.nv_entry.specs.Opcode.{admin_opcode}
use Rattle.nv_entry.specs.Submission.{fuse_of, opcode_of, psdt_of}
use Rattle.nv_entry.specs.declared.opcode.AdminOpcode.{AdminOpcode}
use Rattle.nv_entry.specs.declared.opcode.AdminOpcode.TheVariants.{Identify}
use Rattle.nv_mem.specs.Places.{places_of}
use Rattle.nv_mem.specs.declared.piece.Piece.{Piece}
use Rattle.nv_model.specs.Admin.{Hidden, Shown, Structure, identify_reading, shown}
use Rattle.nv_model.specs.Memory.{scattered}
use Rattle.nv_model.specs.Reading.{Reading, Spells}

-- bytes, and where they go: to the places of pieces, one after another
pub record Stored : Type 0 where
  pub pieces : List Piece
  pub bytes : List ℕ

-- the guest's memory after that
abbrev pub memory_behind : Option Stored → (memory : ℕ → ℕ) → ℕ → ℕ
memory_behind None memory = memory
memory_behind (Some s) memory = scattered memory (places_of s.pieces) s.bytes

-- the structure goes where the data pointer says
abbrev pub structure_stored : List ℕ → Reading → Option Stored
structure_stored bytes (Spells pieces) = Some (record { pieces = pieces; bytes = bytes })
structure_stored bytes _ = None

abbrev pub shown_stored : Shown → (ℕ → Bool) → (entry : List ℕ) → Option Stored
shown_stored (Hidden why) mapped entry = None
shown_stored (Structure bytes) mapped entry = structure_stored bytes (identify_reading mapped entry)

-- no other command stores anything but its completion
abbrev pub done_stored : AdminOpcode → (ℕ → Bool) → (blocks : ℕ) → (entry : List ℕ) → Option Stored
done_stored Identify mapped blocks entry = shown_stored (shown blocks entry) mapped entry
done_stored _ mapped blocks entry = None

abbrev pub opcode_stored : Option AdminOpcode → (ℕ → Bool) → (blocks : ℕ) → (entry : List ℕ) → Option Stored
opcode_stored None mapped blocks entry = None
opcode_stored (Some opcode) mapped blocks entry = if psdt_of entry == 0 then done_stored opcode mapped blocks entry else None

-- what a command of 64 bytes stores
abbrev pub command_stored : (ℕ → Bool) → (blocks : ℕ) → (entry : List ℕ) → Option Stored
command_stored mapped blocks entry =
    if fuse_of entry == 0 then opcode_stored (admin_opcode (opcode_of entry)) mapped blocks entry else None
