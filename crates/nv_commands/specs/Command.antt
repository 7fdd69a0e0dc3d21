-- Commands of the program
use Rattle.std.specs.Prelude.{◌≡◌, ℕ, Bool, true, false, List, Option, Ok, ⊤}
use Rattle.std.specs.Io.KnownBytes.{Appends}
use Rattle.std.specs.Result.{is_ok}
use Rattle.hex.specs.Hex.{decode_sized}
use Rattle.nv_replay.specs.Shown as replay
use Rattle.nv_commands.specs.Once.{IsOnceFault}
use Rattle.nv_commands.specs.Replay.{IsReplayFault}
use Rattle.nv_commands.specs.Printed.{completion_line, submission_line}
use Rattle.nv_commands.specs.Shown.{PrintsText}
use Rattle.nv_commands.specs.declared.fault.Fault.{Fault}
use Rattle.nv_commands.specs.declared.fault.Fault.TheVariants.{BadBytes, Usage, NoMemory, Script, Refused, CannotRead, CannotWrite, NoCompletion, Mismatch}
use Rattle.nv_commands.specs.declared.entry_kind.EntryKind.{EntryKind}
use Rattle.nv_commands.specs.declared.entry_kind.EntryKind.TheVariants.{Submission, Completion}
use Rattle.nv_commands.specs.declared.command.Command.{Command}
use Rattle.nv_commands.specs.declared.command.Command.TheVariants.{Decode, Once, Replay}

-- how many bytes an entry has
abbrev pub size_of : EntryKind → ℕ
size_of Submission = 64
size_of Completion = 16

-- the line of an entry
abbrev pub line_of : EntryKind → List ℕ → List ℕ
line_of Submission entry = submission_line entry
line_of Completion entry = completion_line entry

-- an output has grown by what a command prints: the line of the entry that its digits spell, or what the script prints that the text is,
-- on a controller of its own or along its world
abbrev pub Prints : (built : List ℕ → Bool) → Command → (text before after : Option (List ℕ)) → Type 0
Prints built (Decode kind digits) text before after =
    (entry : List ℕ) × (decode_sized digits.now (size_of kind) ≡ Ok entry) × Appends before after (line_of kind entry)
Prints built Once text before after = PrintsText built text before after
Prints built Replay text before after = replay.PrintsText text before after

-- the faults with which `decode` can end: its digits spell no entry, or they do and the output failed or memory was refused
abbrev pub IsDecodeFault : (spelled : Bool) → Fault → Type 0
IsDecodeFault spelled BadBytes = spelled ≡ false
IsDecodeFault spelled Usage = ⊥
IsDecodeFault spelled NoMemory = spelled ≡ true
IsDecodeFault spelled (Script line kind) = ⊥
IsDecodeFault spelled (Refused refusal) = ⊥
IsDecodeFault spelled CannotRead = ⊥
IsDecodeFault spelled CannotWrite = spelled ≡ true
IsDecodeFault spelled (NoCompletion line) = ⊥
IsDecodeFault spelled (Mismatch guest place) = ⊥

-- how a command can end that ends not well
abbrev pub IsFaultOf : Command → (text : Option (List ℕ)) → Fault → Type 0
IsFaultOf (Decode kind digits) text fault = IsDecodeFault (is_ok (decode_sized digits.now (size_of kind))) fault
IsFaultOf Once text fault = IsOnceFault text fault
IsFaultOf Replay text fault = IsReplayFault text fault

-- `decode` leaves its input as it is
abbrev pub LeavesInput : {R : Type 0} → Command → (before after : R) → Type 0
LeavesInput (Decode kind digits) before after = after ≡ before
LeavesInput Once before after = ⊤
LeavesInput Replay before after = ⊤
