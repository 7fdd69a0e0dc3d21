-- The faults of the program: what each prints, and the exit status that it ends with
use Rattle.std.specs.Prelude.{ℕ, List, ◌++◌, codes}
use Rattle.std.specs.Fmt.{decimal}
use Rattle.nv_commands.specs.declared.exit_status.ExitStatus.{ExitStatus}
use Rattle.nv_commands.specs.declared.exit_status.ExitStatus.TheVariants as status
use Rattle.nv_commands.specs.declared.refusal.Refusal.{Refusal}
use Rattle.nv_commands.specs.declared.refusal.Refusal.TheVariants as refusal
use Rattle.nv_commands.specs.declared.fault.Fault.{Fault}
use Rattle.nv_commands.specs.declared.fault.Fault.TheVariants.{BadBytes, Usage, NoMemory, Script, Refused, CannotRead, CannotWrite, NoCompletion, Mismatch}
use Rattle.nv_replay.specs.Refused.{refusal_text}
use Rattle.nv_replay.specs.declared.fault.ReplayFault.{ReplayFault}
use Rattle.nv_replay.specs.declared.fault.ReplayFault.TheVariants as replay
use Rattle.nv_run.specs.declared.fault.RunFault.{RunFault}
use Rattle.nv_run.specs.declared.fault.RunFault.TheVariants as run
use Rattle.nv_once_script.specs.OnceFault.{line_text}
use Rattle.nv_once_script.specs.declared.once.fault.ScriptFault.{ScriptFault}
use Rattle.nv_once_script.specs.declared.once.fault.ScriptFault.TheVariants as script

-- the exit status of a fault
abbrev pub status_of : Fault → ExitStatus
status_of BadBytes = status.ScriptFault
status_of Usage = status.Usage
status_of NoMemory = status.NoMemory
status_of (Script line kind) = status.ScriptFault
status_of (Refused refusal) = status.ScriptFault
status_of CannotRead = status.InputOutput
status_of CannotWrite = status.InputOutput
status_of (NoCompletion line) = status.ScriptFault
status_of (Mismatch guest place) = status.Mismatch

-- the text of a fault
abbrev pub text_of : Fault → List ℕ
text_of BadBytes = codes "line 1: bad bytes"
text_of Usage = codes "usage: nvmed once | replay | run | decode KIND HEX"
text_of NoMemory = codes "no memory"
text_of (Script line kind) = line_text line kind
text_of (Refused refusal) = refusal_text refusal
text_of CannotRead = codes "cannot read"
text_of CannotWrite = codes "cannot write"
text_of (NoCompletion line) = codes "line " ++ decimal line ++ codes ": no completion"
text_of (Mismatch guest place) = codes "mismatch guest " ++ decimal guest ++ codes " place " ++ decimal place

-- the fault of a script
abbrev pub of_script : ScriptFault → Fault
of_script (script.Line line kind) = Script line kind
of_script script.NoMemory = NoMemory

-- the fault of a script that is not replayed
abbrev pub of_replay : ReplayFault → Fault
of_replay (replay.Script line kind) = Script line kind
of_replay (replay.Refused refusal) = Refused refusal
of_replay replay.NoMemory = NoMemory

-- the fault of a run
abbrev pub of_run : RunFault → Fault
of_run run.NoMemory = NoMemory
of_run (run.NoCompletion line) = NoCompletion line
of_run (run.Mismatch guest place) = Mismatch guest place

-- the fault of words that are no command
abbrev pub fault_of : Refusal → Fault
fault_of refusal.Usage = Usage
fault_of refusal.NoMemory = NoMemory
