-- How a run of `replay` ends
use Rattle.std.specs.Prelude.{◌≡◌, ℕ, List, true, Option, Ok, Err, IfSome, ⊤}
use Rattle.std.specs.Result.{is_ok}
use Rattle.nv_replay.specs.Opening.{ReplayValue, replay_of}
use Rattle.nv_replay.specs.declared.fault.ReplayFault.TheVariants as replay
use Rattle.nv_commands.specs.declared.fault.Fault.{Fault}
use Rattle.nv_commands.specs.declared.fault.Fault.TheVariants.{BadBytes, Usage, NoMemory, Script, Refused, CannotRead, CannotWrite, NoCompletion, Mismatch}

-- the text comes to this, where it is known
abbrev pub IsReplayOf : Option (List ℕ) → ReplayValue → Type 0
IsReplayOf text value = IfSome text (λ bytes. replay_of bytes ≡ Ok value)

-- the text is a script whose world opens, where it is known
abbrev pub Opens : Option (List ℕ) → Type 0
Opens text = IfSome text (λ bytes. is_ok (replay_of bytes) ≡ true)

-- how a run can fail: its output fails only after a world was opened, and a fault of the script or of its set-up is the definition's
abbrev pub IsReplayFault : Option (List ℕ) → Fault → Type 0
IsReplayFault text BadBytes = ⊥
IsReplayFault text Usage = ⊥
IsReplayFault text NoMemory = ⊤
IsReplayFault text (Script line kind) = IfSome text (λ bytes. replay_of bytes ≡ Err (replay.Script line kind))
IsReplayFault text (Refused refusal) = IfSome text (λ bytes. replay_of bytes ≡ Err (replay.Refused refusal))
IsReplayFault text CannotRead = ⊤
IsReplayFault text CannotWrite = Opens text
IsReplayFault text (NoCompletion line) = ⊥
IsReplayFault text (Mismatch guest place) = ⊥
