-- How a run of `run` ends
use Rattle.std.specs.Prelude.{◌≡◌, ℕ, List, true, Option, Err, IfSome, ⊤}
use Rattle.std.specs.Result.{is_ok}
use Rattle.nv_replay.specs.declared.fault.ReplayFault.TheVariants as replay
use Rattle.nv_run.specs.Opening.{run_of}
use Rattle.nv_commands.specs.declared.fault.Fault.{Fault}
use Rattle.nv_commands.specs.declared.fault.Fault.TheVariants.{BadBytes, Usage, NoMemory, Script, Refused, CannotRead, CannotWrite, NoCompletion, Mismatch}

-- the text is a script of guests whose world opens, where it is known
abbrev pub RunOpens : Option (List ℕ) → Type 0
RunOpens text = IfSome text (λ bytes. is_ok (run_of bytes) ≡ true)

-- how a run can fail: a fault of the script or of its set-up is the definition's, and only after a world was opened is a wait never met, does the
-- log differ from what was reported, or does the output fail
abbrev pub IsRunFault : Option (List ℕ) → Fault → Type 0
IsRunFault text BadBytes = ⊥
IsRunFault text Usage = ⊥
IsRunFault text NoMemory = ⊤
IsRunFault text (Script line kind) = IfSome text (λ bytes. run_of bytes ≡ Err (replay.Script line kind))
IsRunFault text (Refused refusal) = IfSome text (λ bytes. run_of bytes ≡ Err (replay.Refused refusal))
IsRunFault text CannotRead = ⊤
IsRunFault text CannotWrite = RunOpens text
IsRunFault text (NoCompletion line) = RunOpens text
IsRunFault text (Mismatch guest place) = RunOpens text

-- the fault of guests that act: one was refused memory, one had a wait that is never met, or the log differs from what was reported
abbrev pub IsPlayFault : Fault → Type 0
IsPlayFault BadBytes = ⊥
IsPlayFault Usage = ⊥
IsPlayFault NoMemory = ⊤
IsPlayFault (Script line kind) = ⊥
IsPlayFault (Refused refusal) = ⊥
IsPlayFault CannotRead = ⊥
IsPlayFault CannotWrite = ⊥
IsPlayFault (NoCompletion line) = ⊤
IsPlayFault (Mismatch guest place) = ⊤
