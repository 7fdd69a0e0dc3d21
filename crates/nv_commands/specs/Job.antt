-- What is left to do of a command once nothing more is to be read
use Rattle.std.specs.Prelude.{◌≡◌, ℕ, Bool, List, Option, Ok, ⊤}
use Rattle.std.specs.Io.KnownBytes.{Appends}
use Rattle.hex.specs.Hex.{decode_sized}
use Rattle.nv_once_script.specs.OnceScript.{IsInRange, script_value}
use Rattle.nv_replay.specs.Shown.{PrintsReplay}
use Rattle.nv_run.specs.Played.{PrintsPlayed}
use Rattle.nv_commands.specs.Command.{size_of}
use Rattle.nv_commands.specs.Once.{IsScriptOf}
use Rattle.nv_commands.specs.Replay.{IsReplayOf}
use Rattle.nv_commands.specs.Printed.{completion_line, submission_line}
use Rattle.nv_commands.specs.Shown.{PrintsScript}
use Rattle.nv_commands.specs.declared.entry_kind.EntryKind.TheVariants as kind
use Rattle.nv_commands.specs.declared.command.Command.{Command}
use Rattle.nv_commands.specs.declared.command.Command.TheVariants.{Decode, Once, Replay}
use Rattle.nv_commands.specs.declared.command.Job.{Job}
use Rattle.nv_commands.specs.declared.command.Job.TheVariants as job

-- a script that is to be run is in range
abbrev pub IsPrintable : Job → Type 0
IsPrintable (job.Submission entry) = ⊤
IsPrintable (job.Completion entry) = ⊤
IsPrintable (job.Script script) = IsInRange (script_value script)
IsPrintable (job.Replay replay) = ⊤
IsPrintable (job.Played played) = ⊤

-- what is left to do of a command: the entry that its digits spell, the script that the text is, or what it comes to
abbrev pub IsJobOf : Command → (text : Option (List ℕ)) → Job → Type 0
IsJobOf (Decode kind.Submission digits) text (job.Submission entry) = decode_sized digits.now (size_of kind.Submission) ≡ Ok entry
IsJobOf (Decode kind.Completion digits) text (job.Completion entry) = decode_sized digits.now (size_of kind.Completion) ≡ Ok entry
IsJobOf Once text (job.Script script) = IsScriptOf text (script_value script) × IsInRange (script_value script)
IsJobOf Replay text (job.Replay replay) = IsReplayOf text replay
IsJobOf _ text _ = ⊥

-- an output has grown by what is left to do
abbrev pub PrintsJob : (built : List ℕ → Bool) → Job → (before after : Option (List ℕ)) → Type 0
PrintsJob built (job.Submission entry) before after = Appends before after (submission_line entry)
PrintsJob built (job.Completion entry) before after = Appends before after (completion_line entry)
PrintsJob built (job.Script script) before after = PrintsScript built (script_value script) before after
PrintsJob built (job.Replay replay) before after = PrintsReplay replay before after
PrintsJob built (job.Played played) before after = PrintsPlayed played before after
