-- What is printed of a command, by what was left to do of it
use Rattle.std.proofs.Common.{ℕ, Bool, List, Option, Some, None}
use Rattle.std.specs.Prelude.{IfOk, Result, Ok, Err}
use Rattle.std.specs.Io.KnownBytes.{Keeps}
use Rattle.nv_print.proofs.Growing.{Appends-kept}
use Rattle.nv_once_script.specs.OnceScript.{ScriptValue, script_value}
use Rattle.nv_commands.specs.declared.entry_kind.EntryKind.TheVariants as kind
use Rattle.nv_commands.specs.declared.command.Command.{Command}
use Rattle.nv_commands.specs.declared.command.Command.TheVariants.{Decode, Once, Replay}
use Rattle.nv_commands.specs.declared.command.Job.{Job}
use Rattle.nv_commands.specs.declared.command.Job.TheVariants as job
use Rattle.nv_replay.specs.Opening.{ReplayValue}
use Rattle.nv_replay.specs.Shown as replay
use Rattle.nv_commands.specs.Command.{Prints}
use Rattle.nv_commands.specs.Job.{IsJobOf, PrintsJob}
use Rattle.nv_commands.specs.Once.{IsScriptOf}
use Rattle.nv_commands.specs.Replay.{IsReplayOf}
use Rattle.nv_commands.specs.Shown.{PrintsScript, PrintsText}

-- what the script of a text prints
PrintsText-script : (built : List ℕ → Bool) (text before after : Option (List ℕ)) (script : ScriptValue)
    → IsScriptOf text script → PrintsScript built script before after → PrintsText built text before after
PrintsText-script built None before after script is printed = tt
PrintsText-script built (Some bytes) before after script is printed = (script, is, printed)

-- what a run of the world of a text prints
PrintsText-replay : (text before after : Option (List ℕ)) (value : ReplayValue)
    → IsReplayOf text value → replay.PrintsReplay value before after → replay.PrintsText text before after
PrintsText-replay None before after value is printed = tt
PrintsText-replay (Some bytes) before after value is printed = (value, is, printed)

-- what a command prints is what is left to do of it
pub Prints-job : (built : List ℕ → Bool) (command : Command) (text before after : Option (List ℕ)) (job : Job)
    → IsJobOf command text job → PrintsJob built job before after → Prints built command text before after
Prints-job built (Decode kind.Submission digits) text before after (job.Submission entry) is printed = (entry, is, printed)
Prints-job built (Decode kind.Submission digits) text before after (job.Completion entry) is printed = absurd is
Prints-job built (Decode kind.Submission digits) text before after (job.Script script) is printed = absurd is
Prints-job built (Decode kind.Submission digits) text before after (job.Replay value) is printed = absurd is
Prints-job built (Decode kind.Submission digits) text before after (job.Played played) is printed = absurd is
Prints-job built (Decode kind.Completion digits) text before after (job.Submission entry) is printed = absurd is
Prints-job built (Decode kind.Completion digits) text before after (job.Completion entry) is printed = (entry, is, printed)
Prints-job built (Decode kind.Completion digits) text before after (job.Script script) is printed = absurd is
Prints-job built (Decode kind.Completion digits) text before after (job.Replay value) is printed = absurd is
Prints-job built (Decode kind.Completion digits) text before after (job.Played played) is printed = absurd is
Prints-job built Once text before after (job.Submission entry) is printed = absurd is
Prints-job built Once text before after (job.Completion entry) is printed = absurd is
Prints-job built Once text before after (job.Script script) is printed = PrintsText-script built text before after (script_value script) is.0 printed
Prints-job built Once text before after (job.Replay value) is printed = absurd is
Prints-job built Once text before after (job.Played played) is printed = absurd is
Prints-job built Replay text before after (job.Submission entry) is printed = absurd is
Prints-job built Replay text before after (job.Completion entry) is printed = absurd is
Prints-job built Replay text before after (job.Script script) is printed = absurd is
Prints-job built Replay text before after (job.Replay value) is printed = PrintsText-replay text before after value is printed
Prints-job built Replay text before after (job.Played played) is printed = absurd is

-- what was printed is kept
pub PrintsJob-kept : (built : List ℕ → Bool) (job : Job) (before between after : Option (List ℕ))
    → PrintsJob built job before between → Keeps between after → PrintsJob built job before after
PrintsJob-kept built (job.Submission entry) before between after printed kept = Appends-kept before between after _ printed kept
PrintsJob-kept built (job.Completion entry) before between after printed kept = Appends-kept before between after _ printed kept
PrintsJob-kept built (job.Script script) before between after (printed, grown, is) kept = (printed, Appends-kept before between after printed grown kept, is)
PrintsJob-kept built (job.Replay value) before between after (printed, grown, is) kept = (printed, Appends-kept before between after printed grown kept, is)
PrintsJob-kept built (job.Played played) before between after printed kept = Appends-kept before between after _ printed kept

-- what an end well prints of a command is what is left to do of it
pub Prints-ended : {W E : Type 0} (built : List ℕ → Bool) (command : Command) (text before : Option (List ℕ)) (contents : W → Option (List ℕ))
    (job : Job) (ended : Result W E)
    → IsJobOf command text job → IfOk ended (λ w. PrintsJob built job before (contents w))
    → IfOk ended (λ w. Prints built command text before (contents w))
Prints-ended built command text before contents job (Ok w) is printed = Prints-job built command text before (contents w) job is printed
Prints-ended built command text before contents job (Err e) is printed = tt
