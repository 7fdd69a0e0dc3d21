-- The exit statuses of the program
use Rattle.std.specs.Prelude.{ℕ}
use Rattle.nv_commands.specs.declared.exit_status.ExitStatus.{ExitStatus}
use Rattle.nv_commands.specs.declared.exit_status.ExitStatus.TheVariants.{Success, ScriptFault, Usage, NoMemory, Mismatch, InputOutput}

-- the number that the process ends with
abbrev pub exit_code : ExitStatus → ℕ
exit_code Success = 0
exit_code ScriptFault = 1
exit_code Usage = 2
exit_code NoMemory = 3
exit_code Mismatch = 4
exit_code InputOutput = 5
