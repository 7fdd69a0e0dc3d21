-- Why nothing of a text runs, and the texts of a set-up's refusals (profile)
use Rattle.std.specs.Prelude.{ℕ, List, ◌++◌, codes}
use Rattle.std.specs.Fmt.{decimal}
use Rattle.nv_mem.specs.declared.map_error.MapError.{MapError}
use Rattle.nv_mem.specs.declared.map_error.MapError.TheVariants.{Unaligned, Overlap, OutsideHost}
use Rattle.nv_once_script.specs.declared.once.fault.ScriptFault.{ScriptFault}
use Rattle.nv_once_script.specs.declared.once.fault.ScriptFault.TheVariants as script
use Rattle.nv_mediator.specs.declared.refusal.Refusal.{Refusal}
use Rattle.nv_mediator.specs.declared.refusal.Refusal.TheVariants as world
use Rattle.nv_replay.specs.declared.fault.ReplayFault.{ReplayFault}
use Rattle.nv_replay.specs.declared.fault.ReplayFault.TheVariants as fault
use Rattle.nv_replay.specs.declared.refusal.SetUpRefusal.{SetUpRefusal}
use Rattle.nv_replay.specs.declared.refusal.SetUpRefusal.TheVariants.{Map, TooManyGuests, ExtentsMeet, MapsMeet, BadSize}

-- a refusal of a guest's regions, by number and name
abbrev pub map_error_text : MapError → List ℕ
map_error_text Unaligned = codes "1 Unaligned"
map_error_text Overlap = codes "2 Overlap"
map_error_text OutsideHost = codes "3 OutsideHost"

-- the text of a refusal
abbrev pub refusal_text : SetUpRefusal → List ℕ
refusal_text (Map guest error) = codes "guest " ++ decimal guest ++ codes " map refused: " ++ map_error_text error
refusal_text TooManyGuests = codes "setup refused: 1 TooManyGuests"
refusal_text ExtentsMeet = codes "setup refused: 2 RangesMeet"
refusal_text MapsMeet = codes "setup refused: 3 MapsMeet"
refusal_text BadSize = codes "setup refused: 4 BadSize"

-- the fault of a text that is no script
abbrev pub of_script : ScriptFault → ReplayFault
of_script (script.Line line kind) = fault.Script line kind
of_script script.NoMemory = fault.NoMemory

-- the fault of a set-up whose world is not opened
abbrev pub of_refusal : Refusal → ReplayFault
of_refusal world.TooManyGuests = fault.Refused TooManyGuests
of_refusal world.ExtentsMeet = fault.Refused ExtentsMeet
of_refusal world.MapsMeet = fault.Refused MapsMeet
of_refusal world.BadSize = fault.Refused BadSize
of_refusal world.NoMemory = fault.NoMemory
