-- How a run of `once` ends
use Rattle.std.specs.Prelude.{◌≡◌, ℕ, List, true, length, Option, Ok, Err, IfSome, ◌⊎◌, ⊤}
use Rattle.std.specs.Result.{is_ok}
use Rattle.nv_disk.specs.Flat.{Flat}
use Rattle.nv_once_script.specs.OnceLine.{LineValue, is_there}
use Rattle.nv_once_script.specs.OnceScript.{ScriptValue, script_of}
use Rattle.nv_once_script.specs.declared.once.fault.ScriptFault.TheVariants as script
use Rattle.nv_commands.specs.declared.fault.Fault.{Fault}
use Rattle.nv_commands.specs.declared.fault.Fault.TheVariants.{BadBytes, Usage, NoMemory, Script, Refused, CannotRead, CannotWrite, NoCompletion, Mismatch}

-- the text is a script, where it is known
abbrev pub IsScript : Option (List ℕ) → Type 0
IsScript text = IfSome text (λ bytes. is_ok (script_of bytes) ≡ true)

-- the text is this script, where it is known
abbrev pub IsScriptOf : Option (List ℕ) → ScriptValue → Type 0
IsScriptOf text script = IfSome text (λ bytes. script_of bytes ≡ Ok script)

-- how a run can fail: its output fails only after a whole script, and a fault of the script is the definition's
abbrev pub IsOnceFault : Option (List ℕ) → Fault → Type 0
IsOnceFault text BadBytes = ⊥
IsOnceFault text Usage = ⊥
IsOnceFault text NoMemory = ⊤
IsOnceFault text (Script line kind) = IfSome text (λ bytes. script_of bytes ≡ Err (script.Line line kind))
IsOnceFault text (Refused refusal) = ⊥
IsOnceFault text CannotRead = ⊤
IsOnceFault text CannotWrite = IsScript text
IsOnceFault text (NoCompletion line) = ⊥
IsOnceFault text (Mismatch guest place) = ⊥

-- the fault of an input
abbrev pub IsInput : Fault → Type 0
IsInput fault = (fault ≡ NoMemory) ⊎ (fault ≡ CannotRead)

-- the fault of a command that has begun to print: only then can a fault leave the output changed
abbrev pub IsStop : Fault → Type 0
IsStop fault = (fault ≡ NoMemory) ⊎ (fault ≡ CannotWrite)

-- a controller has so many bytes of memory and so many blocks
pub record HasSizes (controller : Flat) (bytes blocks : ℕ) : Type 0 where
  pub memory_size : length controller.memory ≡ bytes
  pub disk_size : length controller.disk ≡ blocks

-- the bytes and the block that a line names are those of a controller
abbrev pub IsThere : Flat → LineValue → Type 0
IsThere controller line = is_there (record { memory = length controller.memory; blocks = length controller.disk }) line ≡ true
