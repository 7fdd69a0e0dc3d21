-- The lines of guests (profile): the guest's number is read first, and it is checked that the guest is there before the words after the number are
-- read
use Rattle.std.specs.Prelude.{ℕ, List, ◌∷◌, Result, Ok, Err}
use Rattle.nv_once_script.specs.declared.once.fault.FaultKind.{FaultKind}
use Rattle.nv_once_script.specs.declared.once.fault.FaultKind.TheVariants.{OutOfPlace}
use Rattle.nv_once_script.specs.OnceFault.{◌>>=◌}
use Rattle.nv_once_script.specs.OnceNumber.{number_of}
use Rattle.nv_replay_script.specs.declared.vocabulary.ActKind.{ActKind}
use Rattle.nv_replay_script.specs.ReplayEvents.{act_of, dword_of}
use Rattle.nv_replay_script.specs.ReplaySetUp.{known_guest}
use Rattle.nv_run_script.specs.declared.line.Line.{Line}
use Rattle.nv_run_script.specs.declared.line.Task.TheVariants as task

-- line n, of an act of one of so many guests
abbrev pub act_line : (count n : ℕ) → ActKind → List (List ℕ) → Result Line FaultKind
act_line count n kind (guest ∷ words) = do
  g ← known_guest count guest
  act ← act_of kind words
  Ok (record { number = n; guest = g; task = task.Act act })
act_line count n kind words = Err OutOfPlace

-- line n, which waits for 4 bytes of one of so many guests
abbrev pub await_line : (count n : ℕ) → (guest addr value : List ℕ) → Result Line FaultKind
await_line count n guest addr value = do
  g ← known_guest count guest
  a ← number_of addr
  v ← dword_of value
  Ok (record { number = n; guest = g; task = task.Await a v })

-- line n, which waits for a register of one of so many guests
abbrev pub await_register_line : (count n : ℕ) → (guest offset value : List ℕ) → Result Line FaultKind
await_register_line count n guest offset value = do
  g ← known_guest count guest
  o ← dword_of offset
  v ← dword_of value
  Ok (record { number = n; guest = g; task = task.AwaitReg o v })
