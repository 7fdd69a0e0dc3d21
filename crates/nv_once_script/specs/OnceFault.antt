-- Faults of a script: one step after another, the first fault decides
use Rattle.std.specs.Prelude.{◌≡◌, ℕ, List, ◌++◌, codes, Result, Ok, Err, ⊤}
use Rattle.std.specs.Fmt.{decimal}
use Rattle.nv_once_script.specs.declared.once.fault.FaultKind.{FaultKind}
use Rattle.nv_once_script.specs.declared.once.fault.FaultKind.TheVariants.{UnknownWord, MissingWord, TooManyWords, BadNumber, BadBytes, OutOfPlace, OutOfRange}
use Rattle.nv_once_script.specs.declared.once.fault.LineFault.{LineFault}
use Rattle.nv_once_script.specs.declared.once.fault.LineFault.TheVariants as refusal
use Rattle.nv_once_script.specs.declared.once.fault.ScriptFault.{ScriptFault}
use Rattle.nv_once_script.specs.declared.once.fault.ScriptFault.TheVariants as fault

-- the second step, if the first gave a value
infixl 10 ◌>>=◌
abbrev pub ◌>>=◌ : {E A B : Type 0} → Result A E → (A → Result B E) → Result B E
Ok x >>= f = f x
Err e >>= f = Err e

-- this refusal is the definition's fault, or one for being out of memory, which no definition speaks of
abbrev pub Refuses : {A : Type 0} → Result A FaultKind → LineFault → Type 0
Refuses answer (refusal.Faulty kind) = answer ≡ Err kind
Refuses answer refusal.NoMemory = ⊤

-- the fault of a text whose line n is refused
abbrev pub fault_on : ℕ → LineFault → ScriptFault
fault_on n (refusal.Faulty kind) = fault.Line n kind
fault_on n refusal.NoMemory = fault.NoMemory

-- what is wrong with a line, in words
abbrev pub kind_text : FaultKind → List ℕ
kind_text UnknownWord = codes "unknown word"
kind_text MissingWord = codes "missing word"
kind_text TooManyWords = codes "too many words"
kind_text BadNumber = codes "bad number"
kind_text BadBytes = codes "bad bytes"
kind_text OutOfPlace = codes "out of place"
kind_text OutOfRange = codes "out of range"

-- the text of a faulty line
abbrev pub line_text : ℕ → FaultKind → List ℕ
line_text n kind = codes "line " ++ decimal n ++ codes ": " ++ kind_text kind

-- the text of a fault
abbrev pub fault_text : ScriptFault → List ℕ
fault_text (fault.Line n kind) = line_text n kind
fault_text fault.NoMemory = codes "no memory"
