-- Lines one after another, of a script of any kind: the first faulty line decides (profile)
use Rattle.std.specs.Prelude.{ℕ, ◌+◌, List, [], ◌∷◌, length, Option, Result, Ok, Err}
use Rattle.std.specs.Option.{ok_or}
use Rattle.nv_once_script.specs.declared.once.fault.FaultKind.{FaultKind}
use Rattle.nv_once_script.specs.declared.once.fault.FaultKind.TheVariants.{UnknownWord}
use Rattle.nv_once_script.specs.declared.once.fault.ScriptFault.{ScriptFault}
use Rattle.nv_once_script.specs.declared.once.fault.ScriptFault.TheVariants as fault
use Rattle.nv_once_script.specs.OnceFault.{◌>>=◌}
use Rattle.nv_once_script.specs.OnceWords.{lines_of, words_of}

-- what a line of these words gives, by its keyword and the words after it: a line with no words adds nothing
unfoldable pub after_words : {K P : Type 0} → (keyword_of : List ℕ → Option K) → (K → List (List ℕ) → Result P FaultKind)
    → P → List (List ℕ) → Result P FaultKind
after_words keyword_of by_keyword so_far [] = Ok so_far
after_words keyword_of by_keyword so_far (first ∷ words) = do
  keyword ← ok_or (keyword_of first) UnknownWord
  by_keyword keyword words

-- a fault of line n
abbrev pub on_line : {A : Type 0} → ℕ → Result A FaultKind → Result A ScriptFault
on_line n (Ok x) = Ok x
on_line n (Err kind) = Err (fault.Line n kind)

-- what lines from line n on add, by what each adds
unfoldable pub after_lines : {P : Type 0} → (ℕ → P → List (List ℕ) → Result P FaultKind) → ℕ → P → List (List ℕ) → Result P ScriptFault
after_lines add n so_far [] = Ok so_far
after_lines add n so_far (line ∷ lines) = do
  next ← on_line n (add n so_far (words_of line))
  after_lines add (n + 1) next lines

-- what a text comes to: what its lines add to nothing, and that at its last line
unfoldable pub script_by : {P S : Type 0} → (add : ℕ → P → List (List ℕ) → Result P FaultKind)
    → (finish : ℕ → P → Result S ScriptFault) → (nothing : P) → List ℕ → Result S ScriptFault
script_by add finish nothing text = do
  so_far ← after_lines add 1 nothing (lines_of text)
  finish (length (lines_of text)) so_far
