-- A whole script: the set-up first, then its lines; the first faulty line decides
use Rattle.std.specs.Prelude.{◌≡◌, ℕ, true, List, [], ◌∷◌, ◌++◌, map, length, Option, Some, None, Result, Ok, Err}
use Rattle.std.specs.List.{AllPass}
use Rattle.std.specs.Option.{ok_or}
use Rattle.nv_once_script.specs.declared.once.fault.FaultKind.{FaultKind}
use Rattle.nv_once_script.specs.declared.once.fault.FaultKind.TheVariants.{OutOfPlace}
use Rattle.nv_once_script.specs.declared.once.fault.ScriptFault.{ScriptFault}
use Rattle.nv_once_script.specs.declared.once.sizes.Sizes.{Sizes}
use Rattle.nv_once_script.specs.declared.once.script.Script.{Script}
use Rattle.nv_once_script.specs.declared.once.reading.Reading.{Reading}
use Rattle.nv_once_script.specs.declared.once.vocabulary.Keyword.{Keyword}
use Rattle.nv_once_script.specs.declared.once.vocabulary.Keyword.TheVariants as keyword
use Rattle.nv_once_script.specs.OnceFault.{◌>>=◌}
use Rattle.nv_once_script.specs.OnceFold.{after_words, on_line, script_by}
use Rattle.nv_once_script.specs.OnceLine.{LineValue, is_there, line_of, value_of}
use Rattle.nv_once_script.specs.OnceSizes.{block_count, is_block_count, is_memory_size, memory_size}
use Rattle.nv_once_script.specs.OnceVocabulary.{arguments_of, count_check, keyword_of}

-- a script: the sizes of its set-up, and its lines after it
pub record ScriptValue : Type 0 where
  pub sizes : Sizes
  pub lines : List LineValue

-- the value of a script that was read
abbrev pub script_value : Script → ScriptValue
script_value script = record { sizes = record { memory = script.memory; blocks = script.blocks }; lines = map value_of script.lines.items }

-- what the lines so far have said
pub record Progress : Type 0 where
  pub memory : Option ℕ
  pub blocks : Option ℕ
  pub lines : List LineValue

abbrev pub progress : Reading → Progress
progress reading = record { memory = reading.memory; blocks = reading.blocks; lines = map value_of reading.lines.items }

-- before the first line
abbrev pub nothing : Progress
nothing = record { memory = None; blocks = None; lines = [] }

-- a size that the set-up names: a second one is out of place
abbrev pub first_time : Option ℕ → Result ℕ FaultKind → Result ℕ FaultKind
first_time None size = size
first_time (Some before) size = Err OutOfPlace

-- the sizes, once both are there
abbrev pub both : Option ℕ → Option ℕ → Option Sizes
both (Some memory) (Some blocks) = Some (record { memory = memory; blocks = blocks })
both memory blocks = None

abbrev pub sizes_in : Progress → Option Sizes
sizes_in so_far = both so_far.memory so_far.blocks

-- what a line after the set-up adds
abbrev pub after_body : Progress → Keyword → List (List ℕ) → Result Progress FaultKind
after_body so_far keyword words = do
  sizes ← ok_or (sizes_in so_far) OutOfPlace
  line ← line_of sizes keyword words
  Ok (record so_far { lines = so_far.lines ++ line ∷ [] })

-- what a line with this keyword and these words after it adds
unfoldable pub after_keyword : Progress → Keyword → List (List ℕ) → Result Progress FaultKind
after_keyword so_far keyword.Memory (word ∷ []) = do
  size ← first_time so_far.memory (memory_size word)
  Ok (record so_far { memory = Some size })
after_keyword so_far keyword.Blocks (word ∷ []) = do
  count ← first_time so_far.blocks (block_count word)
  Ok (record so_far { blocks = Some count })
after_keyword so_far keyword words = after_body so_far keyword words

-- the same, of words that are as many as that keyword wants
abbrev pub counted_keyword : Progress → Keyword → List (List ℕ) → Result Progress FaultKind
counted_keyword so_far keyword words = do
  counted ← count_check (length words) (arguments_of keyword)
  after_keyword so_far keyword words

-- what a line of these words adds, whichever its number
abbrev pub after_line : (n : ℕ) → Progress → List (List ℕ) → Result Progress FaultKind
after_line n so_far words = after_words keyword_of (counted_keyword so_far) so_far words

-- the script whose last line is line n: its set-up is whole
abbrev pub finished : ℕ → Progress → Result ScriptValue ScriptFault
finished n so_far = do
  sizes ← on_line n (ok_or (sizes_in so_far) OutOfPlace)
  Ok (record { sizes = sizes; lines = so_far.lines })

-- the script that a text is, or its first fault
unfoldable pub script_of : List ℕ → Result ScriptValue ScriptFault
script_of text = script_by after_line finished nothing text

-- the sizes of a script are such as a set-up may name, and the bytes and blocks that its lines name are there
pub record IsInRange (script : ScriptValue) : Type 0 where
  pub memory : is_memory_size script.sizes.memory ≡ true
  pub blocks : is_block_count script.sizes.blocks ≡ true
  pub lines : AllPass (is_there script.sizes) script.lines
