-- A whole script of `run`: the set-up first, then the lines of its guests; the first faulty line decides (profile)
use Rattle.std.specs.Prelude.{ℕ, ◌+◌, List, [], ◌∷◌, ◌++◌, map, length, Result, Ok, Err, Bool, true, false}
use Rattle.std.specs.Option.{ok_or}
use Rattle.nv_once_script.specs.declared.once.fault.FaultKind.{FaultKind}
use Rattle.nv_once_script.specs.declared.once.fault.FaultKind.TheVariants.{OutOfPlace}
use Rattle.nv_once_script.specs.declared.once.fault.ScriptFault.{ScriptFault}
use Rattle.nv_once_script.specs.OnceFault.{◌>>=◌}
use Rattle.nv_once_script.specs.OnceFold.{after_words, on_line, script_by}
use Rattle.nv_once_script.specs.OnceVocabulary.{count_check}
use Rattle.nv_replay_script.specs.declared.sizes.OpenSizes.{OpenSizes}
use Rattle.nv_replay_script.specs.declared.sizes.Sizes.{Sizes}
use Rattle.nv_replay_script.specs.declared.vocabulary.ActKind.{ActKind}
use Rattle.nv_replay_script.specs.declared.vocabulary.EventKind.TheVariants as event
use Rattle.nv_replay_script.specs.declared.vocabulary.Keyword.{Keyword}
use Rattle.nv_replay_script.specs.declared.vocabulary.Keyword.TheVariants as keyword
use Rattle.nv_replay_script.specs.ReplaySetUp.{GuestValue, SetUpSoFar, counted_set_up, guest_value, no_set_up, set_up_so_far, sizes_in}
use Rattle.nv_replay_script.specs.ReplayVocabulary.{act_arguments, await_arguments, event_arguments, foreign, keyword_of}
use Rattle.nv_run_script.specs.declared.line.Line.{Line}
use Rattle.nv_run_script.specs.declared.reading.Reading.{Reading}
use Rattle.nv_run_script.specs.declared.script.Script.{Script}
use Rattle.nv_run_script.specs.RunTasks.{act_line, await_line, await_register_line}

-- a script: the sizes and guests of its set-up, and the lines of all guests in the order written
pub record ScriptValue : Type 0 where
  pub sizes : Sizes
  pub guests : List GuestValue
  pub lines : List Line

-- the value of a script that was read
abbrev pub script_value : Script → ScriptValue
script_value script =
    record { sizes = script.sizes; guests = map guest_value script.guests.items; lines = script.lines.items }

-- what the lines so far have said
pub record Progress : Type 0 where
  pub set_up : SetUpSoFar
  pub lines : List Line

abbrev pub progress : Reading → Progress
progress reading = record { set_up = set_up_so_far reading.set_up; lines = reading.lines.items }

-- before the first line
abbrev pub nothing : Progress
nothing = record { set_up = no_set_up; lines = [] }

-- whether no guest's line has come: set-up lines come before all others
abbrev pub is_early : List Line → Bool
is_early [] = true
is_early (line ∷ lines) = false

-- sizes that are all there, or the line that wants them is out of place
abbrev pub whole_sizes : OpenSizes → Result (Unit {0}) FaultKind
whole_sizes sizes = do
  whole ← ok_or (sizes_in sizes) OutOfPlace
  Ok tt

-- a guest's line adds what it makes, once all sizes are there
abbrev pub add_line : Progress → Result Line FaultKind → Result Progress FaultKind
add_line so_far made = do
  whole ← whole_sizes so_far.set_up.sizes
  line ← made
  Ok (record so_far { lines = so_far.lines ++ line ∷ [] })

-- how many guests the lines so far have set up
abbrev pub guest_count : Progress → ℕ
guest_count so_far = length so_far.set_up.guests

-- what line n adds that is an act
abbrev pub add_act : (n : ℕ) → Progress → ActKind → List (List ℕ) → Result Progress FaultKind
add_act n so_far kind words = do
  counted ← count_check (length words) (1 + act_arguments kind)
  add_line so_far (act_line (guest_count so_far) n kind words)

-- what line n adds that is an `await`
abbrev pub add_await_of : (n : ℕ) → Progress → List (List ℕ) → Result Progress FaultKind
add_await_of n so_far (guest ∷ addr ∷ value ∷ []) = add_line so_far (await_line (guest_count so_far) n guest addr value)
add_await_of n so_far words = Err OutOfPlace

abbrev pub add_await : (n : ℕ) → Progress → List (List ℕ) → Result Progress FaultKind
add_await n so_far words = do
  counted ← count_check (length words) await_arguments
  add_await_of n so_far words

-- what line n adds that is an `awaitreg`
abbrev pub add_await_register_of : (n : ℕ) → Progress → List (List ℕ) → Result Progress FaultKind
add_await_register_of n so_far (guest ∷ offset ∷ value ∷ []) =
    add_line so_far (await_register_line (guest_count so_far) n guest offset value)
add_await_register_of n so_far words = Err OutOfPlace

abbrev pub add_await_register : (n : ℕ) → Progress → List (List ℕ) → Result Progress FaultKind
add_await_register n so_far words = do
  counted ← count_check (length words) await_arguments
  add_await_register_of n so_far words

-- what line n with this keyword and these words after it adds
abbrev pub after_keyword : (n : ℕ) → Progress → Keyword → List (List ℕ) → Result Progress FaultKind
after_keyword n so_far (keyword.SetUp kind) words = do
  set_up ← counted_set_up so_far.set_up (is_early so_far.lines) kind words
  Ok (record so_far { set_up = set_up })
after_keyword n so_far (keyword.Event (event.Act kind)) words = add_act n so_far kind words
after_keyword n so_far (keyword.Event kind) words = foreign (event_arguments kind) words
after_keyword n so_far keyword.Await words = add_await n so_far words
after_keyword n so_far keyword.AwaitReg words = add_await_register n so_far words
after_keyword n so_far (keyword.Foreign arguments) words = foreign arguments words

-- what line n of these words adds
abbrev pub after_line : (n : ℕ) → Progress → List (List ℕ) → Result Progress FaultKind
after_line n so_far words = after_words keyword_of (after_keyword n so_far) so_far words

-- the script whose last line is line n: its set-up is whole
abbrev pub finished : ℕ → Progress → Result ScriptValue ScriptFault
finished n so_far = do
  sizes ← on_line n (ok_or (sizes_in so_far.set_up.sizes) OutOfPlace)
  Ok (record { sizes = sizes; guests = so_far.set_up.guests; lines = so_far.lines })

-- the script that a text is, or its first fault
unfoldable pub script_of : List ℕ → Result ScriptValue ScriptFault
script_of text = script_by after_line finished nothing text
