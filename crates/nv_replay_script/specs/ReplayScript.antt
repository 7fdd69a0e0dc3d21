-- A whole script of `replay`: the set-up first, then its events; the first faulty line decides (profile)
use Rattle.std.specs.Prelude.{ℕ, List, [], ◌∷◌, ◌++◌, map, length, Result, Ok, Bool, true, false}
use Rattle.std.specs.Option.{ok_or}
use Rattle.nv_world_model.specs.declared.event.Event.{Event}
use Rattle.nv_once_script.specs.declared.once.fault.FaultKind.{FaultKind}
use Rattle.nv_once_script.specs.declared.once.fault.FaultKind.TheVariants.{OutOfPlace}
use Rattle.nv_once_script.specs.declared.once.fault.ScriptFault.{ScriptFault}
use Rattle.nv_once_script.specs.OnceFault.{◌>>=◌}
use Rattle.nv_once_script.specs.OnceFold.{after_words, on_line, script_by}
use Rattle.nv_once_script.specs.OnceVocabulary.{count_check}
use Rattle.nv_replay_script.specs.declared.reading.Reading.{Reading}
use Rattle.nv_replay_script.specs.declared.script.Script.{Script}
use Rattle.nv_replay_script.specs.declared.sizes.Sizes.{Sizes}
use Rattle.nv_replay_script.specs.declared.vocabulary.EventKind.{EventKind}
use Rattle.nv_replay_script.specs.declared.vocabulary.Keyword.{Keyword}
use Rattle.nv_replay_script.specs.declared.vocabulary.Keyword.TheVariants as keyword
use Rattle.nv_replay_script.specs.ReplayEvents.{event_of}
use Rattle.nv_replay_script.specs.ReplaySetUp.{GuestValue, SetUpSoFar, counted_set_up, guest_value, no_set_up, set_up_so_far, sizes_in}
use Rattle.nv_replay_script.specs.ReplayVocabulary.{await_arguments, event_arguments, foreign, keyword_of}

-- a script: the sizes and guests of its set-up, and its events in the order written
pub record ScriptValue : Type 0 where
  pub sizes : Sizes
  pub guests : List GuestValue
  pub events : List Event

-- the value of a script that was read
abbrev pub script_value : Script → ScriptValue
script_value script =
    record { sizes = script.sizes; guests = map guest_value script.guests.items; events = script.events.items }

-- what the lines so far have said
pub record Progress : Type 0 where
  pub set_up : SetUpSoFar
  pub events : List Event

abbrev pub progress : Reading → Progress
progress reading = record { set_up = set_up_so_far reading.set_up; events = reading.events.items }

-- before the first line
abbrev pub nothing : Progress
nothing = record { set_up = no_set_up; events = [] }

-- whether no event has come: set-up lines come before all others
abbrev pub is_early : List Event → Bool
is_early [] = true
is_early (event ∷ events) = false

-- what a line of an event adds: the sizes are there by then
abbrev pub add_event : Progress → EventKind → List (List ℕ) → Result Progress FaultKind
add_event so_far kind words = do
  counted ← count_check (length words) (event_arguments kind)
  sizes ← ok_or (sizes_in so_far.set_up.sizes) OutOfPlace
  event ← event_of kind words
  Ok (record so_far { events = so_far.events ++ event ∷ [] })

-- what a line with this keyword and these words after it adds
abbrev pub after_keyword : Progress → Keyword → List (List ℕ) → Result Progress FaultKind
after_keyword so_far (keyword.SetUp kind) words = do
  set_up ← counted_set_up so_far.set_up (is_early so_far.events) kind words
  Ok (record so_far { set_up = set_up })
after_keyword so_far (keyword.Event kind) words = add_event so_far kind words
after_keyword so_far keyword.Await words = foreign await_arguments words
after_keyword so_far keyword.AwaitReg words = foreign await_arguments words
after_keyword so_far (keyword.Foreign arguments) words = foreign arguments words

-- what a line of these words adds, whichever its number
abbrev pub after_line : (n : ℕ) → Progress → List (List ℕ) → Result Progress FaultKind
after_line n so_far words = after_words keyword_of (after_keyword so_far) so_far words

-- the script whose last line is line n: its set-up is whole
abbrev pub finished : ℕ → Progress → Result ScriptValue ScriptFault
finished n so_far = do
  sizes ← on_line n (ok_or (sizes_in so_far.set_up.sizes) OutOfPlace)
  Ok (record { sizes = sizes; guests = so_far.set_up.guests; events = so_far.events })

-- the script that a text is, or its first fault
unfoldable pub script_of : List ℕ → Result ScriptValue ScriptFault
script_of text = script_by after_line finished nothing text
