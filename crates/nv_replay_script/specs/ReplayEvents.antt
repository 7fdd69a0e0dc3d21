-- One event, as a line writes it (profile)
use Rattle.std.specs.Prelude.{ℕ, ◌==◌, List, [], ◌∷◌, ◌++◌, length, replicate, Result, Ok, Err}
use Rattle.nv_entry.specs.Status.{StatusField, status}
use Rattle.nv_model.specs.declared.act.Act.{Act}
use Rattle.nv_model.specs.declared.act.Act.TheVariants as act
use Rattle.nv_world_model.specs.declared.event.Event.{Event}
use Rattle.nv_world_model.specs.declared.event.Event.TheVariants as event
use Rattle.nv_once_script.specs.declared.once.fault.FaultKind.{FaultKind}
use Rattle.nv_once_script.specs.declared.once.fault.FaultKind.TheVariants.{OutOfPlace}
use Rattle.nv_once_script.specs.OnceFault.{◌>>=◌}
use Rattle.nv_once_script.specs.OnceLimits.{longest_fill}
use Rattle.nv_once_script.specs.OnceNumber.{bytes_of, number_of, number_up_to}
use Rattle.nv_once_script.specs.OnceVocabulary.{count_check}
use Rattle.nv_replay_script.specs.declared.vocabulary.ActKind.{ActKind}
use Rattle.nv_replay_script.specs.declared.vocabulary.ActKind.TheVariants as act_kind
use Rattle.nv_replay_script.specs.declared.vocabulary.EventKind.{EventKind}
use Rattle.nv_replay_script.specs.declared.vocabulary.EventKind.TheVariants as kind
use Rattle.nv_replay_script.specs.ReplayVocabulary.{event_arguments}

-- numbers of 8, 16 and 32 bits
abbrev pub byte_of : List ℕ → Result ℕ FaultKind
byte_of word = number_up_to 255 word

abbrev pub word_of : List ℕ → Result ℕ FaultKind
word_of word = number_up_to 65535 word

abbrev pub dword_of : List ℕ → Result ℕ FaultKind
dword_of word = number_up_to 4294967295 word

-- a status: its type has 3 bits, its code 8, and the last bit is that it should not be tried again
abbrev pub status_of : (sct sc dnr : List ℕ) → Result StatusField FaultKind
status_of sct sc dnr = do
  t ← number_up_to 7 sct
  c ← byte_of sc
  d ← number_up_to 1 dnr
  Ok (status t c (d == 1))

-- the act that a kind of guest line and the words after its guest make
abbrev pub act_of : ActKind → List (List ℕ) → Result Act FaultKind
act_of act_kind.Store (addr ∷ digits ∷ []) = do
  a ← number_of addr
  bytes ← bytes_of digits
  Ok (act.Store a bytes)
act_of act_kind.Fill (addr ∷ len ∷ byte ∷ []) = do
  a ← number_of addr
  n ← number_up_to longest_fill len
  b ← byte_of byte
  Ok (act.Store a (replicate n b))
act_of act_kind.Load (addr ∷ len ∷ []) = do
  a ← number_of addr
  n ← number_of len
  Ok (act.Load a n)
act_of act_kind.RegRead (offset ∷ []) = do
  o ← dword_of offset
  Ok (act.RegRead o)
act_of act_kind.RegWrite (offset ∷ value ∷ []) = do
  o ← dword_of offset
  v ← dword_of value
  Ok (act.RegWrite o v)
act_of act_kind.Bell (offset ∷ value ∷ []) = do
  o ← dword_of offset
  v ← dword_of value
  Ok (act.Doorbell o v)
act_of kind words = Err OutOfPlace

-- the event that a kind of line and the words after its first make
abbrev pub event_of : EventKind → List (List ℕ) → Result Event FaultKind
event_of (kind.Act act) (guest ∷ words) = do
  g ← byte_of guest
  a ← act_of act words
  Ok (event.Guest g a)
event_of kind.Admin (guest ∷ []) = do
  g ← byte_of guest
  Ok (event.Admin g)
event_of kind.Take (guest ∷ queue ∷ lane ∷ []) = do
  g ← byte_of guest
  q ← word_of queue
  l ← byte_of lane
  Ok (event.Take g q l)
event_of kind.List (lane ∷ tag ∷ addr ∷ len ∷ []) = do
  l ← byte_of lane
  t ← byte_of tag
  a ← number_of addr
  n ← number_of len
  Ok (event.List l t a n)
event_of kind.Submit (lane ∷ tag ∷ []) = do
  l ← byte_of lane
  t ← byte_of tag
  Ok (event.Submit l t)
event_of kind.GiveUp (lane ∷ tag ∷ []) = do
  l ← byte_of lane
  t ← byte_of tag
  Ok (event.GiveUp l t)
event_of kind.DevTake (lane ∷ []) = do
  l ← byte_of lane
  Ok (event.DevTake l)
event_of kind.DevMove (lane ∷ slot ∷ unit ∷ []) = do
  l ← byte_of lane
  s ← byte_of slot
  k ← number_of unit
  Ok (event.DevMove l s k)
event_of kind.DevPost (lane ∷ slot ∷ []) = do
  l ← byte_of lane
  s ← byte_of slot
  Ok (event.DevPost l s)
event_of kind.DevFail (lane ∷ slot ∷ sct ∷ sc ∷ dnr ∷ []) = do
  l ← byte_of lane
  s ← byte_of slot
  failed ← status_of sct sc dnr
  Ok (event.DevFail l s failed)
event_of kind.Keep (block ∷ []) = do
  b ← number_of block
  Ok (event.Keep b)
event_of kind.Reap (lane ∷ []) = do
  l ← byte_of lane
  Ok (event.Reap l)
event_of kind.Post (lane ∷ tag ∷ []) = do
  l ← byte_of lane
  t ← byte_of tag
  Ok (event.Post l t)
event_of kind words = Err OutOfPlace

-- the same, of words that are as many as that kind wants
abbrev pub counted_event : EventKind → List (List ℕ) → Result Event FaultKind
counted_event kind words = do
  counted ← count_check (length words) (event_arguments kind)
  event_of kind words

-- the events with this one after them
abbrev pub event_added : Result Event FaultKind → (before : List Event) → Result (List Event) FaultKind
event_added event before = event >>= λ e. Ok (before ++ e ∷ [])
