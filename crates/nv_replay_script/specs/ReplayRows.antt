-- Worked examples: a set-up of two guests, and lines after it
use Rattle.std.specs.Prelude.{ℕ, List, [], ◌∷◌, ◌++◌, codes, Some, None, Result}
use Rattle.nv_world_model.specs.declared.event.Event.{Event}
use Rattle.nv_once_script.specs.declared.once.fault.ScriptFault.{ScriptFault}
use Rattle.nv_replay_script.specs.declared.set_up.ExtentLine.{ExtentLine}
use Rattle.nv_replay_script.specs.ReplayScript.{ScriptValue, script_of}
use Rattle.nv_replay_script.specs.ReplaySetUp.{GuestValue}

-- lines, each ended by a line feed
abbrev pub text_of : List (List ℕ) → List ℕ
text_of [] = []
text_of (line ∷ lines) = line ++ 10 ∷ text_of lines

-- the sizes
abbrev pub size_lines : List (List ℕ)
size_lines = codes "host 0x1000000" ∷ codes "mediator 0x400000" ∷ codes "disk 4096" ∷ codes "lanes 1" ∷ []

-- the guests, and a region of each
abbrev pub guest_lines : List (List ℕ)
guest_lines =
    codes "guest 0 range 1000 64 heap 65536" ∷ codes "guest 1 range 2000 64 heap 65536"
    ∷ codes "map 0 0x0 0x100000 0x20000" ∷ codes "map 1 0x0 0x200000 0x20000" ∷ []

-- what these lines are after the sizes
abbrev pub behind_sizes : List (List ℕ) → Result ScriptValue ScriptFault
behind_sizes lines = script_of (text_of (size_lines ++ lines))

-- what these lines are after the whole set-up
abbrev pub behind_set_up : List (List ℕ) → Result ScriptValue ScriptFault
behind_set_up lines = behind_sizes (guest_lines ++ lines)

-- a guest with 20000h bytes of memory, which lie there in the host, and 64 blocks from this one on
abbrev pub guest_at : (host base : ℕ) → GuestValue
guest_at host base =
    record {
      extents = record { base = base; blocks = 64 } ∷ [];
      heap = 65536;
      limit = None;
      regions = record { guest = 0; host = host; len = 0x20000 } ∷ [];
    }

-- the same guest, with these extents after its first
abbrev pub extended_by : List ExtentLine → GuestValue → GuestValue
extended_by extents guest = record guest { extents = guest.extents ++ extents }

-- the same guest, of whose lists a line named the most descriptors
abbrev pub limited_to : ℕ → GuestValue → GuestValue
limited_to limit guest = record guest { limit = Some limit }

-- a script of the sizes with these guests and events
abbrev pub sized : List GuestValue → List Event → ScriptValue
sized guests events =
    record { sizes = record { host = 0x1000000; mediator = 0x400000; disk = 4096; lanes = 1 }; guests = guests; events = events }

-- a script of the whole set-up with these events
abbrev pub of_events : List Event → ScriptValue
of_events events = sized (guest_at 0x100000 1000 ∷ guest_at 0x200000 2000 ∷ []) events
