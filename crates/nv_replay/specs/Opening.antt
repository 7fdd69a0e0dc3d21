-- The world that a script's text opens: each guest's map in their order, then the set-up (profile)
use Rattle.std.specs.Prelude.{◌≡◌, ℕ, ◌+◌, ◌⊎◌, min, List, [], ◌∷◌, map, Option, Some, None, Result, Ok, Err}
use Rattle.std.specs.Result.{result_map_both}
use Rattle.nv_mem.specs.MapRefusal.{refusal_of as map_refusal_of}
use Rattle.nv_mem.specs.declared.map_error.MapError.{MapError}
use Rattle.nv_ns.specs.BlockRange.{Extent}
use Rattle.nv_replay_script.specs.declared.set_up.ExtentLine.{ExtentLine}
use Rattle.nv_replay_script.specs.ReplayScript.{ScriptValue, script_of}
use Rattle.nv_replay_script.specs.ReplaySetUp.{GuestValue}
use Rattle.nv_replay_script.specs.declared.sizes.Sizes.{Sizes}
use Rattle.nv_once_script.specs.OnceFault.{◌>>=◌}
use Rattle.nv_world_model.specs.Geometry.{Guest}
use Rattle.nv_world_model.specs.SetUp.{Refusal, SetUp, refusal_of}
use Rattle.nv_world_model.specs.SetUp as model
use Rattle.nv_world_model.specs.declared.event.Event.{Event}
use Rattle.nv_replay.specs.declared.fault.ReplayFault.{ReplayFault}
use Rattle.nv_replay.specs.declared.fault.ReplayFault.TheVariants.{NoMemory, Refused}
use Rattle.nv_replay.specs.declared.refusal.SetUpRefusal.{SetUpRefusal}
use Rattle.nv_replay.specs.declared.refusal.SetUpRefusal.TheVariants.{Map, TooManyGuests, ExtentsMeet, MapsMeet, BadSize}
use Rattle.nv_replay.specs.Refused.{of_script}

-- the most descriptors of a guest's list where no line names them
abbrev pub usual_limit : ℕ
usual_limit = 1024

-- the most descriptors of a guest's list: a number that a line names is kept in 32 bits, and a larger one, which is no limit that may be,
-- as the largest of these
abbrev pub limit_of : Option ℕ → ℕ
limit_of None = usual_limit
limit_of (Some n) = min n 4294967295

-- ---- the guests

-- the extent that a line writes
abbrev pub extent_written : ExtentLine → Extent
extent_written written = record { base = written.base; blocks = written.blocks }

-- what a guest of a script is given in a host of so many bytes: the extents that its lines write, in their order
abbrev pub given : (host : ℕ) → GuestValue → Guest
given host guest =
    record {
      memory_map = record { host_len = host; regions = guest.regions };
      namespace = map extent_written guest.extents;
      limit = limit_of guest.limit;
    }

-- guest number n, unless its map is refused
abbrev pub unless_refused : (n : ℕ) → Option MapError → Guest → Result Guest SetUpRefusal
unless_refused n None guest = Ok guest
unless_refused n (Some error) guest = Err (Map n error)

abbrev pub mapped_guest : (host n : ℕ) → GuestValue → Result Guest SetUpRefusal
mapped_guest host n guest = unless_refused n (map_refusal_of host guest.regions) (given host guest)

-- the guests from number n on: the first whose map is refused decides
unfoldable pub guests_from : (host n : ℕ) → List GuestValue → Result (List Guest) SetUpRefusal
guests_from host n [] = Ok []
guests_from host n (guest ∷ guests) = do
  first ← mapped_guest host n guest
  rest ← guests_from host (n + 1) guests
  Ok (first ∷ rest)

-- ---- the set-up

-- the set-up of these sizes and guests
abbrev pub set_up_with : Sizes → List Guest → SetUp
set_up_with sizes guests =
    record {
      host_bytes = sizes.host;
      lanes = sizes.lanes;
      geometry = record { mediator = sizes.mediator; disk_blocks = sizes.disk; guests = guests };
    }

abbrev pub refusal_as : Refusal → SetUpRefusal
refusal_as model.TooManyGuests = TooManyGuests
refusal_as model.ExtentsMeet = ExtentsMeet
refusal_as model.MapsMeet = MapsMeet
refusal_as model.BadSize = BadSize

-- ---- the whole

-- what is to be run: a set-up, and events in the order written
pub record ReplayValue : Type 0 where
  pub set_up : SetUp
  pub events : List Event

-- a set-up, unless it is refused so
abbrev pub accepted_by : Option Refusal → SetUp → Result SetUp ReplayFault
accepted_by None set_up = Ok set_up
accepted_by (Some refusal) set_up = Err (Refused (refusal_as refusal))

-- a set-up, unless it is refused
abbrev pub accepted : SetUp → Result SetUp ReplayFault
accepted set_up = accepted_by (refusal_of set_up) set_up

-- the set-up that a script's sizes and guests come to
unfoldable pub set_up_of : Sizes → List GuestValue → Result SetUp ReplayFault
set_up_of sizes guests = do
  mapped ← result_map_both (λ g. g) (λ r. Refused r) (guests_from sizes.host 0 guests)
  accepted (set_up_with sizes mapped)

-- what a script comes to
unfoldable pub opened_by : ScriptValue → Result ReplayValue ReplayFault
opened_by script = do
  set_up ← set_up_of script.sizes script.guests
  Ok (record { set_up = set_up; events = script.events })

-- what a text comes to
unfoldable pub replay_of : List ℕ → Result ReplayValue ReplayFault
replay_of text = do
  script ← result_map_both (λ s. s) of_script (script_of text)
  opened_by script

-- a fault is the definition's, or one for out of memory, which no definition mentions
abbrev pub IsFaultOf : {A : Type 0} → Result A ReplayFault → ReplayFault → Type 0
IsFaultOf answer fault = (fault ≡ NoMemory) ⊎ (answer ≡ Err fault)

-- the same of what only a set-up can refuse
abbrev pub IsRefusalOf : {A : Type 0} → Result A SetUpRefusal → ReplayFault → Type 0
IsRefusalOf answer fault = (fault ≡ NoMemory) ⊎ (result_map_both (λ a. a) (λ r. Refused r) answer ≡ Err fault)
