-- The fine trace: guests, the mediator's calls and the drive access the host's memory byte by byte, in any interleaving.
use Rattle.std.specs.Prelude.{ℕ, ◌+◌, Bool, ◌==◌, if◌then◌else◌, List, [], ◌∷◌, ◌++◌, drop, flat_map, length, map, slice_get, take, Option, Some, None, option_and_then, option_map}
use Rattle.std.specs.List.{enumerate_from}
use Rattle.nv_fine.specs.Drive.{DriveAccess, Outside, driven}
use Rattle.nv_laws_sound.specs.Side.{Side}
use Rattle.nv_machine.specs.Effects.{Copy, Effect, Store}
use Rattle.nv_machine.specs.Machine.{call, fetch, fetch_then}
use Rattle.nv_mem.specs.GuestMap.{host_of}
use Rattle.nv_model.specs.Memory.{stored}
use Rattle.nv_world_model.specs.Geometry.{Geometry, regions_of}
use Rattle.nv_world_model.specs.declared.event.Event.{Event}
use Rattle.nv_world_model.specs.declared.event.Event.TheVariants as event

-- ---- the state

-- a call of the mediator under way: its event, what it has fetched, and, once that is all, what it has left to do in memory (profile)
pub record Call : Type 0 where
  pub event : Event
  pub fetched : List ℕ
  pub left : Option (List Effect)

-- what is outside of the mediator, the mediator's side, and the call under way
pub record Fine : Type 0 where
  pub outside : Outside
  pub side : Side
  pub call : Option Call

abbrev pub with_memory : (memory : ℕ → ℕ) → Fine → Fine
with_memory memory f = record f { outside = record f.outside { memory = memory } }

-- ---- calls: one after another, each fetches, then does its effects, and then returns, by which its doorbells are written (profile)

-- the addresses that are fetched, as far as the bytes so far say
abbrev pub wanted : Geometry → Side → Event → (fetched : List ℕ) → List ℕ
wanted geometry s e fetched = (let first = fetch geometry e s in first ++ fetch_then geometry e s (take (length first) fetched))

-- they are fetched one by one, but the dword of a physical completion that has the phase tag at once (Base Specification 2.0, "Phase Tag")
abbrev pub at_once : Event → (fetched : List ℕ) → ℕ
at_once (event.Reap lane) [] = 4
at_once e fetched = 1

abbrev pub next_fetch : Geometry → Side → Event → (fetched : List ℕ) → List ℕ
next_fetch geometry s e fetched = take (at_once e fetched) (drop (length fetched) (wanted geometry s e fetched))

-- bytes are stored one by one, but the dword of a completion that has the phase tag at once (Base Specification 2.0, "Phase Tag")
abbrev pub parts_of : Effect → List Effect
parts_of (Store to bytes) = if length bytes == 4 then Store to bytes ∷ [] else map (λ b. Store (to + b.0) (b.1 ∷ [])) (enumerate_from 0 bytes)
parts_of (Copy from to) = Copy from to ∷ []

-- a call with what was fetched, where these addresses are fetched next
abbrev pub call_with : Geometry → Side → Event → (fetched next : List ℕ) → Call
call_with geometry s e fetched [] = record { event = e; fetched = fetched; left = Some (flat_map parts_of (call geometry e fetched s).now.effects) }
call_with geometry s e fetched (at ∷ more) = record { event = e; fetched = fetched; left = None }

abbrev pub fetching : Geometry → Event → (fetched : List ℕ) → Fine → Fine
fetching geometry e fetched f = record f { call = Some (call_with geometry f.side e fetched (next_fetch geometry f.side e fetched)) }

-- its next access, or its return; a byte that is copied is read, and stored by the access after that
abbrev pub went_on : Geometry → Call → (left : Option (List Effect)) → Fine → Fine
went_on geometry c None f = fetching geometry c.event (c.fetched ++ map f.outside.memory (next_fetch geometry f.side c.event c.fetched)) f
went_on geometry c (Some []) f = record f { side = (call geometry c.event c.fetched f.side).now.side; call = None }
went_on geometry c (Some (Copy from to ∷ left)) f = record f { call = Some (record c { left = Some (Store to (f.outside.memory from ∷ []) ∷ left) }) }
went_on geometry c (Some (Store to bytes ∷ left)) f =
    record (with_memory (stored f.outside.memory to bytes) f) { call = Some (record c { left = Some left }) }

abbrev pub begins : Geometry → Event → Option Call → Fine → Option Fine
begins geometry e None f = Some (fetching geometry e [] f)
begins geometry e (Some c) f = None

abbrev pub goes_on : Geometry → Option Call → Fine → Option Fine
goes_on geometry None f = None
goes_on geometry (Some c) f = Some (went_on geometry c c.left f)

-- ---- the accesses

pub data Access : Type 0 where
  -- a guest loads or stores any byte of its memory, at any time (profile)
  Loads : (number addr : ℕ) → Access
  Stores : (number addr byte : ℕ) → Access
  -- a call of the mediator begins, and the one under way goes on
  Begins : Event → Access
  GoesOn : Access
  Drives : DriveAccess → Access

abbrev pub guest_byte : Geometry → (number addr : ℕ) → Option ℕ
guest_byte geometry number addr = option_and_then (λ given. host_of (regions_of given) addr) (slice_get geometry.guests number)

-- what an access leads to, where it may happen; `zeroes` says whether deallocated blocks read zeros
unfoldable pub accessed : Geometry → (zeroes : Bool) → Access → Fine → Option Fine
accessed geometry zeroes (Loads number addr) f = option_map (λ at. f) (guest_byte geometry number addr)
accessed geometry zeroes (Stores number addr byte) f =
    option_map (λ at. with_memory (stored f.outside.memory at (byte ∷ [])) f) (guest_byte geometry number addr)
accessed geometry zeroes (Begins e) f = begins geometry e f.call f
accessed geometry zeroes GoesOn f = goes_on geometry f.call f
accessed geometry zeroes (Drives a) f = option_map (λ o. record f { outside = o }) (driven geometry zeroes f.side.tails a f.outside)

-- and what a trace leads to
unfoldable pub traced : Geometry → (zeroes : Bool) → List Access → Fine → Option Fine
traced geometry zeroes [] f = Some f
traced geometry zeroes (a ∷ accesses) f = option_and_then (traced geometry zeroes accesses) (accessed geometry zeroes a f)
