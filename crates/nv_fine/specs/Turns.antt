-- The accesses of the mediator's calls alone, whatever all others do between them; and what an access of a call touches (profile).
use Rattle.std.specs.Prelude.{◌≡◌, ℕ, List, [], ◌∷◌, All, Option, Some, None, option_and_then}
use Rattle.nv_fine.specs.Drive.{Outside}
use Rattle.nv_fine.specs.Fine.{Call, Fine, begins, goes_on, next_fetch, went_on, with_memory}
use Rattle.nv_laws_sound.specs.Side.{Side, opening_side}
use Rattle.nv_machine.specs.Contained.{IsOwnOrNext, LeavesOthers, MayFetch, guest_for}
use Rattle.nv_machine.specs.Effects.{Copy, Effect, Store}
use Rattle.nv_machine.specs.Machine.{call}
use Rattle.nv_world_model.specs.Geometry.{Geometry}
use Rattle.nv_world_model.specs.SetUp.{SetUp}
use Rattle.nv_world_model.specs.declared.event.Event.{Event}

-- ---- turns

-- a call begins, or goes on; or all others have made of what is outside whatever they like: memory, blocks, and what the drive holds
pub data Turn : Type 0 where
  Opens : Event → Turn
  Continues : Turn
  Others : Outside → Turn

unfoldable pub turned : Geometry → List Turn → Fine → Option Fine
turned geometry [] f = Some f
turned geometry (Opens e ∷ turns) f = option_and_then (turned geometry turns) (begins geometry e f.call f)
turned geometry (Continues ∷ turns) f = option_and_then (turned geometry turns) (goes_on geometry f.call f)
turned geometry (Others o ∷ turns) f = turned geometry turns (record f { outside = o })

-- the start of a set-up, with anything outside
abbrev pub start_of : SetUp → Outside → Fine
start_of s o = record { outside = o; side = opening_side s.geometry s.lanes; call = None }

-- ---- the next access of a call

-- the addresses that it reads
abbrev pub read_next : Geometry → Side → Call → (left : Option (List Effect)) → List ℕ
read_next geometry s c None = next_fetch geometry s c.event c.fetched
read_next geometry s c (Some []) = []
read_next geometry s c (Some (Copy from to ∷ left)) = from ∷ []
read_next geometry s c (Some (Store to bytes ∷ left)) = []

-- an address that it may touch: one that such a call may fetch; or the memory of the guest that it is for, that guest's tags' pages, or next slots of the rings
pub data MayTouch (geometry : Geometry) (s : Side) (c : Call) (at : ℕ) : Type 0 where
  ToFetch : MayFetch geometry c.event s (guest_for c.event c.fetched s) at → MayTouch geometry s c at
  ToDo : (number : ℕ) → guest_for c.event c.fetched s ≡ Some number → IsOwnOrNext geometry s (call geometry c.event c.fetched s).now.side number at
      → MayTouch geometry s c at

-- it leaves all others alone
pub record StaysWithin (geometry : Geometry) (f : Fine) (c : Call) : Type 0 where
  -- what it reads, it may touch; and nothing else that is in memory is of any effect on it
  pub reads : All (MayTouch geometry f.side c) (read_next geometry f.side c c.left)
  pub same : (memory : ℕ → ℕ) → All (λ at. f.outside.memory at ≡ memory at) (read_next geometry f.side c c.left)
      → (went_on geometry c c.left f).call ≡ (went_on geometry c c.left (with_memory memory f)).call
  -- a byte that it may not touch is as before, and so are blocks, marks and what the drive holds
  pub bytes : (at : ℕ) → (MayTouch geometry f.side c at → ⊥) → (went_on geometry c c.left f).outside.memory at ≡ f.outside.memory at
  pub outside : (went_on geometry c c.left f).outside ≡ record f.outside { memory = (went_on geometry c c.left f).outside.memory }
  -- and so is what is others' in the mediator's side
  pub side : LeavesOthers (guest_for c.event c.fetched f.side) f.side (went_on geometry c c.left f).side
