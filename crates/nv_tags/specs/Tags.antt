-- The tags of a lane, which are the physical command identifiers, too: whose each is, and where its command is
-- (profile; identifiers: Base Specification 2.0, "Submission Queue Entry", CID).
use Rattle.std.specs.Prelude.{◌≡◌, ℕ, Bool, true, false, ◌==◌, nat_le, if◌then◌else◌, List, [], ◌∷◌, length, map, slice_get, slice_set, take}
use Rattle.std.specs.Prelude.{Option, Some, None}
use Rattle.std.specs.List.{filter, position, range_with_len}
use Rattle.nv_entry.specs.Status.{StatusField}
use Rattle.nv_world_model.specs.Area.{tag_count}
use Rattle.nv_world_model.specs.World.{Command}
use Rattle.nv_tags.specs.declared.claim.Claim.{Claim}
use Rattle.nv_tags.specs.declared.state.TagState.{TagState}
use Rattle.nv_tags.specs.declared.state.TagState.TheVariants as state

-- the point at which a command with a tag is
pub data Point : Type 0 where
  Taken : Point
  Flying : Point
  Ended : StatusField → Point

-- a tag: nobody's, or a command's, which is at this point
pub data Slot : Type 0 where
  Free : Slot
  Used : Command → Point → Slot

-- whether a tag is nobody's
abbrev pub is_free : Slot → Bool
is_free Free = true
is_free (Used command point) = false

-- whether its command was taken, and no more
abbrev pub is_taken : Slot → Bool
is_taken Free = false
is_taken (Used command Taken) = true
is_taken (Used command Flying) = false
is_taken (Used command (Ended st)) = false

-- whether its command was handed to the physical controller, and has not ended
abbrev pub is_flying : Slot → Bool
is_flying Free = false
is_flying (Used command Taken) = false
is_flying (Used command Flying) = true
is_flying (Used command (Ended st)) = false

-- whether its command has ended
abbrev pub is_ended : Slot → Bool
is_ended Free = false
is_ended (Used command Taken) = false
is_ended (Used command Flying) = false
is_ended (Used command (Ended st)) = true

-- whether a tag is one of a command of that guest
abbrev pub is_of : (guest : ℕ) → Slot → Bool
is_of guest Free = false
is_of guest (Used command point) = command.guest == guest

-- the lowest free tag
abbrev pub free_slot : List Slot → Option ℕ
free_slot slots = position is_free slots

-- ---- as callers name them

-- the command of a claim, which goes by that tag
abbrev pub command_of : Claim → (leader : ℕ) → Command
command_of claim leader = record { guest = claim.guest; queue = claim.queue; entry = claim.entry; leader = leader }

-- a tag by its state and its claim
abbrev pub slot_of : TagState → Command → Slot
slot_of state.Free command = Free
slot_of state.Taken command = Used command Taken
slot_of state.Flying command = Used command Flying
slot_of (state.Ended st) command = Used command (Ended st)

-- the tag of a number; a number that no tag has is nobody's
abbrev pub slot_or_free : Option Slot → Slot
slot_or_free None = Free
slot_or_free (Some slot) = slot

abbrev pub slot_at : List Slot → (tag : ℕ) → Slot
slot_at slots tag = slot_or_free (slice_get slots tag)

-- the state of a tag
abbrev pub state_of : Slot → TagState
state_of Free = state.Free
state_of (Used command Taken) = state.Taken
state_of (Used command Flying) = state.Flying
state_of (Used command (Ended st)) = state.Ended st

abbrev pub state_at : List Slot → (tag : ℕ) → TagState
state_at slots tag = state_of (slot_at slots tag)

-- the command of a tag
abbrev pub command_in : Slot → Option Command
command_in Free = None
command_in (Used command point) = Some command

-- a tag whose command is at another point now
abbrev pub moved_to : Point → Slot → Slot
moved_to point Free = Free
moved_to point (Used command before) = Used command point

-- tags of which this one's command is at another point now
abbrev pub with_point : Point → (tag : ℕ) → List Slot → List Slot
with_point point tag slots = slice_set slots tag (moved_to point (slot_at slots tag))

-- whether a state is that of a tag that is nobody's
abbrev pub is_free_state : TagState → Bool
is_free_state state.Free = true
is_free_state state.Taken = false
is_free_state state.Flying = false
is_free_state (state.Ended st) = false

-- the status that a tag's command has ended with
abbrev pub ended_with : TagState → Option StatusField
ended_with state.Free = None
ended_with state.Taken = None
ended_with state.Flying = None
ended_with (state.Ended st) = Some st

-- ---- several tags of one command

-- the tags of whose slots a test holds, in order
unfoldable pub tags_where : (Slot → Bool) → List Slot → List ℕ
tags_where test slots = filter (λ tag. test (slot_at slots tag)) (range_with_len 0 (length slots))

-- all free tags
abbrev pub free_slots : List Slot → List ℕ
free_slots slots = tags_where is_free slots

-- the lowest `count` of these, or none where there are fewer
abbrev pub lowest : (count : ℕ) → (tags : List ℕ) → Option (List ℕ)
lowest count tags = if nat_le count (length tags) then Some (take count tags) else None

-- the `count` lowest free tags
abbrev pub claimed : (count : ℕ) → List Slot → Option (List ℕ)
claimed count slots = lowest count (free_slots slots)

-- the first of these tags
abbrev pub leader_in : Option (List ℕ) → Option ℕ
leader_in None = None
leader_in (Some []) = None
leader_in (Some (tag ∷ tags)) = Some tag

-- a list with that value at each of these places
abbrev pub set_each : {X : Type 0} → (places : List ℕ) → X → List X → List X
set_each [] x xs = xs
set_each (at ∷ places) x xs = set_each places x (slice_set xs at x)

-- slots of which these tags are a command's that was taken
abbrev pub taken_by : Command → (tags : List ℕ) → List Slot → List Slot
taken_by command tags slots = set_each tags (Used command Taken) slots

-- whether a tag is one of a command that goes by this tag
abbrev pub goes_by : (leader : ℕ) → Slot → Bool
goes_by leader Free = false
goes_by leader (Used command point) = command.leader == leader

-- a group: the tags of a lane whose command goes by that tag, in order
abbrev pub group : (leader : ℕ) → List Slot → List ℕ
group leader slots = tags_where (goes_by leader) slots

-- a tag is one that its own command goes by
abbrev pub Leads : (tag : ℕ) → List Slot → Type 0
Leads tag slots = goes_by tag (slot_at slots tag) ≡ true

-- the tag that a tag's command goes by; 64, which is no tag, where the tag is nobody's
abbrev pub leader_of : Slot → ℕ
leader_of Free = tag_count
leader_of (Used command point) = command.leader

-- a tag that is free now if it was of that group
abbrev pub freed : (leader : ℕ) → Slot → Slot
freed leader slot = if goes_by leader slot then Free else slot

-- all of a group are free at once
abbrev pub released : (leader : ℕ) → List Slot → List Slot
released leader slots = map (freed leader) slots
