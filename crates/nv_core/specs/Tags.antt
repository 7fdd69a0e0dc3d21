-- A lane's tags as they are kept: whose each is and at which point its command is, and beside it what else is kept of the command (profile).
use Rattle.std.specs.Prelude.{◌≡◌, ℕ, ◌<◌, ◌≤◌, ◌==◌, if◌then◌else◌, List, [], ◌∷◌, length, slice_get, Option, Some, None, Bool, true, false}
use Rattle.std.specs.Bool.{⊤}
use Rattle.nv_core.specs.declared.progress.Progress.{Progress}
use Rattle.nv_core.specs.declared.progress.Progress.TheVariants as progress
use Rattle.nv_entry.specs.Status.{StatusField}
use Rattle.nv_model.specs.Transcript.{ReadDone}
use Rattle.nv_plan.specs.Made.{MadePlan, share_made}
use Rattle.nv_model.specs.declared.reply.Reply.{Reply}
use Rattle.nv_model.specs.declared.reply.Reply.TheVariants as reply
use Rattle.nv_tags.specs.Tags.{Slot, command_in, slot_at}
use Rattle.nv_tags.specs.declared.state.TagState.{TagState}
use Rattle.nv_tags.specs.declared.state.TagState.TheVariants as state
use Rattle.nv_tags.specs.Tags as slot
use Rattle.nv_world_model.specs.Area.{ring_size, tag_count}
use Rattle.nv_world_model.specs.Share.{Share}
use Rattle.nv_world_model.specs.World.{Command, Ended, Flying, Free, InDevice, Lane, Tag, Taken, tags_where}

-- the plan that is kept of a command, in the tag that it goes by, once it was handed on
abbrev pub plan_kept : Progress → Option MadePlan
plan_kept progress.Nothing = None
plan_kept (progress.Reading reads) = None
plan_kept (progress.Going plan) = Some plan
plan_kept (progress.Over plan) = Some plan
plan_kept (progress.Part part) = None
plan_kept (progress.PartOver part) = None

abbrev pub plan_in : Option Progress → Option MadePlan
plan_in None = None
plan_in (Some p) = plan_kept p

-- a part of it
abbrev pub part_in : (part : ℕ) → Option MadePlan → Option Share
part_in part None = None
part_in part (Some plan) = share_made part plan

-- a tag by whose it is, by what is kept of it, and by the plan that is kept of its command; nobody's, where a part is missing
abbrev pub taken_tag : Command → Progress → Tag
taken_tag command progress.Nothing = Free
taken_tag command (progress.Reading reads) = Taken command reads
taken_tag command (progress.Going plan) = Free
taken_tag command (progress.Over plan) = Free
taken_tag command (progress.Part part) = Free
taken_tag command (progress.PartOver part) = Free

-- of a part that was handed on it is not known where it is: of all places the one in the physical controller
abbrev pub flying_as : Command → Option Share → Tag
flying_as command None = Free
flying_as command (Some share) = Flying command share InDevice

abbrev pub flying_tag : Option MadePlan → Command → Progress → Tag
flying_tag led command progress.Nothing = Free
flying_tag led command (progress.Reading reads) = Free
flying_tag led command (progress.Going plan) = flying_as command (share_made 0 plan)
flying_tag led command (progress.Over plan) = Free
flying_tag led command (progress.Part part) = flying_as command (part_in part led)
flying_tag led command (progress.PartOver part) = Free

abbrev pub ended_as : Command → StatusField → Option Share → Tag
ended_as command st None = Free
ended_as command st (Some share) = Ended command st (Some share)

abbrev pub ended_tag : Option MadePlan → Command → StatusField → Progress → Tag
ended_tag led command st progress.Nothing = Ended command st None
ended_tag led command st (progress.Reading reads) = Free
ended_tag led command st (progress.Going plan) = Free
ended_tag led command st (progress.Over plan) = ended_as command st (share_made 0 plan)
ended_tag led command st (progress.Part part) = Free
ended_tag led command st (progress.PartOver part) = ended_as command st (part_in part led)

-- what is kept of all tags; of a tag, what is kept of it
abbrev pub tag_made : List Progress → Slot → Progress → Tag
tag_made kept slot.Free p = Free
tag_made kept (slot.Used command slot.Taken) p = taken_tag command p
tag_made kept (slot.Used command slot.Flying) p = flying_tag (plan_in (slice_get kept command.leader)) command p
tag_made kept (slot.Used command (slot.Ended st)) p = ended_tag (plan_in (slice_get kept command.leader)) command st p

-- nothing is kept
abbrev pub IsNothing : Progress → Type 0
IsNothing progress.Nothing = ⊤
IsNothing (progress.Reading reads) = ⊥
IsNothing (progress.Going plan) = ⊥
IsNothing (progress.Over plan) = ⊥
IsNothing (progress.Part part) = ⊥
IsNothing (progress.PartOver part) = ⊥

-- a tag has a command
abbrev pub HasCommand : Tag → Type 0
HasCommand Free = ⊥
HasCommand (Taken c reads) = ⊤
HasCommand (Flying c share at) = ⊤
HasCommand (Ended c st share) = ⊤

-- what is kept of a command goes with its point: a tag that is used is that of a command, and of a free one nothing is kept
abbrev pub IsUsed : List Progress → Slot → Progress → Type 0
IsUsed kept slot.Free p = IsNothing p
IsUsed kept (slot.Used command point) p = HasCommand (tag_made kept (slot.Used command point) p)

abbrev pub AreUsed : List Progress → List Slot → Type 0
AreUsed ps slots = (tag : ℕ) (s : Slot) (p : Progress) → slice_get slots tag ≡ Some s → slice_get ps tag ≡ Some p → IsUsed ps s p

-- a command goes by the lowest of its tags, which has the same command
pub record IsLed (slots : List Slot) (tag : ℕ) (command : Command) : Type 0 where
  pub low : command.leader ≤ tag
  pub same : command_in (slot_at slots command.leader) ≡ Some command

abbrev pub AreLed : List Slot → Type 0
AreLed slots = (tag : ℕ) (command : Command) → command_in (slot_at slots tag) ≡ Some command → IsLed slots tag command

-- the tags of a lane
unfoldable pub tags_by : (kept : List Progress) → List Slot → List Progress → List Tag
tags_by kept [] ps = []
tags_by kept (s ∷ slots) [] = []
tags_by kept (s ∷ slots) (p ∷ ps) = tag_made kept s p ∷ tags_by kept slots ps

abbrev pub tags_of : List Slot → List Progress → List Tag
tags_of slots ps = tags_by ps slots ps

-- a lane's parts fit
pub record IsWhole (head : ℕ) (slots : List Slot) (ps : List Progress) : Type 0 where
  pub head_is : head < ring_size
  pub slots_are : length slots ≡ tag_count
  pub progress_is : length ps ≡ tag_count
  pub used : AreUsed ps slots
  pub led : AreLed slots

-- ---- as callers name them

-- the point at which a tag is
abbrev pub state_of : Tag → TagState
state_of Free = state.Free
state_of (Taken command reads) = state.Taken
state_of (Flying command share at) = state.Flying
state_of (Ended command st share) = state.Ended st

abbrev pub state_in : Option Tag → Option TagState
state_in None = None
state_in (Some t) = Some (state_of t)

-- whether a tag's part is with the physical controller
abbrev pub is_flying : Option Tag → Bool
is_flying None = false
is_flying (Some Free) = false
is_flying (Some (Taken command reads)) = false
is_flying (Some (Flying command share at)) = true
is_flying (Some (Ended command st share)) = false

-- whether a tag's command was taken, and no more; whether its part has ended
abbrev pub is_taken : Tag → Bool
is_taken Free = false
is_taken (Taken command reads) = true
is_taken (Flying command share at) = false
is_taken (Ended command st share) = false

abbrev pub is_ended : Tag → Bool
is_ended Free = false
is_ended (Taken command reads) = false
is_ended (Flying command share at) = false
is_ended (Ended command st share) = true

-- the tags of a lane of which a test holds, in order; none where there is no such lane
abbrev pub those_in : (Tag → Bool) → Option Lane → List ℕ
those_in test None = []
those_in test (Some l) = tags_where test l.tags

abbrev pub taken_in : Option Lane → List ℕ
taken_in o = those_in is_taken o

abbrev pub flying_in : Option Lane → List ℕ
flying_in o = those_in (λ t. is_flying (Some t)) o

abbrev pub ended_in : Option Lane → List ℕ
ended_in o = those_in is_ended o

-- the command of a tag
abbrev pub command_at : Option Tag → Option Command
command_at None = None
command_at (Some Free) = None
command_at (Some (Taken command reads)) = Some command
command_at (Some (Flying command share at)) = Some command
command_at (Some (Ended command st share)) = Some command

-- what is answered where an event wants a command that was taken, by the tag that it goes by
abbrev pub unled : (tag : ℕ) → Command → Option Reply
unled tag command = if command.leader == tag then None else Some reply.Stale

abbrev pub untaken : (tag : ℕ) → Option Tag → Option Reply
untaken tag None = Some reply.Ignored
untaken tag (Some Free) = Some reply.Stale
untaken tag (Some (Taken command reads)) = unled tag command
untaken tag (Some (Flying command share at)) = Some reply.Stale
untaken tag (Some (Ended command st share)) = Some reply.Stale

-- what is answered where an event wants a command whose first part has ended, by the tag that it goes by
abbrev pub unended : (tag : ℕ) → Option Tag → Option Reply
unended tag None = Some reply.Ignored
unended tag (Some Free) = Some reply.Stale
unended tag (Some (Taken command reads)) = Some reply.Stale
unended tag (Some (Flying command share at)) = Some reply.Stale
unended tag (Some (Ended command st share)) = unled tag command

-- a command that was taken, by the tag that it goes by
pub record IsTaken (tag : ℕ) (t : Option Tag) : Type 0 where
  pub command : Command
  pub reads : List ReadDone
  pub is : t ≡ Some (Taken command reads)
  pub led : command.leader ≡ tag

-- what is kept of a command is the reads of its lists
abbrev pub IsReading : Progress → Type 0
IsReading progress.Nothing = ⊥
IsReading (progress.Reading reads) = ⊤
IsReading (progress.Going plan) = ⊥
IsReading (progress.Over plan) = ⊥
IsReading (progress.Part part) = ⊥
IsReading (progress.PartOver part) = ⊥
