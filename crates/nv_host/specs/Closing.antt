-- What closing a lane comes to: by logs of events, and, whatever is in memory, by the lane's tags and by bytes (profile).
use Rattle.std.specs.Prelude.{◌≡◌, ◌≢◌, ◌⊎◌, ◌++◌, ℕ, zero, suc, false, ◌<◌, ◌≤◌, ◌==◌, if◌then◌else◌, All, List, length, None, Some, option_map, slice_get}
use Rattle.nv_core.specs.Front.{IsReaped}
use Rattle.nv_laws_sound.specs.Side.{Side}
use Rattle.nv_core.specs.Jobs.{job_in}
use Rattle.nv_core.specs.Reaping.{answer_of}
use Rattle.nv_core.specs.Tags.{is_flying}
use Rattle.nv_entry.specs.StatusCode.{done_with}
use Rattle.nv_entry.specs.declared.status_code.StatusCode.TheVariants.{InternalError, Success}
use Rattle.nv_host.specs.Served.{LeadsTo, Served}
use Rattle.nv_model.specs.Memory.{byte_in}
use Rattle.nv_model.specs.declared.reply.Reply.TheVariants as reply
use Rattle.nv_world_model.specs.Area.{completion_slot, ring_size}
use Rattle.nv_world_model.specs.Geometry.{Geometry}
use Rattle.nv_world_model.specs.World.{Ended, Flying, Free, Tag, Taken, World, tag_in}
use Rattle.nv_world_model.specs.declared.event.Event.{Event}
use Rattle.nv_world_model.specs.declared.event.Event.TheVariants as event
use Rattle.nv_world_model.specs.declared.logged.Logged.{Logged}

-- ---- logs

-- an event by which a lane's commands end: a completion is read, an entry is taken, a command fails with Internal Error, or one is given up
pub data IsEnding (lane : ℕ) (e : Event) : Type 0 where
  Reads : e ≡ event.Reap lane → IsEnding lane e
  Takes : e ≡ event.DevTake lane → IsEnding lane e
  Fails : (tag : ℕ) → e ≡ event.DevFail lane tag (done_with InternalError) → IsEnding lane e
  GivesUp : (tag : ℕ) → e ≡ event.GiveUp lane tag → IsEnding lane e

-- a log and such events of one lane after it lead to a mediator and a memory
pub record IsEndedBy (lane : ℕ) (first : World) (log : List Logged) (h : Served) (memory : List ℕ) : Type 0 where
  pub added : List Logged
  pub ending : All (λ l. IsEnding lane l.event) added
  pub world : World
  pub leads : LeadsTo h first memory (log ++ added) world

-- ---- tags

-- a command that was handed on has ended as if the physical controller had failed it: with Internal Error, which may be tried again
abbrev pub failed : Tag → Tag
failed Free = Free
failed (Taken command reads) = Taken command reads
failed (Flying command share at) = Ended command (done_with InternalError) (Some share)
failed (Ended command st share) = Ended command st share

-- one that waits for its plan is given up: it has ended with Internal Error in the tag that it goes by, and with success in its others
abbrev pub given_up : (tag : ℕ) → Tag → Tag
given_up tag Free = Free
given_up tag (Taken command reads) = Ended command (done_with (if command.leader == tag then InternalError else Success)) None
given_up tag (Flying command share at) = Flying command share at
given_up tag (Ended command st share) = Ended command st share

-- both
abbrev pub over : (tag : ℕ) → Tag → Tag
over tag t = failed (given_up tag t)

-- each tag of a lane was changed so
abbrev pub AreEach : (change : (tag : ℕ) → Tag → Tag) → (lane : ℕ) → (old new : Side) → Type 0
AreEach change lane old new = (tag : ℕ) → tag_in (slice_get new.lanes lane) tag ≡ option_map (change tag) (tag_in (slice_get old.lanes lane) tag)

-- no tag of a lane is in flight, and none waits for its plan
abbrev pub AreDone : (lane : ℕ) → Side → Type 0
AreDone lane side =
    (tag : ℕ) → (is_flying (tag_in (slice_get side.lanes lane) tag) ≡ false) × (job_in lane tag (tag_in (slice_get side.lanes lane) tag) ≡ None)

-- nothing has changed but that lane
pub record IsLaneAlone (lane : ℕ) (old new : Side) : Type 0 where
  pub lanes : (other : ℕ) → other ≢ lane → slice_get new.lanes other ≡ slice_get old.lanes other
  pub tails : new.tails ≡ old.tails
  pub controllers : new.controllers ≡ old.controllers

-- ---- completions that are there

-- so many completions of a lane were read, one after the other: each was new and named a command that was in flight, whatever else is in memory
abbrev pub AreReaped : Geometry → (lane : ℕ) → (memory : List ℕ) → (count : ℕ) → (old new : Side) → Type 0
AreReaped geometry lane memory zero old new = new ≡ old
AreReaped geometry lane memory (suc count) old new =
    (mid : Side)
    × (AreReaped geometry lane memory count old mid × (answer_of geometry lane (slice_get mid.lanes lane) memory ≡ Some reply.Done)
    × IsReaped geometry lane mid new memory)

-- all that are there, up to one that names no command
pub record IsDrained (geometry : Geometry) (lane : ℕ) (memory : List ℕ) (old new : Side) : Type 0 where
  pub count : ℕ
  pub reads : AreReaped geometry lane memory count old new
  pub last : answer_of geometry lane (slice_get new.lanes lane) memory ≢ Some reply.Done

-- ---- the whole

-- the completions that are there were read, and then each tag of the lane ended
pub record IsOver (geometry : Geometry) (lane : ℕ) (memory : List ℕ) (old new : Side) : Type 0 where
  pub read : Side
  pub drained : IsDrained geometry lane memory old read
  pub each : AreEach over lane read new

-- ---- memory

-- no byte of a memory has changed but those of a lane's completion ring
pub record IsRingAlone (geometry : Geometry) (lane : ℕ) (before after : List ℕ) : Type 0 where
  pub size : length after ≡ length before
  pub bytes : (at : ℕ) → (at < completion_slot geometry.mediator lane 0) ⊎ (completion_slot geometry.mediator lane ring_size ≤ at)
      → byte_in after at ≡ byte_in before at
