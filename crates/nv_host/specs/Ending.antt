-- What single steps of a close come to, for the contracts of private functions alone: by tags, by bytes, and as runs of events (profile).
use Rattle.std.specs.Prelude.{◌≡◌, ℕ, ◌==◌, Bool, false, if◌then◌else◌, All, List, slice_get}
use Rattle.nv_core.specs.Front.{IsBeside, IsLive}
use Rattle.nv_laws_sound.specs.Side.{Side}
use Rattle.nv_core.specs.Reaping.{waits_in}
use Rattle.nv_entry.specs.Completion.{cid_of, phase_of, sqid_of, status_of}
use Rattle.nv_entry.specs.Status.{bit}
use Rattle.nv_entry.specs.StatusCode.{done_with}
use Rattle.nv_entry.specs.declared.status_code.StatusCode.TheVariants.{InternalError}
use Rattle.nv_host.specs.Closing.{IsEnding, failed, given_up}
use Rattle.nv_world_model.specs.Area.{queue_pair}
use Rattle.nv_world_model.specs.Geometry.{Geometry}
use Rattle.nv_world_model.specs.Step.{replay}
use Rattle.nv_world_model.specs.World.{Ended, Flying, Free, Tag, Taken, World}
use Rattle.nv_world_model.specs.declared.event.Event.{Event}

-- ---- one step

-- one tag alone fails
abbrev pub failed_at : (number tag : ℕ) → Tag → Tag
failed_at number tag t = if tag == number then failed t else t

-- those that go by one tag alone are given up
abbrev pub given_up_by : (leader tag : ℕ) → Tag → Tag
given_up_by leader tag Free = Free
given_up_by leader tag (Taken command reads) = if command.leader == leader then given_up tag (Taken command reads) else Taken command reads
given_up_by leader tag (Flying command share at) = Flying command share at
given_up_by leader tag (Ended command st share) = Ended command st share

-- the fields by which a completion fails the command of a tag
pub record IsFailing (lane tag : ℕ) (phase : Bool) (completion : List ℕ) : Type 0 where
  pub queue : sqid_of completion ≡ queue_pair lane
  pub identifier : cid_of completion ≡ tag
  pub phase_tag : phase_of completion ≡ bit phase
  pub status : status_of completion ≡ done_with InternalError

-- ---- many

-- such events lead from a world to one where the mediator has that side and memory, and which is as events leave it
pub record Leads (geometry : Geometry) (lane : ℕ) (w : World) (side : Side) (memory : List ℕ) : Type 0 where
  pub events : List Event
  pub ending : All (IsEnding lane) events
  pub beside : IsBeside side memory (replay geometry events w)
  pub live : IsLive geometry (replay geometry events w)

-- from each world that has one side and memory, to another
abbrev pub IsRun : Geometry → (lane : ℕ) → (old : Side) → (before : List ℕ) → (new : Side) → (after : List ℕ) → Type 0
IsRun geometry lane old before new after = (w : World) → IsBeside old before w → IsLive geometry w → Leads geometry lane w new after

-- no completion of a lane waits
abbrev pub IsIdle : Geometry → (lane : ℕ) → Side → (memory : List ℕ) → Type 0
IsIdle geometry lane side memory = waits_in geometry lane (slice_get side.lanes lane) memory ≡ false

-- none waits in a world that is as events leave it
abbrev pub AreIdle : Geometry → (lane : ℕ) → Side → (memory : List ℕ) → Type 0
AreIdle geometry lane side memory = (w : World) → IsBeside side memory w → IsLive geometry w → IsIdle geometry lane side memory

-- where none waits before, none waits after
abbrev pub IsIdleRun : Geometry → (lane : ℕ) → (old : Side) → (before : List ℕ) → (new : Side) → (after : List ℕ) → Type 0
IsIdleRun geometry lane old before new after =
    (w : World) → IsBeside old before w → IsLive geometry w → IsIdle geometry lane old before
    → Leads geometry lane w new after × IsIdle geometry lane new after
