-- Commands by the queue that they were taken from, and queues of a guest that are full (profile).
use Rattle.std.specs.Prelude.{◌≡◌, ℕ, ◌<◌, ◌≤◌, ◌==◌, ◌&&◌, Bool, true, false, List, [], slice_get, Option, Some, None, option_map}
use Rattle.std.specs.List.{list_any}
use Rattle.nv_laws_sound.specs.Side.{Side}
use Rattle.nv_core.specs.Tags.{command_at}
use Rattle.nv_core.specs.declared.full.Origin.{Origin}
use Rattle.nv_entry.specs.Status.{StatusField}
use Rattle.nv_model.specs.Controller.{Controller, is_enabled, post}
use Rattle.nv_model.specs.Limits.{last_queue}
use Rattle.nv_world_model.specs.SetUp.{most_guests}
use Rattle.nv_world_model.specs.World.{Command, Ended, Flying, Free, Lane, Tag, Taken, tags_where}

-- where a command was taken from
abbrev pub origin_by : Command → Origin
origin_by command = record { guest = command.guest; queue = command.queue }

abbrev pub origin_in : Option Tag → Option Origin
origin_in t = option_map origin_by (command_at t)

-- whether a tag is one of a command that was taken from that queue of that guest
abbrev pub is_from : (guest queue : ℕ) → Tag → Bool
is_from guest queue Free = false
is_from guest queue (Taken command reads) = command.guest == guest && command.queue == queue
is_from guest queue (Flying command share at) = command.guest == guest && command.queue == queue
is_from guest queue (Ended command st share) = command.guest == guest && command.queue == queue

-- those tags of a lane, in order
abbrev pub from_in : (guest queue : ℕ) → Lane → List ℕ
from_in guest queue l = tags_where (is_from guest queue) l.tags

-- a queue of a guest whose controller is enabled, and has no room for a completion of a command of that queue
pub record IsFull (guest queue : ℕ) (side : Side) : Type 0 where
  pub guest_is : guest < most_guests
  pub queue_is : queue ≤ last_queue
  pub controller : Controller
  pub there : slice_get side.controllers guest ≡ Some controller
  pub enabled : is_enabled controller ≡ true
  pub full : (cid : ℕ) (st : StatusField) → post controller queue 0 cid st ≡ None

-- those tags of a lane are all that wait with one, where its guest's queue is full
abbrev pub AreWaiting : (lane tag : ℕ) → Side → (tags : List ℕ) → Type 0
AreWaiting lane tag side tags = (l : Lane) (command : Command) → slice_get side.lanes lane ≡ Some l
    → command_at (slice_get l.tags tag) ≡ Some command → IsFull command.guest command.queue side → tags ≡ from_in command.guest command.queue l

-- none do, where it has room
abbrev pub NoneWait : (lane tag : ℕ) → Side → (tags : List ℕ) → Type 0
NoneWait lane tag side tags = (l : Lane) (command : Command) → slice_get side.lanes lane ≡ Some l
    → command_at (slice_get l.tags tag) ≡ Some command → (IsFull command.guest command.queue side → ⊥) → tags ≡ []

-- each of them is of the same guest, and its queue is full
abbrev pub AreHeldWith : (lane tag : ℕ) → Side → (tags : List ℕ) → Type 0
AreHeldWith lane tag side tags = (l : Lane) (other : ℕ) (mine their : Command) → slice_get side.lanes lane ≡ Some l
    → list_any (λ t. t == other) tags ≡ true
    → command_at (slice_get l.tags tag) ≡ Some mine → command_at (slice_get l.tags other) ≡ Some their
    → (their.guest ≡ mine.guest) × IsFull their.guest their.queue side
