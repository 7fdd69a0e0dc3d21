-- Which vectors of a guest a host signals whose interrupts are messages (profile).
--
-- A completion queue raises its vector as long as it holds completions that its guest has not acknowledged (`raised`). A message tells the guest once. So
-- one is due where the queue stands elsewhere than when it was asked last: completions were posted, or the guest has acknowledged some and others are left.
use Rattle.std.specs.Prelude.{◌≡◌, ◌≢◌, ◌⊎◌, ◌<◌, ℕ, Bool, ◌==◌, ◌&&◌, if◌then◌else◌, length, List, Option, Some, None, slice_get}
use Rattle.nv_c.specs.Calls.{ignored, no_such, ok}
use Rattle.nv_c.specs.Serving.{vector_kept}
use Rattle.nv_c.specs.declared.posted.Standing.{Standing}
use Rattle.nv_entry.specs.Status.{bit}
use Rattle.nv_host.specs.Served.{Served}
use Rattle.nv_mediator.specs.Hosted.{Hosted}
use Rattle.nv_model.specs.Controller.{Controller, completion_queue, queue_count}
use Rattle.nv_model.specs.Queue.{CompletionQueue, raised}

-- where a queue stands: how many slots it has, the slot of its next completion, that of the oldest which is not acknowledged, and the phase tag of its pass.
-- All is zero where there is no queue, and of none that is there, since each has two slots at least
abbrev pub standing_of : Option CompletionQueue → Standing
standing_of None = record { size = 0; tail = 0; head = 0; phase = 0 }
standing_of (Some q) = record { size = q.size; tail = q.tail; head = q.head; phase = bit q.phase }

abbrev pub is_same : (one other : Standing) → Bool
is_same one other = one.size == other.size && one.tail == other.tail && one.head == other.head && one.phase == other.phase

-- the vector to be signalled of a queue: the one that it raises, where it stands elsewhere than it stood
abbrev pub new_vector : Option CompletionQueue → (stood : Standing) → Option ℕ
new_vector queue stood = if is_same (standing_of queue) stood then None else raised queue

-- of one of a guest's queues it is kept where it stands, and its vector to be signalled was told
pub record IsAsked (c : Controller) (before after : List Standing) (vectors : List ℕ) (queue : ℕ) : Type 0 where
  pub kept : slice_get after queue ≡ Some (standing_of (completion_queue c queue))
  pub told : (stood : Standing) → slice_get before queue ≡ Some stood
      → slice_get vectors queue ≡ Some (vector_kept (new_vector (completion_queue c queue) stood))

-- of each, and nothing else was
pub record AreNews (c : Controller) (before after : List Standing) (vectors : List ℕ) : Type 0 where
  pub kept : length after ≡ queue_count
  pub told : length vectors ≡ queue_count
  pub each : (queue : ℕ) → queue < queue_count → IsAsked c before after vectors queue

-- so it was; or there is no such guest, or there is no room for exactly these, and all is as it was
abbrev pub IsNews : Option Controller → (before after : List Standing) → (room vectors : List ℕ) → (status : ℕ) → Type 0
IsNews None before after room vectors status = (status ≡ ignored) × (after ≡ before) × (vectors ≡ room)
IsNews (Some c) before after room vectors status =
    ((length before ≢ queue_count) ⊎ (length room ≢ queue_count)) × (status ≡ no_such) × (after ≡ before) × (vectors ≡ room)
    ⊎ (length before ≡ queue_count) × (length room ≡ queue_count) × (status ≡ ok) × AreNews c before after vectors

-- and of the mediator nothing has changed
abbrev pub IsNewsTold : (guest : ℕ) → (before after : List Standing) → (room vectors : List ℕ) → (old : Served) → (status : ℕ) → (new : Served) → Type 0
IsNewsTold guest before after room vectors old status new =
    (new ≡ old) × IsNews (slice_get old.side.controllers guest) before after room vectors status

-- a mediator whose drive is the library's own says nothing of interrupts
abbrev pub HasNoNews : (before after : List Standing) → (room vectors : List ℕ) → (old : Hosted) → (status : ℕ) → (new : Hosted) → Type 0
HasNoNews before after room vectors old status new = (status ≡ no_such) × (new ≡ old) × (after ≡ before) × (vectors ≡ room)
