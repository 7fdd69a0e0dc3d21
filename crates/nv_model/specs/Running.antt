-- What holds along every run of the private controller
use Rattle.std.specs.Prelude.{◌≡◌, ℕ, zero, suc, ◌+◌, ◌<◌, ◌≤◌, Bool, true, false, ◌==◌, List, length, slice_get, slice_index, sum, Option, Some, None, IfSome, IsSome}
use Rattle.nv_entry.specs.Status.{bit}
use Rattle.nv_model.specs.Queue.{SubmissionQueue, CompletionQueue}
use Rattle.nv_model.specs.Controller.{Controller, Deletion, is_enabled, no_queues, queue_count, queue_of}
use Rattle.nv_model.specs.Private.{Bag, Private, Run, Shape, Step, Taken, run_of, start_with}

-- ---- counts

-- one where this is a command of that queue, and zero where it is not
abbrev pub one_of : (queue : ℕ) → Option Taken → ℕ
one_of queue None = 0
one_of queue (Some t) = bit (t.queue == queue)

-- how many of the names below a bound are those of commands of that queue
abbrev pub count_below : Bag → (queue bound : ℕ) → ℕ
count_below bag queue zero = 0
count_below bag queue (suc name) = one_of queue (bag name) + count_below bag queue name

-- these counts by queue are the bag's: from some bound on no name is taken, and below it are as many of each queue as are
-- counted
pub record AreCounted (taken : List ℕ) (bag : Bag) : Type 0 where
  pub bound : ℕ
  pub none_beyond : (name : ℕ) → bound ≤ name → bag name ≡ None
  pub count : (queue : ℕ) → count_below bag queue bound ≡ slice_index taken queue

-- a command of an I/O queue: its queue is 1 to 8
abbrev pub IsOfIoQueue : Taken → Type 0
IsOfIoQueue t = (0 < t.queue) × (t.queue < queue_count)

-- ---- queues

-- EN, RDY, the queues, the counts of taken commands and a waiting deletion go together
pub record GoTogether (enabled ready : Bool) (submission : List (Option SubmissionQueue))
    (completion : List (Option CompletionQueue)) (taken : List ℕ) (deletion : Option Deletion) : Type 0 where
  -- each list goes by queue number
  pub submission_count : length submission ≡ queue_count
  pub completion_count : length completion ≡ queue_count
  pub taken_count : length taken ≡ queue_count
  -- the completion queue of each submission queue is there
  pub completes : (y : ℕ)
      → IfSome (queue_of (slice_get submission y)) (λ q. IsSome (queue_of (slice_get completion q.completes_to)))
  -- while EN is 1, a queue with taken commands is there
  pub taken_there : enabled ≡ true → (y : ℕ) → 0 < slice_index taken y → IsSome (queue_of (slice_get submission y))
  -- while EN is 1 and RDY is 1, the admin queues are there
  pub admin_there : enabled ≡ true → ready ≡ true
      → IsSome (queue_of (slice_get submission 0)) × IsSome (queue_of (slice_get completion 0))
  -- while EN is 0 no queue is there
  pub none_there : enabled ≡ false → (submission ≡ no_queues) × (completion ≡ no_queues)
  -- while a command is taken, RDY is 1
  pub taken_ready : (y : ℕ) → 0 < slice_index taken y → ready ≡ true
  -- while EN is 0, RDY is 1 only as long as a command is taken
  pub ready_taken : enabled ≡ false → ready ≡ true → 0 < sum taken
  -- a waiting deletion names an I/O queue that is there
  pub deletion_there : IfSome deletion (λ d. (0 < d.queue) × IsSome (queue_of (slice_get submission d.queue)))

-- so do those of a controller
abbrev pub IsTogether : Controller → Type 0
IsTogether c = GoTogether (is_enabled c) c.ready c.submission c.completion_queues c.taken c.deletion

-- ---- states

-- the counts of a controller are those of the bag, each taken command is of an I/O queue, and the controller's parts go
-- together
pub record IsConsistent (c : Controller) (bag : Bag) : Type 0 where
  pub counted : AreCounted c.taken bag
  pub of_io_queues : (name : ℕ) → IfSome (bag name) IsOfIoQueue
  pub together : IsTogether c

-- so it is along every run of the private controller
abbrev pub IsRunning : Private → Type 0
IsRunning p = IsConsistent p.controller p.bag

-- a command is taken
pub record HasTaken (bag : Bag) : Type 0 where
  pub name : ℕ
  pub command : Taken
  pub is_there : bag name ≡ Some command

-- this holds after every run from a start, whatever memory and blocks had
abbrev pub AlongEveryRun : (Private → Type 0) → Type 0
AlongEveryRun P =
    (memory : ℕ → ℕ) (disk : ℕ → ℕ → ℕ) (shape : Shape) (steps : List Step) (r : Run)
    → run_of shape steps (start_with memory disk) ≡ Some r → P r.state
