-- Queues: Base Specification 2.0, "Memory-based Transport Queue Model" (usage, empty and full queues), "Phase Tag"
use Rattle.std.specs.Prelude.{ℕ, ◌+◌, ◌-◌, ◌%◌, Bool, true, false, not, ◌==◌, if◌then◌else◌, Option, None, Some}

-- a submission queue: where its slots lie and how many, its head and tail, the completion queue that it uses, and whether it is
-- being deleted
pub record SubmissionQueue : Type 0 where
  pub base : ℕ
  pub size : ℕ
  pub head : ℕ
  pub tail : ℕ
  pub completes_to : ℕ
  pub closing : Bool

-- a completion queue: where its slots lie and how many, its head and tail, the phase tag that this pass writes, and the interrupt
-- vector of its completions, where its interrupts are enabled
pub record CompletionQueue : Type 0 where
  pub base : ℕ
  pub size : ℕ
  pub head : ℕ
  pub tail : ℕ
  pub phase : Bool
  pub vector : Option ℕ

-- the size of a submission queue entry, and of a completion queue entry
abbrev pub sqe_size : ℕ
sqe_size = 64

abbrev pub cqe_size : ℕ
cqe_size = 16

-- the slot after this one, going round
abbrev pub next_slot : (size at : ℕ) → ℕ
next_slot size at = (at + 1) % size

-- how far one slot is ahead of another, going round
abbrev pub ahead : (size from to : ℕ) → ℕ
ahead size from to = (to + size - from) % size

-- a queue is empty where head equals tail
abbrev pub is_empty : (head tail : ℕ) → Bool
is_empty head tail = head == tail

-- a queue is full where head equals tail plus one, going round
abbrev pub is_full : (size head tail : ℕ) → Bool
is_full size head tail = head == next_slot size tail

-- a new submission queue is empty
abbrev pub new_submission : (base size completes_to : ℕ) → SubmissionQueue
new_submission base size completes_to =
    record { base = base; size = size; head = 0; tail = 0; completes_to = completes_to; closing = false }

-- a new completion queue is empty, and its first pass writes phase tag 1
abbrev pub new_completion : (base size : ℕ) → (vector : Option ℕ) → CompletionQueue
new_completion base size vector = record { base = base; size = size; head = 0; tail = 0; phase = true; vector = vector }

-- how many entries are not taken, of those for which the doorbell was written
abbrev pub waiting : SubmissionQueue → ℕ
waiting q = ahead q.size q.head q.tail

-- how many completions are posted and not acknowledged
abbrev pub unacknowledged : CompletionQueue → ℕ
unacknowledged q = ahead q.size q.head q.tail

-- the front entry is taken
abbrev pub front_taken : SubmissionQueue → SubmissionQueue
front_taken q = record q { head = next_slot q.size q.head }

-- one more completion is posted; at the wrap the phase tag is inverted
abbrev pub after_post : CompletionQueue → CompletionQueue
after_post q = record q {
  tail = next_slot q.size q.tail;
  phase = (if next_slot q.size q.tail == 0 then not q.phase else q.phase);
}

-- the vector that a completion queue raises: that of its completions, where some are not acknowledged and its interrupts are enabled
abbrev pub raised : Option CompletionQueue → Option ℕ
raised None = None
raised (Some q) = if is_empty q.head q.tail then None else q.vector
