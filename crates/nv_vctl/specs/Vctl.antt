-- Words for what the calls of a virtual controller do, over `Controller` of nv_model: Base Specification 2.0, "Controller
-- Properties", "Memory-based Transport Queue Model". How many taken commands are counted is the project's own (profile).
use Rattle.std.specs.Prelude.{◌≡◌, ℕ, ◌+◌, ◌*◌, ◌^◌, ◌<◌, ◌≤◌, true, List, IfSome, Option, Some, None, slice_index}
use Rattle.nv_mem.specs.declared.region.Region.{Region}
use Rattle.nv_model.specs.Controller.{Controller, Deletion, Posted, completion_queue, submission_queue, with_submission}
use Rattle.nv_model.specs.Limits.{last_queue}
use Rattle.nv_model.specs.Memory.{bytes_from, image, put_image, stored}
use Rattle.nv_model.specs.Queue.{CompletionQueue, SubmissionQueue, cqe_size, sqe_size}
use Rattle.nv_model.specs.Running.{IsTogether}
use Rattle.nv_vctl.specs.declared.posted.Posted.{Posted as Reply}
use Rattle.nv_vctl.specs.declared.posted.Posted.TheVariants as reply
use Rattle.nv_vctl.specs.declared.posting.Posting.{Posting}

-- ---- what is kept

-- what is kept of a controller: its parts go together, and commands of the admin queue are completed to the admin completion queue
pub record IsWhole (c : Controller) : Type 0 where
  pub together : IsTogether c
  pub admin : IfSome (submission_queue c 0) (λ q. q.completes_to ≡ 0)

-- the most taken commands of a queue that are counted
abbrev pub most_taken : ℕ
most_taken = 65535

-- the number of an I/O queue
abbrev pub IsIoQueue : ℕ → Type 0
IsIoQueue queue = (0 < queue) × (queue ≤ last_queue)

-- the slots of each completion queue end at 2 to the 64 at the latest, as those do that lie in a guest's map
abbrev pub CompletionsFit : Controller → Type 0
CompletionsFit c = (queue : ℕ) (q : CompletionQueue) → completion_queue c queue ≡ Some q → q.base + cqe_size * q.size ≤ 2 ^ 64

-- and those of each submission queue
abbrev pub SubmissionsFit : Controller → Type 0
SubmissionsFit c = (queue : ℕ) (q : SubmissionQueue) → submission_queue c queue ≡ Some q → q.base + sqe_size * q.size ≤ 2 ^ 64

-- ---- what is done

-- the controller with that value in CC
abbrev pub with_cc : (value : ℕ) → Controller → Controller
with_cc value c = record c { cc = value }

-- the controller after a call that may be ignored
abbrev pub or_unchanged : Controller → Option Controller → Controller
or_unchanged c None = c
or_unchanged c (Some after) = after

-- the entry in a guest's memory at this address, where there is one
abbrev pub entry_at : (memory : ℕ → ℕ) → Option ℕ → Option (List ℕ)
entry_at memory None = None
entry_at memory (Some addr) = Some (bytes_from memory addr sqe_size)

-- whether a completion is posted
abbrev pub posted_or_held : Option Posted → Reply
posted_or_held None = reply.Held
posted_or_held (Some p) = reply.Done

-- a completion without the controller after it
abbrev pub posting_of : Posted → Posting
posting_of p = record { addr = p.addr; entry = p.entry }

-- the controller after a completion, if it is posted
abbrev pub controller_behind : Controller → Option Posted → Controller
controller_behind c None = c
controller_behind c (Some p) = p.controller

-- and the host's bytes, with its entry in the guest's memory
abbrev pub host_behind : List Region → (host : ℕ → ℕ) → Option Posted → ℕ → ℕ
host_behind regions host None = host
host_behind regions host (Some p) = put_image regions (stored (image regions host) p.addr p.entry) host

-- the completion queue of a queue's commands
abbrev pub completed_by : Option SubmissionQueue → Controller → Option CompletionQueue
completed_by None c = None
completed_by (Some q) c = completion_queue c q.completes_to

abbrev pub completes_in : Controller → (queue : ℕ) → Option CompletionQueue
completes_in c queue = completed_by (submission_queue c queue) c

-- ---- deletions

-- a submission queue closes, and its deletion by the command of that identifier waits
abbrev pub closed_from : Option SubmissionQueue → Controller → (queue cid : ℕ) → Controller
closed_from None c queue cid = c
closed_from (Some q) c queue cid =
    record (with_submission c queue (Some (record q { closing = true }))) {
      deletion = Some (record { cid = cid; queue = queue });
    }

abbrev pub closed : Controller → (queue cid : ℕ) → Controller
closed c queue cid = closed_from (submission_queue c queue) c queue cid

-- a deletion waits, and its queue has no taken commands any more
abbrev pub MayFinish : Option Deletion → List ℕ → Type 0
MayFinish None taken = ⊥
MayFinish (Some d) taken = slice_index taken d.queue ≡ 0

-- the deletion that waits is finished: its queue goes
abbrev pub finished_from : Option Deletion → Controller → Controller
finished_from None c = c
finished_from (Some d) c = record (with_submission c d.queue None) { deletion = None }

abbrev pub deletion_finished : Controller → Controller
deletion_finished c = finished_from c.deletion c
