-- What an event of the admin queue comes to without a memory: `admin` of `nv_model`, with what it stores in place of the memory after it (profile).
use Rattle.std.specs.Prelude.{◌≡◌, ℕ, Bool, true, false, not, ◌&&◌, ◌==◌, if◌then◌else◌, List, length, slice_index, Option, Some, None, is_none, IfSome, Result, Ok, Err}
use Rattle.nv_entry.specs.Status.{StatusField}
use Rattle.nv_entry.specs.StatusCode.{done_with, refused_with}
use Rattle.nv_entry.specs.Submission.{cid_of}
use Rattle.nv_entry.specs.declared.status_code.StatusCode.{StatusCode}
use Rattle.nv_entry.specs.declared.status_code.StatusCode.TheVariants.{Success}
use Rattle.nv_mem.specs.GuestMap.{everywhere}
use Rattle.nv_model.specs.Admin.{AdminStep, NothingToDo, QueueFull, Stepped, admin_command, is_queue_full}
use Rattle.nv_model.specs.Controller.{Controller, Deletion, Posted, completion_queue, front, is_ready, post, took, with_submission}
use Rattle.nv_model.specs.Memory.{bytes_from, stored}
use Rattle.nv_model.specs.Queue.{sqe_size}
use Rattle.nv_vctl.specs.Vctl.{posting_of}
use Rattle.nv_vctl.specs.declared.posting.Posting.{Posting}
use Rattle.nv_admin.specs.Effect.{IsPageMapped, stored_by}
use Rattle.nv_admin.specs.Identify.{Stored, command_stored, memory_behind}
use Rattle.nv_admin.specs.declared.administered.Administered.{Administered}
use Rattle.nv_admin.specs.declared.administered.Administered.TheVariants as done
use Rattle.nv_admin.specs.declared.outcome.Outcome.{Outcome}
use Rattle.nv_admin.specs.declared.outcome.Outcome.TheVariants as outcome
use Rattle.nv_admin.specs.declared.reply.Admin.{Admin}
use Rattle.nv_admin.specs.declared.reply.Admin.TheVariants as reply

-- the reply, the controller after it, and what is stored, in this order: what the command stores, and then its completion
pub record EventDone : Type 0 where
  pub reply : Admin
  pub controller : Controller
  pub stored : Option Stored
  pub completion : Option Posting

-- nothing changes
abbrev pub left_with : Admin → Controller → EventDone
left_with r c = record { reply = r; controller = c; stored = None; completion = None }

-- a command that was carried out, with its completion where it is completed now; the controller before the event is the last
abbrev pub completed_with : Option Posted → Option Stored → (old : Controller) → EventDone
completed_with None stored old = left_with reply.Held old
completed_with (Some p) stored old =
    record { reply = reply.Done; controller = p.controller; stored = stored; completion = Some (posting_of p) }

abbrev pub answered_with : Option (ℕ × StatusField) → (cid : ℕ) → Controller → Option Stored → (old : Controller) → EventDone
answered_with None cid c stored old = record { reply = reply.Done; controller = c; stored = stored; completion = None }
answered_with (Some answer) cid c stored old = completed_with (post c 0 answer.0 cid answer.1) stored old

-- no command depends on memory
abbrev pub front_done : Option ℕ → (ℕ → Bool) → (blocks : ℕ) → (entry : List ℕ) → Controller → EventDone
front_done None mapped blocks entry c = left_with reply.Idle c
front_done (Some addr) mapped blocks entry c = if is_queue_full (completion_queue c 0) then left_with reply.Held c else
    (let done = admin_command mapped blocks entry (took c 0) (λ at. 0) in
    answered_with done.answer (cid_of entry) done.controller (command_stored mapped blocks entry) c)

abbrev pub deletion_done : Deletion → Controller → EventDone
deletion_done d c = if not (slice_index c.taken d.queue == 0) then left_with reply.Idle c else
    if is_queue_full (completion_queue c 0) then left_with reply.Held c else
    answered_with (Some (0, done_with Success)) d.cid (record (with_submission c d.queue None) { deletion = None }) None c

abbrev pub ready_done : Option Deletion → (ℕ → Bool) → (blocks : ℕ) → (entry : List ℕ) → Controller → EventDone
ready_done (Some d) mapped blocks entry c = deletion_done d c
ready_done None mapped blocks entry c = front_done (front c 0) mapped blocks entry c

-- one event, with the entry that was fetched for it
unfoldable pub administered : (ℕ → Bool) → (blocks : ℕ) → (entry : List ℕ) → Controller → EventDone
administered mapped blocks entry c = if is_ready c then ready_done c.deletion mapped blocks entry c else left_with reply.Idle c

-- ---- the memory after it

abbrev pub completion_behind : Option Posting → (memory : ℕ → ℕ) → ℕ → ℕ
completion_behind None memory = memory
completion_behind (Some p) memory = stored memory p.addr p.entry

abbrev pub step_by : Admin → Controller → (memory : ℕ → ℕ) → AdminStep
step_by reply.Idle c memory = NothingToDo
step_by reply.Held c memory = QueueFull
step_by reply.Done c memory = Stepped c memory

-- the step of `admin` in a memory
abbrev pub step_in : EventDone → (memory : ℕ → ℕ) → AdminStep
step_in e memory = step_by e.reply e.controller (completion_behind e.completion (memory_behind e.stored memory))

-- ---- what the code returns

-- the answer of a command with this outcome
abbrev pub answer_of : Result Outcome StatusCode → Option (ℕ × StatusField)
answer_of (Ok (outcome.Done dw0)) = Some (dw0, done_with Success)
answer_of (Ok outcome.Pending) = None
answer_of (Err why) = Some (0, refused_with why)

-- the event that came to this, after which the controller is that one
abbrev pub event_by : Administered → Controller → EventDone
event_by done.Idle c = left_with reply.Idle c
event_by done.Held c = left_with reply.Held c
event_by (done.Done page completion) c =
    record { reply = reply.Done; controller = c; stored = stored_by page; completion = completion }

-- a completion, if one is posted, lies in the guest's memory
abbrev pub IsCompletionMapped : (ℕ → Bool) → Option Posting → Type 0
IsCompletionMapped mapped completion = IfSome completion (λ p. everywhere mapped p.addr (length p.entry) ≡ true)

-- so does all that is stored
abbrev pub AreMapped : (ℕ → Bool) → Administered → Type 0
AreMapped mapped done.Idle = Unit {0}
AreMapped mapped done.Held = Unit {0}
AreMapped mapped (done.Done page completion) = IsPageMapped mapped page × IsCompletionMapped mapped completion

-- ---- what is fetched

-- an admin command is fetched where no deletion waits and its completion can be posted
abbrev pub takes_command : Controller → Bool
takes_command c = is_none c.deletion && not (is_queue_full (completion_queue c 0))

-- and where it lies; none is fetched where none may be taken
abbrev pub command_at : Controller → Option ℕ
command_at c = if takes_command c then front c 0 else None

-- an entry that was fetched from a memory is the one at the front
abbrev pub IsFetched : (memory : ℕ → ℕ) → Controller → (entry : List ℕ) → Type 0
IsFetched memory c entry = (addr : ℕ) → c.deletion ≡ None → is_queue_full (completion_queue c 0) ≡ false → front c 0 ≡ Some addr
    → entry ≡ bytes_from memory addr sqe_size
