-- The admin queue: Base Specification 2.0, "Admin Command Set". Which commands, features and data structures there are, the order of
-- the checks and the status that each fault gets are the project's own (profile).
use Rattle.std.specs.Prelude.{ℕ, ◌+◌, ◌*◌, ◌%◌, Bool, true, false, not, ◌||◌, ◌==◌, nat_lt, if◌then◌else◌}
use Rattle.std.specs.Prelude.{List, [], ◌∷◌, ◌++◌, drop, slice_index, replicate, Option, Some, None, is_some, is_none}
use Rattle.std.specs.List.{list_any}
use Rattle.nv_entry.specs.Layout.{bits, number_bytes}
use Rattle.nv_entry.specs.Submission.{opcode_of, fuse_of, psdt_of, cid_of, nsid_of, prp1_of, prp2_of, cdw_of}
use Rattle.nv_entry.specs.Opcode.{admin_opcode}
use Rattle.nv_entry.specs.Status.{StatusField}
use Rattle.nv_entry.specs.StatusCode.{done_with, refused_with}
use Rattle.nv_entry.specs.declared.opcode.AdminOpcode.{AdminOpcode}
use Rattle.nv_entry.specs.declared.opcode.AdminOpcode.TheVariants.{DeleteIoSubmissionQueue, CreateIoSubmissionQueue, GetLogPage}
use Rattle.nv_entry.specs.declared.opcode.AdminOpcode.TheVariants.{DeleteIoCompletionQueue, CreateIoCompletionQueue, Identify}
use Rattle.nv_entry.specs.declared.opcode.AdminOpcode.TheVariants.{Abort, SetFeatures, GetFeatures, AsynchronousEventRequest}
use Rattle.nv_entry.specs.declared.status_code.StatusCode.{StatusCode}
use Rattle.nv_entry.specs.declared.status_code.StatusCode.TheVariants as code
use Rattle.nv_mem.specs.Bytes.{after_store}
use Rattle.nv_mem.specs.GuestMap.{everywhere}
use Rattle.nv_mem.specs.Places.{places_of}
use Rattle.nv_model.specs.Memory.{bytes_from, scattered, stored}
use Rattle.nv_model.specs.Dialogue.{in_memory}
use Rattle.nv_model.specs.Reading.{Reading, Faulty, TooLong, Spells, first_failing}
use Rattle.nv_model.specs.Prp.{read_prp}
use Rattle.nv_model.specs.Queue.{SubmissionQueue, CompletionQueue, cqe_size, is_full, new_completion, new_submission, sqe_size}
use Rattle.nv_model.specs.Controller.{Controller, Deletion, Posted, completion_queue, front, is_ready, post, submission_queue, took, with_completion, with_submission}
use Rattle.nv_model.specs.Limits.{last_queue, most_requests, most_slots, page}

-- what a command did: the controller and the guest's memory after it, and the answer that is posted now, if one is: DW0 and status
pub record AdminEffect : Type 0 where
  pub controller : Controller
  pub memory : ℕ → ℕ
  pub answer : Option (ℕ × StatusField)

-- ---- fields

-- the queue that a command names: CDW10 bits 15:0
abbrev pub qid : List ℕ → ℕ
qid entry = bits (cdw_of 10 entry) 15 0

-- the queue's size, counted from 0: CDW10 bits 31:16
abbrev pub qsize : List ℕ → ℕ
qsize entry = bits (cdw_of 10 entry) 31 16

-- PC, physically contiguous: CDW11 bit 0
abbrev pub contiguous : List ℕ → ℕ
contiguous entry = bits (cdw_of 11 entry) 0 0

-- the completion queue of a new submission queue: CDW11 bits 31:16
abbrev pub completion_id : List ℕ → ℕ
completion_id entry = bits (cdw_of 11 entry) 31 16

-- IEN, whether the interrupts of a new completion queue are enabled: CDW11 bit 1
abbrev pub interrupts_enabled : List ℕ → ℕ
interrupts_enabled entry = bits (cdw_of 11 entry) 1 1

-- IV, the interrupt vector of a new completion queue: CDW11 bits 31:16
abbrev pub interrupt_vector : List ℕ → ℕ
interrupt_vector entry = bits (cdw_of 11 entry) 31 16

-- this vector, where its interrupts are enabled
abbrev pub vector_of : List ℕ → Option ℕ
vector_of entry = if interrupts_enabled entry == 1 then Some (interrupt_vector entry) else None

-- CNS of Identify, and the feature of Set and Get Features: CDW10 bits 7:0
abbrev pub selector : List ℕ → ℕ
selector entry = bits (cdw_of 10 entry) 7 0

-- ---- answers

-- refused: nothing changes
abbrev pub refused : StatusCode → Controller → (ℕ → ℕ) → AdminEffect
refused why c memory = record { controller = c; memory = memory; answer = Some (0, refused_with why) }

-- done, with this DW0 and this controller after it
abbrev pub answered : (dw0 : ℕ) → Controller → (ℕ → ℕ) → AdminEffect
answered dw0 c memory = record { controller = c; memory = memory; answer = Some (dw0, done_with code.Success) }

-- done, and nothing is posted now
abbrev pub unanswered : Controller → (ℕ → ℕ) → AdminEffect
unanswered c memory = record { controller = c; memory = memory; answer = None }

-- the first check that fails refuses; where none does, this is done
abbrev pub checked : Option StatusCode → Controller → (ℕ → ℕ) → AdminEffect → AdminEffect
checked (Some why) c memory done = refused why c memory
checked None c memory done = done

-- ---- queues

-- the checks of a new queue's number, size and contiguity
abbrev pub new_queue_checks : (there : Bool) → List ℕ → List (Bool × StatusCode)
new_queue_checks there entry =
    (qid entry == 0 || nat_lt last_queue (qid entry) || there, code.InvalidQueueIdentifier)
    ∷ (qsize entry == 0 || nat_lt most_slots (qsize entry + 1), code.InvalidQueueSize)
    ∷ (contiguous entry == 0, code.InvalidField) ∷ []

-- the checks of a new queue's place, with slots of that many bytes
abbrev pub place_checks : (ℕ → Bool) → (slot : ℕ) → List ℕ → List (Bool × StatusCode)
place_checks mapped slot entry =
    (not (prp1_of entry % page == 0), code.PrpOffsetInvalid)
    ∷ (not (everywhere mapped (prp1_of entry) (slot * (qsize entry + 1))), code.DataTransferError) ∷ []

-- the checks of the completion queue that a new submission queue names
abbrev pub completes_to_checks : Controller → List ℕ → List (Bool × StatusCode)
completes_to_checks c entry =
    (completion_id entry == 0 || nat_lt last_queue (completion_id entry), code.InvalidQueueIdentifier)
    ∷ (is_none (completion_queue c (completion_id entry)), code.CompletionQueueInvalid) ∷ []

-- Create I/O Submission Queue
abbrev pub create_submission : (ℕ → Bool) → List ℕ → Controller → (ℕ → ℕ) → AdminEffect
create_submission mapped entry c memory =
    checked
    (first_failing (
    new_queue_checks (is_some (submission_queue c (qid entry))) entry ++ completes_to_checks c entry
    ++ place_checks mapped sqe_size entry))
    c memory
    (answered 0 (with_submission c (qid entry) (Some (new_submission (prp1_of entry) (qsize entry + 1) (completion_id entry)))) memory)

-- Create I/O Completion Queue
abbrev pub create_completion : (ℕ → Bool) → List ℕ → Controller → (ℕ → ℕ) → AdminEffect
create_completion mapped entry c memory =
    checked
    (first_failing (
    new_queue_checks (is_some (completion_queue c (qid entry))) entry ++ place_checks mapped cqe_size entry))
    c memory
    (answered 0 (with_completion c (qid entry) (Some (new_completion (prp1_of entry) (qsize entry + 1) (vector_of entry)))) memory)

-- whether a submission queue uses that completion queue
abbrev pub uses : ℕ → Option SubmissionQueue → Bool
uses y None = false
uses y (Some q) = q.completes_to == y

-- Delete I/O Completion Queue
abbrev pub delete_completion : List ℕ → Controller → (ℕ → ℕ) → AdminEffect
delete_completion entry c memory =
    checked
    (first_failing (
    (qid entry == 0 || is_none (completion_queue c (qid entry)), code.InvalidQueueIdentifier)
    ∷ (list_any (uses (qid entry)) c.submission, code.InvalidQueueDeletion) ∷ []))
    c memory (answered 0 (with_completion c (qid entry) None) memory)

-- a submission queue without taken commands goes; one with taken commands closes, its untaken entries are dropped, and its deletion
-- waits for them
abbrev pub delete_found : Option SubmissionQueue → List ℕ → Controller → (ℕ → ℕ) → AdminEffect
delete_found None entry c memory = refused code.InvalidQueueIdentifier c memory
delete_found (Some q) entry c memory =
    if slice_index c.taken (qid entry) == 0 then answered 0 (with_submission c (qid entry) None) memory else
    unanswered (record (with_submission c (qid entry) (Some (record q { closing = true }))) {
      deletion = Some (record { cid = cid_of entry; queue = qid entry });
    }) memory

-- Delete I/O Submission Queue
abbrev pub delete_submission : List ℕ → Controller → (ℕ → ℕ) → AdminEffect
delete_submission entry c memory =
    if qid entry == 0 then refused code.InvalidQueueIdentifier c memory
    else delete_found (submission_queue c (qid entry)) entry c memory

-- ---- features and events

-- Number of Queues, the one feature that is known
abbrev pub number_of_queues : ℕ
number_of_queues = 0x07

-- eight I/O submission queues and eight I/O completion queues, counted from 0
abbrev pub queues_allocated : ℕ
queues_allocated = 0x00070007

-- whether an I/O queue is there
abbrev pub has_io_queue : Controller → Bool
has_io_queue c = list_any is_some (drop 1 c.submission) || list_any is_some (drop 1 c.completion_queues)

-- Set Features: no number of queues may be asked for once an I/O queue is there, and none of FFFFh
abbrev pub set_features : List ℕ → Controller → (ℕ → ℕ) → AdminEffect
set_features entry c memory =
    checked
    (first_failing (
    (not (selector entry == number_of_queues), code.InvalidField)
    ∷ (has_io_queue c, code.CommandSequenceError)
    ∷ (bits (cdw_of 11 entry) 15 0 == 0xffff || bits (cdw_of 11 entry) 31 16 == 0xffff, code.InvalidField) ∷ []))
    c memory (answered queues_allocated c memory)

-- Get Features
abbrev pub get_features : List ℕ → Controller → (ℕ → ℕ) → AdminEffect
get_features entry c memory =
    if selector entry == number_of_queues then answered queues_allocated c memory else refused code.InvalidField c memory

-- Asynchronous Event Request
abbrev pub request_event : Controller → (ℕ → ℕ) → AdminEffect
request_event c memory =
    if nat_lt c.held_requests most_requests then unanswered (record c { held_requests = c.held_requests + 1 }) memory
    else refused code.EventLimitExceeded c memory

-- ---- Identify

-- 4,096 bytes with these fields at their offsets, and zeros elsewhere
unfoldable pub structure : List (ℕ × List ℕ) → List ℕ
structure [] = replicate page 0
structure (field ∷ fields) = after_store (structure fields) field.0 field.1

-- the namespace: size, capacity and utilization in blocks; deallocated blocks read as zeros; one format, of 512 bytes without metadata
-- (NVM Command Set Specification 1.0, "Identify Namespace Data Structure")
abbrev pub namespace_structure : (blocks : ℕ) → List ℕ
namespace_structure blocks =
    structure (
    (0, number_bytes 8 blocks) ∷ (8, number_bytes 8 blocks) ∷ (16, number_bytes 8 blocks)
    ∷ (33, number_bytes 1 0x01) ∷ (128, number_bytes 4 0x00090000) ∷ []
    )

-- the controller (Base Specification 2.0, "Identify Controller Data Structure"): MDTS, VER, CNTRLTYPE, AERL, SQES, CQES, NN, ONCS, VWC,
-- SGLS
abbrev pub controller_structure : List ℕ
controller_structure =
    structure (
    (77, number_bytes 1 0x05) ∷ (80, number_bytes 4 0x00020000) ∷ (111, number_bytes 1 0x01) ∷ (259, number_bytes 1 0x03)
    ∷ (512, number_bytes 1 0x66) ∷ (513, number_bytes 1 0x44) ∷ (516, number_bytes 4 1) ∷ (520, number_bytes 2 0x000d)
    ∷ (525, number_bytes 1 0x05) ∷ (536, number_bytes 4 0x00010001) ∷ []
    )

-- the active namespaces above a number: namespace 1 alone
abbrev pub active_structure : (above : ℕ) → List ℕ
active_structure above = if above == 0 then structure ((0, number_bytes 4 1) ∷ []) else structure []

-- the structure goes where the data pointer says
abbrev pub identified : List ℕ → Reading → Controller → (ℕ → ℕ) → AdminEffect
identified bytes (Spells pieces) c memory = answered 0 c (scattered memory (places_of pieces) bytes)
identified bytes (Faulty why) c memory = refused why c memory
identified bytes TooLong c memory = refused code.InternalError c memory

-- where the 4,096 bytes of Identify go: by PRP1 and, where it has an offset, the page entry PRP2; no list is read
abbrev pub identify_reading : (ℕ → Bool) → List ℕ → Reading
identify_reading mapped entry = in_memory (λ _. 0) (read_prp mapped (prp1_of entry) (prp2_of entry) page)

-- what Identify shows, by CNS, or why it is refused
pub data Shown : Type 0 where
  Hidden : StatusCode → Shown
  Structure : List ℕ → Shown

abbrev pub shown : (blocks : ℕ) → List ℕ → Shown
shown blocks entry =
    if selector entry == 0x00 then
    (if nsid_of entry == 1 then Structure (namespace_structure blocks) else Hidden code.InvalidNamespace)
    else if selector entry == 0x01 then Structure controller_structure
    else if selector entry == 0x02 then
    (if nsid_of entry == 0xfffffffe || nsid_of entry == 0xffffffff then Hidden code.InvalidNamespace
    else Structure (active_structure (nsid_of entry)))
    else Hidden code.InvalidField

-- Identify: refusals by CNS and NSID come before those by PRP
abbrev pub identify_by : Shown → (ℕ → Bool) → List ℕ → Controller → (ℕ → ℕ) → AdminEffect
identify_by (Hidden why) mapped entry c memory = refused why c memory
identify_by (Structure bytes) mapped entry c memory = identified bytes (identify_reading mapped entry) c memory

abbrev pub identify : (ℕ → Bool) → (blocks : ℕ) → List ℕ → Controller → (ℕ → ℕ) → AdminEffect
identify mapped blocks entry c memory = identify_by (shown blocks entry) mapped entry c memory

-- ---- a command

-- a command of this opcode; Abort never aborts
abbrev pub done_by : AdminOpcode → (ℕ → Bool) → (blocks : ℕ) → List ℕ → Controller → (ℕ → ℕ) → AdminEffect
done_by DeleteIoSubmissionQueue mapped blocks entry c memory = delete_submission entry c memory
done_by CreateIoSubmissionQueue mapped blocks entry c memory = create_submission mapped entry c memory
done_by GetLogPage mapped blocks entry c memory = refused code.InvalidLogPage c memory
done_by DeleteIoCompletionQueue mapped blocks entry c memory = delete_completion entry c memory
done_by CreateIoCompletionQueue mapped blocks entry c memory = create_completion mapped entry c memory
done_by Identify mapped blocks entry c memory = identify mapped blocks entry c memory
done_by Abort mapped blocks entry c memory = answered 1 c memory
done_by SetFeatures mapped blocks entry c memory = set_features entry c memory
done_by GetFeatures mapped blocks entry c memory = get_features entry c memory
done_by AsynchronousEventRequest mapped blocks entry c memory = request_event c memory

-- a command whose opcode, if it is one that is known, is this; admin commands use PRPs
abbrev pub done_with_opcode : Option AdminOpcode → (ℕ → Bool) → (blocks : ℕ) → List ℕ → Controller → (ℕ → ℕ) → AdminEffect
done_with_opcode None mapped blocks entry c memory = refused code.InvalidOpcode c memory
done_with_opcode (Some opcode) mapped blocks entry c memory =
    if psdt_of entry == 0 then done_by opcode mapped blocks entry c memory else refused code.InvalidField c memory

-- an admin command of 64 bytes
unfoldable pub admin_command : (ℕ → Bool) → (blocks : ℕ) → List ℕ → Controller → (ℕ → ℕ) → AdminEffect
admin_command mapped blocks entry c memory =
    if fuse_of entry == 0 then done_with_opcode (admin_opcode (opcode_of entry)) mapped blocks entry c memory
    else refused code.InvalidField c memory

-- ---- the event

-- there is nothing to do; or the admin completion queue is full; or one command, or a waiting deletion, was done
pub data AdminStep : Type 0 where
  NothingToDo : AdminStep
  QueueFull : AdminStep
  Stepped : Controller → (ℕ → ℕ) → AdminStep

-- whether the admin completion queue is full
abbrev pub is_queue_full : Option CompletionQueue → Bool
is_queue_full None = false
is_queue_full (Some q) = is_full q.size q.head q.tail

-- a completion's entry in memory
abbrev pub with_completion_posted : Option Posted → (ℕ → ℕ) → AdminStep
with_completion_posted None memory = QueueFull
with_completion_posted (Some p) memory = Stepped p.controller (stored memory p.addr p.entry)

-- what a command did, with its answer posted
abbrev pub with_answer : Option (ℕ × StatusField) → (cid : ℕ) → Controller → (ℕ → ℕ) → AdminStep
with_answer None cid c memory = Stepped c memory
with_answer (Some answer) cid c memory = with_completion_posted (post c 0 answer.0 cid answer.1) memory

abbrev pub stepped : AdminEffect → (cid : ℕ) → AdminStep
stepped done cid = with_answer done.answer cid done.controller done.memory

-- the command at the front of the admin queue, where one is
abbrev pub front_command : Option ℕ → (ℕ → Bool) → (blocks : ℕ) → Controller → (ℕ → ℕ) → AdminStep
front_command None mapped blocks c memory = NothingToDo
front_command (Some addr) mapped blocks c memory =
    if is_queue_full (completion_queue c 0) then QueueFull else
    (let entry = bytes_from memory addr sqe_size in
    stepped (admin_command mapped blocks entry (took c 0) memory) (cid_of entry))

-- the deletion that waits: once its queue has no taken commands, the queue goes and the deletion's completion is posted
abbrev pub finish_deletion : Deletion → Controller → (ℕ → ℕ) → AdminStep
finish_deletion d c memory =
    if not (slice_index c.taken d.queue == 0) then NothingToDo else
    if is_queue_full (completion_queue c 0) then QueueFull else
    stepped (answered 0 (record (with_submission c d.queue None) { deletion = None }) memory) d.cid

abbrev pub admin_ready : Option Deletion → (ℕ → Bool) → (blocks : ℕ) → Controller → (ℕ → ℕ) → AdminStep
admin_ready (Some d) mapped blocks c memory = finish_deletion d c memory
admin_ready None mapped blocks c memory = front_command (front c 0) mapped blocks c memory

-- one admin step of a controller whose namespace has `blocks` blocks
unfoldable pub admin : (ℕ → Bool) → (blocks : ℕ) → Controller → (ℕ → ℕ) → AdminStep
admin mapped blocks c memory = if is_ready c then admin_ready c.deletion mapped blocks c memory else NothingToDo
