-- A controller's registers and queues: Base Specification 2.0, "Controller Properties" (CAP, VS, CC, CSTS, AQA, ASQ, ACQ), "Controller
-- Initialization"; doorbells: NVMe over PCIe Transport Specification 1.0, "Doorbell". Registers are read and written in dwords; what
-- a write that is not allowed does, and which doorbell values are taken, is the project's own (profile).
use Rattle.std.specs.Prelude.{ℕ, ◌+◌, ◌-◌, ◌*◌, ◌/◌, ◌%◌, ◌^◌, Bool, true, false, not, ◌&&◌, ◌==◌, nat_le, nat_lt, if◌then◌else◌, List, map, sum, slice_index}
use Rattle.std.specs.Prelude.{slice_get, slice_set, replicate, Option, Some, None}
use Rattle.nv_entry.specs.Layout.{bits}
use Rattle.nv_entry.specs.Status.{StatusField, bit}
use Rattle.nv_entry.specs.Completion.{completion}
use Rattle.nv_mem.specs.GuestMap.{everywhere}
use Rattle.nv_model.specs.Queue.{SubmissionQueue, CompletionQueue, ahead, cqe_size, front_taken, is_empty, is_full, new_completion, new_submission, after_post, raised, sqe_size}
use Rattle.nv_model.specs.Limits.{last_queue, most_slots, page}

-- a deletion of an I/O submission queue that waits for the queue's taken commands
pub record Deletion : Type 0 where
  pub cid : ℕ
  pub queue : ℕ

-- the registers as they were last written, RDY and CFS of CSTS, the queues by number (0 is the admin queue), how many commands of each
-- queue are taken, how many event requests are held, and a deletion that waits
pub record Controller : Type 0 where
  pub cc : ℕ
  pub aqa : ℕ
  pub asq_low : ℕ
  pub asq_high : ℕ
  pub acq_low : ℕ
  pub acq_high : ℕ
  pub ready : Bool
  pub failed : Bool
  pub submission : List (Option SubmissionQueue)
  pub completion_queues : List (Option CompletionQueue)
  pub taken : List ℕ
  pub held_requests : ℕ
  pub deletion : Option Deletion

-- queue numbers: the admin queue and eight I/O queues
abbrev pub queue_count : ℕ
queue_count = last_queue + 1

-- no queue is there
abbrev pub no_queues : {Q : Type 0} → List (Option Q)
no_queues = replicate queue_count None

-- the controller at the start
unfoldable pub opening : Controller
opening = record {
  cc = 0;
  aqa = 0;
  asq_low = 0;
  asq_high = 0;
  acq_low = 0;
  acq_high = 0;
  ready = false;
  failed = false;
  submission = no_queues;
  completion_queues = no_queues;
  taken = replicate queue_count 0;
  held_requests = 0;
  deletion = None;
}

-- the queue of this number, or none
abbrev pub queue_of : {Q : Type 0} → Option (Option Q) → Option Q
queue_of None = None
queue_of (Some queue) = queue

abbrev pub submission_queue : Controller → ℕ → Option SubmissionQueue
submission_queue c y = queue_of (slice_get c.submission y)

abbrev pub completion_queue : Controller → ℕ → Option CompletionQueue
completion_queue c y = queue_of (slice_get c.completion_queues y)

-- the controller with that queue changed
abbrev pub with_submission : Controller → ℕ → Option SubmissionQueue → Controller
with_submission c y queue = record c { submission = slice_set c.submission y queue }

abbrev pub with_completion : Controller → ℕ → Option CompletionQueue → Controller
with_completion c y queue = record c { completion_queues = slice_set c.completion_queues y queue }

-- CC.EN
abbrev pub is_enabled : Controller → Bool
is_enabled c = bits c.cc 0 0 == 1

-- ready: EN and RDY are both 1
abbrev pub is_ready : Controller → Bool
is_ready c = is_enabled c && c.ready

-- how many I/O commands are taken
abbrev pub running : Controller → ℕ
running c = sum c.taken

-- ---- reads

-- CAP: 1,024 slots, contiguous queues required, timeout 1, stride 0, NVM command set, 4 KiB pages
abbrev pub cap_low : ℕ
cap_low = 0x010103ff

abbrev pub cap_high : ℕ
cap_high = 0x00000020

-- VS: version 2.0
abbrev pub version : ℕ
version = 0x00020000

-- the dword at an offset; what is no register reads 0
unfoldable pub register : Controller → ℕ → ℕ
register c offset =
    if offset == 0x00 then cap_low else
    if offset == 0x04 then cap_high else
    if offset == 0x08 then version else
    if offset == 0x14 then c.cc else
    if offset == 0x1c then bit c.ready + 2 * bit c.failed else
    if offset == 0x24 then c.aqa else
    if offset == 0x28 then c.asq_low else
    if offset == 0x2c then c.asq_high else
    if offset == 0x30 then c.acq_low else
    if offset == 0x34 then c.acq_high else 0

-- a read of a register, or none where it is ignored
abbrev pub reg_read : Controller → ℕ → Option ℕ
reg_read c offset = if offset % 4 == 0 then Some (register c offset) else None

-- ---- writes

-- the admin queues' sizes, counted from 0 in AQA, and their bases
abbrev pub admin_submission_size : Controller → ℕ
admin_submission_size c = bits c.aqa 11 0 + 1

abbrev pub admin_completion_size : Controller → ℕ
admin_completion_size c = bits c.aqa 27 16 + 1

abbrev pub admin_submission_base : Controller → ℕ
admin_submission_base c = c.asq_low + 2 ^ 32 * c.asq_high

abbrev pub admin_completion_base : Controller → ℕ
admin_completion_base c = c.acq_low + 2 ^ 32 * c.acq_high

-- a queue may have 2 to 1,024 slots
abbrev pub size_fits : ℕ → Bool
size_fits size = nat_le 2 size && nat_le size most_slots

-- a queue may lie there: from a page's start on, wholly in the guest's memory
abbrev pub base_fits : (ℕ → Bool) → (base len : ℕ) → Bool
base_fits mapped base len = base % page == 0 && everywhere mapped base len

-- whether the admin queues that the registers name can be made
abbrev pub can_enable : (ℕ → Bool) → Controller → Bool
can_enable mapped c =
    size_fits (admin_submission_size c) && size_fits (admin_completion_size c)
    && base_fits mapped (admin_submission_base c) (sqe_size * admin_submission_size c)
    && base_fits mapped (admin_completion_base c) (cqe_size * admin_completion_size c)

-- EN from 0 to 1: the admin queues are made and RDY becomes 1, or CFS does; the admin completion queue uses vector 0
abbrev pub enabled : (ℕ → Bool) → Controller → Controller
enabled mapped c =
    if can_enable mapped c then
    record c {
      ready = true;
      submission = slice_set c.submission 0 (Some (new_submission (admin_submission_base c) (admin_submission_size c) 0));
      completion_queues = slice_set c.completion_queues 0 (Some (new_completion (admin_completion_base c) (admin_completion_size c) (Some 0)));
    }
    else record c { failed = true }

-- EN from 1 to 0: all queues, held event requests and a waiting deletion are dropped; RDY falls once no command is taken
abbrev pub reset : Controller → Controller
reset c = record c {
  ready = c.ready && not (running c == 0);
  failed = false;
  submission = no_queues;
  completion_queues = no_queues;
  held_requests = 0;
  deletion = None;
}

-- a write of CC with this EN, before and after; enabling is ignored while commands of an earlier enabling run out
abbrev pub cc_written : (was now : Bool) → (ℕ → Bool) → Controller → ℕ → Option Controller
cc_written true true mapped c value = Some (record c { cc = value })
cc_written false false mapped c value = Some (record c { cc = value })
cc_written true false mapped c value = Some (reset (record c { cc = value }))
cc_written false true mapped c value =
    if running c == 0 then Some (enabled mapped (record c { cc = value })) else None

-- a write of an admin queue register, which is ignored while EN is 1
abbrev pub admin_register_written : Controller → (offset value : ℕ) → Option Controller
admin_register_written c offset value =
    if is_enabled c then None else
    if offset == 0x24 then Some (record c { aqa = value }) else
    if offset == 0x28 then Some (record c { asq_low = value }) else
    if offset == 0x2c then Some (record c { asq_high = value }) else
    if offset == 0x30 then Some (record c { acq_low = value }) else
    if offset == 0x34 then Some (record c { acq_high = value }) else None

-- a write of a register, or none where it is ignored
unfoldable pub reg_write : (ℕ → Bool) → Controller → (offset value : ℕ) → Option Controller
reg_write mapped c offset value =
    if offset == 0x14 then cc_written (is_enabled c) (bits value 0 0 == 1) mapped c value
    else admin_register_written c offset value

-- ---- doorbells

-- a submission queue's tail is taken where it is a slot; a queue that is being deleted ignores it
abbrev pub tail_rung : Option SubmissionQueue → Controller → (y tail : ℕ) → Option Controller
tail_rung None c y tail = None
tail_rung (Some q) c y tail =
    if not q.closing && nat_lt tail q.size then Some (with_submission c y (Some (record q { tail = tail }))) else None

-- a completion queue's head is taken where it lies from the old head up to the tail, going round
abbrev pub head_rung : Option CompletionQueue → Controller → (y head : ℕ) → Option Controller
head_rung None c y head = None
head_rung (Some q) c y head =
    if nat_lt head q.size && nat_le (ahead q.size q.head head) (ahead q.size q.head q.tail)
    then Some (with_completion c y (Some (record q { head = head }))) else None

-- the doorbell at an offset, of the queue y: submission queues at 1000h + 8 y, completion queues at 1004h + 8 y
abbrev pub rung : Controller → (y in_pair value : ℕ) → Option Controller
rung c y in_pair value =
    if in_pair == 0 then tail_rung (submission_queue c y) c y value else
    if in_pair == 4 then head_rung (completion_queue c y) c y value else None

-- a write of a doorbell, of which the low 16 bits count; or none where it is ignored
unfoldable pub doorbell : Controller → (offset value : ℕ) → Option Controller
doorbell c offset value =
    if is_ready c && nat_le 0x1000 offset
    then rung c ((offset - 0x1000) / 8) ((offset - 0x1000) % 8) (bits value 15 0) else None

-- ---- commands

-- where the front entry of a queue is, or none where nothing may be taken
abbrev pub front_of : Option SubmissionQueue → Option ℕ
front_of None = None
front_of (Some q) =
    if q.closing then None else
    if is_empty q.head q.tail then None else Some (q.base + sqe_size * q.head)

unfoldable pub front : Controller → ℕ → Option ℕ
front c y = if is_ready c then front_of (submission_queue c y) else None

-- one more, or one fewer, command of an I/O queue is taken; admin commands are not counted
abbrev pub taken_more : Controller → ℕ → List ℕ
taken_more c y = if y == 0 then c.taken else slice_set c.taken y (slice_index c.taken y + 1)

abbrev pub taken_less : Controller → ℕ → List ℕ
taken_less c y = if y == 0 then c.taken else slice_set c.taken y (slice_index c.taken y - 1)

-- the front entry of a queue is taken
abbrev pub took_of : Option SubmissionQueue → Controller → ℕ → Controller
took_of None c y = c
took_of (Some q) c y = record (with_submission c y (Some (front_taken q))) { taken = taken_more c y }

unfoldable pub took : Controller → ℕ → Controller
took c y = took_of (submission_queue c y) c y

-- a completion as it is posted: where its entry goes, the entry, and the controller after it
pub record Posted : Type 0 where
  pub addr : ℕ
  pub entry : List ℕ
  pub controller : Controller

abbrev pub post_to : Option CompletionQueue → Controller → SubmissionQueue → (y dw0 cid : ℕ) → StatusField → Option Posted
post_to None c q y dw0 cid st = None
post_to (Some cq) c q y dw0 cid st =
    if is_full cq.size cq.head cq.tail then None else
    Some (record {
      addr = cq.base + cqe_size * cq.tail;
      entry = completion dw0 q.head y cid cq.phase st;
      controller = record (with_completion c q.completes_to (Some (after_post cq))) { taken = taken_less c y };
    })

abbrev pub post_from : Option SubmissionQueue → Controller → (y dw0 cid : ℕ) → StatusField → Option Posted
post_from None c y dw0 cid st = None
post_from (Some q) c y dw0 cid st = post_to (completion_queue c q.completes_to) c q y dw0 cid st

-- the completion of a command of queue y, or none where its completion queue is full: it carries the submission queue's head as it is
-- now
unfoldable pub post : Controller → (y dw0 cid : ℕ) → StatusField → Option Posted
post c y dw0 cid st = post_from (submission_queue c y) c y dw0 cid st

-- a command of queue y runs out after a reset: no completion; RDY falls with the last one
unfoldable pub ran_out : Controller → ℕ → Controller
ran_out c y = record c { taken = taken_less c y; ready = c.ready && not (sum (taken_less c y) == 0) }

-- ---- interrupts

-- the vectors that are pending, by the number of the completion queue that raises them
abbrev pub pending : Controller → List (Option ℕ)
pending c = map raised c.completion_queues
