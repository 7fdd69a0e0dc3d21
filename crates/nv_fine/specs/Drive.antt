-- The drive, byte by byte: what it may do in the host's memory and to the blocks of the disk, access by access. What a reader grants of a drive is that each
-- of its accesses is one of these. *Base* is NVM Express Base Specification 2.0, *NVM* is NVM Command Set Specification 1.0.
use Rattle.std.specs.Prelude.{ℕ, ◌+◌, Bool, true, false, not, ◌&&◌, ◌||◌, ◌==◌, nat_le, nat_lt, if◌then◌else◌, List, [], ◌∷◌, ◌++◌, filter, length}
use Rattle.std.specs.Prelude.{slice_get, slice_set, Option, Some, None, is_none, is_some, option_and_then, option_map, unwrap_or}
use Rattle.std.specs.List.{list_all, list_any}
use Rattle.nv_entry.specs.Completion.{cid_of as completed_cid, phase_of, sqid_of, status_of}
use Rattle.nv_entry.specs.Status.{StatusField, bit}
use Rattle.nv_entry.specs.Submission.{cid_of}
use Rattle.nv_mem.specs.GuestMap.{everywhere}
use Rattle.nv_mem.specs.Places.{At, Bucket, Place, places_of}
use Rattle.nv_model.specs.Dialogue.{Ask, Dialogue, End, asked, in_memory}
use Rattle.nv_model.specs.Judge.{ClearBlock, Form, Go, LeaveBlock, Manage, MoveBlock, Refuse, Verdict, Work, WorkUnit, form_of, is_read, judge}
use Rattle.nv_model.specs.Limits.{most_descriptors}
use Rattle.nv_model.specs.Memory.{bytes_from, stored}
use Rattle.nv_model.specs.Private.{Moved, marked, moved_status, numbers_of, others, places_of_block, unit_left, unit_moved}
use Rattle.nv_model.specs.Queue.{ahead, cqe_size, is_empty, next_slot, sqe_size}
use Rattle.nv_world_model.specs.Area.{completion_slot, queue_pair, ring_size, submission_slot}
use Rattle.nv_world_model.specs.Device.{next_phase}
use Rattle.nv_world_model.specs.Geometry.{Geometry}
use Rattle.nv_world_model.specs.Step.{is_success}
use Rattle.nv_world_model.specs.View.{lies_in}

-- ---- the state

-- bytes that the drive has, by host address
abbrev pub Buffer : Type 0
Buffer = ℕ → Option ℕ

-- a command in the drive: what it has read of list and source, or has from the disk for its destination; once the list is read what it does, the units that are
-- left, and whether a Compare has differed; and the places where it has yet to write (Base, "Command Processing")
pub record Working : Type 0 where
  pub entry : List ℕ
  pub buffer : Buffer
  pub work : Option Work
  pub left : List ℕ
  pub differed : Bool
  pub owed : List Place

-- a lane in the drive: the slot that is taken next, and what was read of slots; the slot of the completion ring that is written next, and the phase tag of this
-- pass; and commands by identifier (Base, "Memory-based Transport Queue Model")
pub record DriveLane : Type 0 where
  pub head : ℕ
  pub seen : Buffer
  pub posted : ℕ
  pub phase : Bool
  pub working : List (Option Working)

-- what is outside of the mediator: the host's memory, blocks with their marks, and the lanes in the drive
pub record Outside : Type 0 where
  pub memory : ℕ → ℕ
  pub disk : ℕ → ℕ → ℕ
  pub kept : ℕ → Bool
  pub lanes : List DriveLane

-- ---- bytes and places

abbrev pub byte_of : Buffer → (at : ℕ) → ℕ
byte_of buffer at = unwrap_or (buffer at) 0

abbrev pub has : Buffer → (at len : ℕ) → Bool
has buffer at len = everywhere (λ a. is_some (buffer a)) at len

-- a byte that is read takes the place of one that was read there before
abbrev pub noted : (at : ℕ) → (memory : ℕ → ℕ) → Buffer → Buffer
noted at memory buffer a = if a == at then Some (memory at) else buffer a

abbrev pub is_at : (at : ℕ) → Place → Bool
is_at at (At a) = a == at
is_at at Bucket = false

abbrev pub has_place : Buffer → Place → Bool
has_place buffer (At at) = is_some (buffer at)
has_place buffer Bucket = false

-- ---- what an entry names

-- as any controller reads it, all host addresses being there (Base, "Physical Region Page Entry and List"; NVM, "NVM Command Set Commands")
abbrev pub reading : Geometry → (entry : List ℕ) → Dialogue Verdict
reading geometry entry = judge (λ _. true) most_descriptors geometry.disk_blocks entry

-- what that ends in by bytes that were read, once each that it asks for was
unfoldable pub known : {A : Type 0} → Buffer → Dialogue A → Option A
known buffer (End value) = Some value
known buffer (Ask addr unit left next) = if has buffer addr unit then known buffer (next (bytes_from (byte_of buffer) addr unit)) else None

abbrev pub source_of : Verdict → List Place
source_of (Refuse st) = []
source_of (Go work) = if is_read work.opcode then [] else places_of work.pieces

-- list and source, as memory has the list now, and the source by the list that was read
abbrev pub may_see : Dialogue Verdict → (memory : ℕ → ℕ) → Option Work → (at : ℕ) → Bool
may_see d memory work at =
    lies_in (asked memory d) at || list_any (is_at at) (source_of (in_memory memory d) ++ unwrap_or (option_map (λ w. source_of (Go w)) work) [])

-- ---- units

-- each is done once; but a Read may get its block again
abbrev pub unit_due : Work → (left : List ℕ) → (number : ℕ) → Option WorkUnit
unit_due work left number = if is_read work.opcode then slice_get work.units number else unit_left work left number

-- a deallocated block may stay as it is, unless the set-up says that it reads zeros (NVM, "Deallocated or Unwritten Logical Blocks")
abbrev pub chosen : (zeroes leaves : Bool) → Form → WorkUnit → Option WorkUnit
chosen zeroes false form unit = Some unit
chosen false true Manage (ClearBlock lba mark) = Some (LeaveBlock lba)
chosen zeroes leaves form unit = None

abbrev pub places_at : WorkUnit → Work → List Place
places_at (MoveBlock index lba) work = places_of_block work index
places_at unit work = []

-- the bytes of a destination are the drive's from the unit on, and it owes them
abbrev pub with_unit : (number : ℕ) → (got : List Place) → Moved → Working → Working
with_unit number got m w =
    record w {
      buffer = (λ a. if list_any (is_at a) got then Some (m.memory a) else w.buffer a);
      left = others number w.left;
      differed = w.differed || m.differed;
      owed = got ++ w.owed;
    }

-- ---- completions

-- one that did not fail has done all units and written all places, and says so (Base, "Status Field Definition")
abbrev pub has_done : Working → StatusField → Bool
has_done w st =
    (let own = moved_status w.differed in
    is_some w.work && length w.left == 0 && length w.owed == 0 && st.sct == own.sct && st.sc == own.sc && not (w.differed && st.dnr))

-- DW0, DW1, the head, and the bits CRD and More may be anything
abbrev pub is_answer : (lane id : ℕ) → (fails : Bool) → (completion : List ℕ) → Working → (phase : Bool) → Bool
is_answer lane id fails completion w phase =
    completed_cid completion == id && sqid_of completion == queue_pair lane && phase_of completion == bit phase
    && (if fails then not (is_success (status_of completion)) else has_done w (status_of completion))

-- ---- the accesses

pub data DriveAccess : Type 0 where
  SeesEntry : (lane slot i : ℕ) → DriveAccess
  Takes : (lane : ℕ) → DriveAccess
  Sees : (lane id at : ℕ) → DriveAccess
  Knows : (lane id : ℕ) → DriveAccess
  Does : (lane id number : ℕ) → (leaves : Bool) → DriveAccess
  Writes : (lane id at : ℕ) → DriveAccess
  Answers : (lane i byte : ℕ) → DriveAccess
  Completes : (lane id : ℕ) → (fails : Bool) → (byte : ℕ) → DriveAccess
  Keeps : (block : ℕ) → DriveAccess

abbrev pub when : Bool → Outside → Option Outside
when may o = if may then Some o else None

abbrev pub put : (lane id : ℕ) → Option Working → DriveLane → Outside → Outside
put lane id w d o = record o { lanes = slice_set o.lanes lane (record d { working = slice_set d.working id w }) }

abbrev pub on_lane : Outside → (lane : ℕ) → (DriveLane → Option Outside) → Option Outside
on_lane o lane rule = option_and_then rule (slice_get o.lanes lane)

abbrev pub on_tail : Outside → (lane : ℕ) → (tails : List ℕ) → (DriveLane → ℕ → Option Outside) → Option Outside
on_tail o lane tails rule = on_lane o lane (λ d. option_and_then (rule d) (slice_get tails lane))

abbrev pub on_working : Outside → (lane id : ℕ) → (Working → DriveLane → Option Outside) → Option Outside
on_working o lane id rule = on_lane o lane (λ d. option_and_then (λ slot. option_and_then (λ w. rule w d) slot) (slice_get d.working id))

abbrev pub on_work : Outside → (lane id : ℕ) → (Work → Working → DriveLane → Option Outside) → Option Outside
on_work o lane id rule = on_working o lane id (λ w d. option_and_then (λ work. rule work w d) w.work)

abbrev pub with_verdict : Option Verdict → (Work → Option Outside) → Option Outside
with_verdict (Some (Go work)) rule = rule work
with_verdict _ rule = None

-- what an access leads to where it may happen, with the submission rings' tails as the doorbells have them
unfoldable pub driven : Geometry → (zeroes : Bool) → (tails : List ℕ) → DriveAccess → Outside → Option Outside
-- a byte of an entry is read, at any times from its doorbell on, until it is taken (Base, "Submission Queue Entry")
driven geometry zeroes tails (SeesEntry lane slot i) o = on_tail o lane tails (λ d tail.
    when (nat_lt i sqe_size && nat_lt slot ring_size && nat_lt (ahead ring_size d.head slot) (ahead ring_size d.head tail))
    (record o { lanes = slice_set o.lanes lane (record d { seen = noted (submission_slot geometry.mediator lane slot + i) o.memory d.seen }) }))
-- entries are taken in order (Base, "Memory-based Transport Queue Model")
driven geometry zeroes tails (Takes lane) o = on_tail o lane tails (λ d tail.
    (let at = submission_slot geometry.mediator lane d.head in let entry = bytes_from (byte_of d.seen) at sqe_size in
    when (not (is_empty d.head tail) && has d.seen at sqe_size)
    (put lane (cid_of entry) (Some (record { entry = entry; buffer = (λ _. None); work = None; left = []; differed = false; owed = [] }))
    (record d { head = next_slot ring_size d.head; seen = (λ a. if nat_le at a && nat_lt a (at + sqe_size) then None else d.seen a) }) o)))
-- a byte of list or source is read, at any times, as often as it likes (Base, "Physical Region Page Entry and List")
driven geometry zeroes tails (Sees lane id at) o = on_working o lane id (λ w d.
    when (may_see (reading geometry w.entry) o.memory w.work at) (put lane id (Some (record w { buffer = noted at o.memory w.buffer })) d o))
-- the list is known
driven geometry zeroes tails (Knows lane id) o = on_working o lane id (λ w d. with_verdict (known w.buffer (reading geometry w.entry)) (λ work.
    when (is_none w.work) (put lane id (Some (record w { work = Some work; left = numbers_of work })) d o)))
-- a unit is done at one moment, since a block is atomic, with bytes of the source that were read before (NVM, "Atomic Operations", "NVM Command Set Commands")
driven geometry zeroes tails (Does lane id number leaves) o = on_work o lane id (λ work w d.
    option_and_then (λ unit. (let m = unit_moved unit work (byte_of w.buffer) o.disk o.kept in
    when (is_read work.opcode || list_all (has_place w.buffer) (places_at unit work))
    (put lane id (Some (with_unit number (if is_read work.opcode then places_at unit work else []) m w)) d (record o { disk = m.disk; kept = m.kept }))))
    (option_and_then (chosen zeroes leaves (form_of work.opcode)) (unit_due work w.left number)))
-- a byte of the block is written to the destination: in any pieces and order, any number of times (NVM, "Read command")
driven geometry zeroes tails (Writes lane id at) o = on_work o lane id (λ work w d. option_and_then (λ byte.
    when (is_read work.opcode && list_any (is_at at) (places_of work.pieces))
    (put lane id (Some (record w { owed = filter (λ p. not (is_at at p)) w.owed })) d (record o { memory = stored o.memory at (byte ∷ []) }))) (w.buffer at))
-- a byte of the next completion is written, with any value, as long as the completion has not the phase tag (Base, "Phase Tag")
driven geometry zeroes tails (Answers lane i byte) o = on_lane o lane (λ d.
    (let slot = completion_slot geometry.mediator lane d.posted in let memory = stored o.memory (slot + i) (byte ∷ []) in
    when (list_any is_some d.working && nat_lt i cqe_size && not (phase_of (bytes_from memory slot cqe_size) == bit d.phase)) (record o { memory = memory })))
-- the byte with the phase tag is written last. The command is in the drive no longer; one that failed has done any part (Base, "Phase Tag")
driven geometry zeroes tails (Completes lane id fails byte) o = on_working o lane id (λ w d.
    (let slot = completion_slot geometry.mediator lane d.posted in let memory = stored o.memory (slot + 14) (byte ∷ []) in
    when (is_answer lane id fails (bytes_from memory slot cqe_size) w d.phase)
    (put lane id None (record d { posted = next_slot ring_size d.posted; phase = next_phase d.posted d.phase }) (record o { memory = memory }))))
-- a block of its cache is kept (NVM, "Flush command")
driven geometry zeroes tails (Keeps block) o = Some (record o { kept = marked o.kept block true })
