-- The private controller: what a guest would have if a controller, its memory and its namespace were its own. It has no tags, lanes,
-- shared rings, bounce pages, transcripts or translated addresses. Each step is one atomic change; commands go on in any order (Base
-- Specification 2.0, "Command Ordering Requirements"; NVM Command Set Specification 1.0, "NVM Command Set Commands", for what each does).
use Rattle.std.specs.Prelude.{ℕ, ◌*◌, Bool, true, false, not, ◌&&◌, ◌||◌, ◌==◌, nat_lt, if◌then◌else◌}
use Rattle.std.specs.Prelude.{List, [], ◌∷◌, length, take, drop, filter, replicate, slice_get, Option, Some, None, is_none}
use Rattle.std.specs.List.{list_any, range_with_len}
use Rattle.nv_entry.specs.Layout.{number_bytes}
use Rattle.nv_entry.specs.Submission.{cid_of}
use Rattle.nv_entry.specs.Status.{StatusField}
use Rattle.nv_entry.specs.StatusCode.{done_with}
use Rattle.nv_entry.specs.declared.opcode.IoOpcode.{IoOpcode}
use Rattle.nv_entry.specs.declared.opcode.IoOpcode.TheVariants.{Write, Read, Compare}
use Rattle.nv_entry.specs.declared.status_code.StatusCode.TheVariants.{Success, InternalError, CompareFailure}
use Rattle.nv_mem.specs.GuestMap.{everywhere}
use Rattle.nv_mem.specs.Places.{Place, places_of}
use Rattle.nv_model.specs.declared.act.Act.{Act}
use Rattle.nv_model.specs.declared.act.Act.TheVariants as act
use Rattle.nv_model.specs.declared.reply.Reply.{Reply}
use Rattle.nv_model.specs.declared.reply.Reply.TheVariants as reply
use Rattle.nv_model.specs.Memory.{bytes_from, stored, gathered, scattered}
use Rattle.nv_model.specs.Dialogue.{in_memory}
use Rattle.nv_model.specs.Judge.{WorkUnit, MoveBlock, ClearBlock, LeaveBlock, KeepAll, Work, Verdict, Refuse, Go, judge}
use Rattle.nv_model.specs.Limits.{block}
use Rattle.nv_model.specs.Controller.{Controller, Posted, doorbell, front, is_enabled, opening, post, ran_out, reg_read, reg_write, took}
use Rattle.nv_model.specs.Queue.{sqe_size}
use Rattle.nv_model.specs.Admin.{AdminStep, Stepped, admin}

-- ---- the state

-- how far a taken command is: not judged; ended with a status; or at work, with the numbers of its units that have not moved, and
-- whether a Compare has differed
pub data Progress : Type 0 where
  Unjudged : Progress
  Ended : StatusField → Progress
  AtWork : Work → List ℕ → Bool → Progress

-- a taken command: the queue that it was taken from, its 64 bytes, and how far it is
pub record Taken : Type 0 where
  pub queue : ℕ
  pub entry : List ℕ
  pub progress : Progress

-- taken commands by name; nothing depends on what the names are
abbrev pub Bag : Type 0
Bag = ℕ → Option Taken

-- memory on the guest's mapped addresses; the bytes of each block, by LBA and offset, and its mark; registers and queues; and the
-- commands that are taken
pub record Private : Type 0 where
  pub memory : ℕ → ℕ
  pub disk : ℕ → ℕ → ℕ
  pub kept : ℕ → Bool
  pub controller : Controller
  pub bag : Bag

-- what doesn't change: the guest's addresses that are there, the blocks of its namespace, and the most descriptors of a list
pub record Shape : Type 0 where
  pub mapped : ℕ → Bool
  pub blocks : ℕ
  pub limit : ℕ

-- no command is taken
abbrev pub no_commands : Bag
no_commands name = None

-- the start, with these bytes in memory and blocks: marks are clear
abbrev pub start_with : (memory : ℕ → ℕ) (disk : ℕ → ℕ → ℕ) → Private
start_with memory disk = record { memory = memory; disk = disk; kept = (λ _. false); controller = opening; bag = no_commands }

-- with zeros
unfoldable pub start : Private
start = start_with (λ _. 0) (λ _ _. 0)

-- ---- what a unit does

-- the disk with these bytes in a block
abbrev pub block_written : (ℕ → ℕ → ℕ) → (lba : ℕ) → List ℕ → ℕ → ℕ → ℕ
block_written disk lba bytes at offset = if at == lba then stored (λ _. 0) 0 bytes offset else disk at offset

-- the marks with that of a block as given
abbrev pub marked : (ℕ → Bool) → (lba : ℕ) → Bool → ℕ → Bool
marked kept lba mark at = if at == lba then mark else kept at

-- where the block of this index of a transfer lies in the buffer
abbrev pub places_of_block : Work → (index : ℕ) → List Place
places_of_block work index = take block (drop (block * index) (places_of work.pieces))

-- the bytes of a block
abbrev pub block_bytes : (ℕ → ℕ → ℕ) → (lba : ℕ) → List ℕ
block_bytes disk lba = bytes_from (disk lba) 0 block

-- whether two lists of bytes differ
unfoldable pub differs : List ℕ → List ℕ → Bool
differs [] [] = false
differs [] (y ∷ ys) = true
differs (x ∷ xs) [] = true
differs (x ∷ xs) (y ∷ ys) = not (x == y) || differs xs ys

-- memory, disk and marks after a unit, and whether it was a Compare that differed
pub record Moved : Type 0 where
  pub memory : ℕ → ℕ
  pub disk : ℕ → ℕ → ℕ
  pub kept : ℕ → Bool
  pub differed : Bool

abbrev pub after_unit : (memory : ℕ → ℕ) (disk : ℕ → ℕ → ℕ) (kept : ℕ → Bool) (differed : Bool) → Moved
after_unit memory disk kept differed = record { memory = memory; disk = disk; kept = kept; differed = differed }

-- a block of a transfer, by the command
abbrev pub block_moved : IoOpcode → Work → (index lba : ℕ) → (ℕ → ℕ) → (ℕ → ℕ → ℕ) → (ℕ → Bool) → Moved
-- to the buffer; a set FUA bit makes the block kept
block_moved Read work index lba memory disk kept =
    after_unit (scattered memory (places_of_block work index) (block_bytes disk lba)) disk (marked kept lba (kept lba || work.fua)) false
-- from the buffer
block_moved Write work index lba memory disk kept =
    after_unit memory (block_written disk lba (gathered memory (places_of_block work index))) (marked kept lba work.fua) false
-- against the buffer
block_moved Compare work index lba memory disk kept =
    after_unit memory disk (marked kept lba (kept lba || work.fua))
    (differs (gathered memory (places_of_block work index)) (block_bytes disk lba))
-- the others are no transfers
block_moved _ work index lba memory disk kept = after_unit memory disk kept false

-- a unit of a command
abbrev pub unit_moved : WorkUnit → Work → (ℕ → ℕ) → (ℕ → ℕ → ℕ) → (ℕ → Bool) → Moved
unit_moved (MoveBlock index lba) work memory disk kept = block_moved work.opcode work index lba memory disk kept
unit_moved (ClearBlock lba mark) work memory disk kept =
    after_unit memory (block_written disk lba (replicate block 0)) (marked kept lba mark) false
unit_moved (LeaveBlock lba) work memory disk kept = after_unit memory disk kept false
unit_moved (KeepAll blocks) work memory disk kept = after_unit memory disk (λ lba. nat_lt lba blocks || kept lba) false

-- the status of a command all of whose units have moved
abbrev pub moved_status : (differed : Bool) → StatusField
moved_status differed = if differed then done_with CompareFailure else done_with Success

-- the unit of a number, where it has not moved
abbrev pub unit_left : Work → (left : List ℕ) → (number : ℕ) → Option WorkUnit
unit_left work left number = if list_any (λ k. k == number) left then slice_get work.units number else None

-- the numbers but for this one
abbrev pub others : (number : ℕ) → List ℕ → List ℕ
others number left = filter (λ k. not (k == number)) left

-- the numbers of all units
abbrev pub numbers_of : Work → List ℕ
numbers_of work = range_with_len 0 (length work.units)

-- ---- the bag

-- the bag with this under a name
abbrev pub put : Bag → (name : ℕ) → Option Taken → Bag
put bag name member at = if at == name then member else bag at

-- the bag with the command of a name this far
abbrev pub with_progress : Bag → (name : ℕ) → Taken → Progress → Bag
with_progress bag name t progress = put bag name (Some (record t { progress = progress }))

-- the status with which a command has ended, or none where it has not: it was refused or given up, or all its units have moved
abbrev pub ending : Progress → Option StatusField
ending (Ended st) = Some st
ending (AtWork work [] differed) = Some (moved_status differed)
ending _ = None

-- ---- the steps

-- a step of the private controller, with the names that it chooses
pub data Step : Type 0 where
  -- the guest acts
  ActStep : Act → Step
  -- the front command of an I/O queue is taken, under a name that no other has
  TakeStep : (queue name : ℕ) → Step
  -- a command is judged, in the memory as it is
  JudgeStep : (name : ℕ) → Step
  -- one of its units that have not moved, by its number, moves
  MoveStep : (name number : ℕ) → Step
  -- a command that is not judged ends with Internal Error
  GiveUpStep : (name : ℕ) → Step
  -- an ended command is completed
  PostStep : (name : ℕ) → Step
  -- an ended command leaves without a completion, after EN fell
  RunOutStep : (name : ℕ) → Step
  -- one admin step
  AdminQueueStep : Step
  -- some block becomes kept
  KeepStep : (lba : ℕ) → Step

-- an act as the guest sees it: with its reply
pub record Seen : Type 0 where
  pub act : Act
  pub reply : Reply

-- what a step gives: the state after it, and what the guest sees of it, if it is an act
pub record After : Type 0 where
  pub state : Private
  pub seen : Option Seen

-- a step that the guest doesn't see
abbrev pub unseen : Private → Option After
unseen p = Some (record { state = p; seen = None })

-- what an act does: the state after it, and its reply
pub record Acted : Type 0 where
  pub state : Private
  pub reply : Reply

abbrev pub replied : Reply → Private → Acted
replied r p = record { state = p; reply = r }

-- a change of the controller, or an act that is ignored
abbrev pub controlled : Option Controller → Private → Acted
controlled None p = replied reply.Ignored p
controlled (Some c) p = replied reply.Done (record p { controller = c })

-- a register that was read
abbrev pub register_replied : Option ℕ → Private → Acted
register_replied None p = replied reply.Ignored p
register_replied (Some value) p = replied (reply.Bytes (number_bytes 4 value)) p

-- a guest's act
abbrev pub acted : Shape → Act → Private → Acted
acted shape (act.Store addr bytes) p =
    if everywhere shape.mapped addr (length bytes)
    then replied reply.Done (record p { memory = stored p.memory addr bytes }) else replied reply.Unmapped p
acted shape (act.Load addr len) p =
    if everywhere shape.mapped addr len then replied (reply.Bytes (bytes_from p.memory addr len)) p
    else replied reply.Unmapped p
acted shape (act.RegRead offset) p = register_replied (reg_read p.controller offset) p
acted shape (act.RegWrite offset value) p = controlled (reg_write shape.mapped p.controller offset value) p
acted shape (act.Doorbell offset value) p = controlled (doorbell p.controller offset value) p

-- the step that an act is
abbrev pub act_seen : Act → Acted → After
act_seen a done = record { state = done.state; seen = Some (record { act = a; reply = done.reply }) }

-- a command at that address is taken
abbrev pub taken_at : Option ℕ → (queue name : ℕ) → Private → Option After
taken_at None queue name p = None
taken_at (Some addr) queue name p =
    unseen (record p {
      controller = took p.controller queue;
      bag = put p.bag name (Some (record { queue = queue; entry = bytes_from p.memory addr sqe_size; progress = Unjudged }));
    })

-- an I/O queue, and a name that no command has
abbrev pub may_take : (queue name : ℕ) → Private → Bool
may_take queue name p = nat_lt 0 queue && is_none (p.bag name)

-- where a verdict leads
abbrev pub progress_of : Verdict → Progress
progress_of (Refuse st) = Ended st
progress_of (Go work) = AtWork work (numbers_of work) false

-- the verdict on a command in this memory
abbrev pub verdict_in : Shape → (ℕ → ℕ) → List ℕ → Verdict
verdict_in shape memory entry = in_memory memory (judge shape.mapped shape.limit shape.blocks entry)

-- a command that is not judged is
abbrev pub judged_at : Progress → Shape → (name : ℕ) → Taken → Private → Option After
judged_at Unjudged shape name t p =
    unseen (record p { bag = with_progress p.bag name t (progress_of (verdict_in shape p.memory t.entry)) })
judged_at _ shape name t p = None

-- a command that is not judged is given up
abbrev pub given_up_at : Progress → (name : ℕ) → Taken → Private → Option After
given_up_at Unjudged name t p = unseen (record p { bag = with_progress p.bag name t (Ended (done_with InternalError)) })
given_up_at _ name t p = None

-- a unit moves, and these are left
abbrev pub unit_done : Option WorkUnit → (left : List ℕ) → Work → Bool → (name : ℕ) → Taken → Private → Option After
unit_done None left work differed name t p = None
unit_done (Some unit) left work differed name t p =
    (let m = unit_moved unit work p.memory p.disk p.kept in
    unseen (record p {
      memory = m.memory;
      disk = m.disk;
      kept = m.kept;
      bag = with_progress p.bag name t (AtWork work left (differed || m.differed));
    }))

abbrev pub moved_at : Progress → (number name : ℕ) → Taken → Private → Option After
moved_at (AtWork work left differed) number name t p =
    unit_done (unit_left work left number) (others number left) work differed name t p
moved_at _ number name t p = None

-- a completion is posted, and its command is taken no longer
abbrev pub posted_at : Option Posted → (name : ℕ) → Private → Option After
posted_at None name p = None
posted_at (Some posted) name p =
    unseen (record p {
      memory = stored p.memory posted.addr posted.entry;
      controller = posted.controller;
      bag = put p.bag name None;
    })

-- an ended command is completed while the controller is enabled
abbrev pub completed_at : Option StatusField → (name : ℕ) → Taken → Private → Option After
completed_at None name t p = None
completed_at (Some st) name t p =
    if is_enabled p.controller then posted_at (post p.controller t.queue 0 (cid_of t.entry) st) name p else None

-- an ended command runs out while it is not
abbrev pub run_out_at : Option StatusField → (name : ℕ) → Taken → Private → Option After
run_out_at None name t p = None
run_out_at (Some st) name t p =
    if is_enabled p.controller then None else
    unseen (record p { controller = ran_out p.controller t.queue; bag = put p.bag name None })

-- what is done with a command that is taken
abbrev pub with_taken : Option Taken → (Taken → Option After) → Option After
with_taken None change = None
with_taken (Some t) change = change t

-- an admin step
abbrev pub administered : AdminStep → Private → Option After
administered (Stepped c memory) p = unseen (record p { memory = memory; controller = c })
administered _ p = None

-- the state after a step, or none where the step can't be made
unfoldable pub step : Shape → Step → Private → Option After
step shape (ActStep a) p = Some (act_seen a (acted shape a p))
step shape (TakeStep queue name) p =
    if may_take queue name p then taken_at (front p.controller queue) queue name p else None
step shape (JudgeStep name) p = with_taken (p.bag name) (λ t. judged_at t.progress shape name t p)
step shape (MoveStep name number) p = with_taken (p.bag name) (λ t. moved_at t.progress number name t p)
step shape (GiveUpStep name) p = with_taken (p.bag name) (λ t. given_up_at t.progress name t p)
step shape (PostStep name) p = with_taken (p.bag name) (λ t. completed_at (ending t.progress) name t p)
step shape (RunOutStep name) p = with_taken (p.bag name) (λ t. run_out_at (ending t.progress) name t p)
step shape AdminQueueStep p = administered (admin shape.mapped shape.blocks p.controller p.memory) p
step shape (KeepStep lba) p =
    if nat_lt lba shape.blocks then unseen (record p { kept = marked p.kept lba true }) else None

-- ---- runs

-- the end of a run, and what of it is visible: the acts with their replies, in order
pub record Run : Type 0 where
  pub state : Private
  pub seen : List Seen

-- what is seen of a step, and after it
abbrev pub with_seen : Option Seen → List Seen → List Seen
with_seen None seen = seen
with_seen (Some a) seen = a ∷ seen

abbrev pub further : Option After → (Private → Option Run) → Option Run
further None rest = None
further (Some after) rest = seen_before after.seen (rest after.state)
  where
    seen_before : Option Seen → Option Run → Option Run
    seen_before a None = None
    seen_before a (Some tail) = Some (record { state = tail.state; seen = with_seen a tail.seen })

-- the run of these steps from a state, or none where one of them can't be made
unfoldable pub run_of : Shape → List Step → Private → Option Run
run_of shape [] p = Some (record { state = p; seen = [] })
run_of shape (s ∷ steps) p = further (step shape s p) (λ q. run_of shape steps q)
