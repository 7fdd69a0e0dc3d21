-- The physical controller, lane by lane: it takes entries from a submission ring, moves their units in any order, and
-- posts completions (Base Specification 2.0, "Memory-based Transport Queue Model", "Submission Queue Entry",
-- "Completion Queue Entry"). It finds a command's bytes by PRP over all host addresses. That a real controller acts
-- so is a premise.
use Rattle.std.specs.Prelude.{ℕ, ◌+◌, ◌*◌, Bool, true, false, not, ◌&&◌, ◌==◌, if◌then◌else◌, List, [], ◌∷◌, drop, replicate, slice_set, take, Option, Some, None}
use Rattle.std.specs.List.{range_with_len}
use Rattle.nv_entry.specs.Completion.{completion}
use Rattle.nv_entry.specs.Opcode.{io_opcode}
use Rattle.nv_entry.specs.Status.{StatusField}
use Rattle.nv_entry.specs.Submission.{cid_of, opcode_of, prp1_of, prp2_of, slba_of}
use Rattle.nv_entry.specs.declared.opcode.IoOpcode.{IoOpcode}
use Rattle.nv_mem.specs.Places.{places_of}
use Rattle.nv_mem.specs.declared.piece.Piece.{Piece}
use Rattle.nv_model.specs.Carried.{block_work, units_moved}
use Rattle.nv_model.specs.Dialogue.{in_memory}
use Rattle.nv_model.specs.Judge.{Clear, ClearBlock, Form, Keep, KeepAll, Manage, MoveBlock, Transfer, WorkUnit, count_of, deallocates, form_of, has_blocks}
use Rattle.nv_model.specs.Judge.{is_fua, one_range_units, range_count_of, transfer_len}
use Rattle.nv_model.specs.Limits.{range_size}
use Rattle.nv_model.specs.Memory.{bytes_from, gathered, stored}
use Rattle.nv_model.specs.Private.{Moved, moved_status, others}
use Rattle.nv_model.specs.Prp.{read_prp}
use Rattle.nv_model.specs.Queue.{next_slot, sqe_size}
use Rattle.nv_model.specs.Reading.{Reading, Spells}
use Rattle.nv_world_model.specs.Area.{completion_slot, queue_pair, ring_size, submission_slot, tag_count}

-- ---- the state

-- a command in the device: its entry, where its bytes lie in the host, the numbers of its units that have not moved,
-- and whether a Compare has differed
pub record Held : Type 0 where
  pub entry : List ℕ
  pub pieces : List Piece
  pub left : List ℕ
  pub differed : Bool

-- a lane: head and tail of its submission ring, the tail as the doorbell has it; the slot of its completion ring that is written next, and the phase tag of
-- this pass; and the commands in the device, by identifier
pub record DeviceLane : Type 0 where
  pub head : ℕ
  pub tail : ℕ
  pub posted : ℕ
  pub phase : Bool
  pub held : List (Option Held)

-- the rings are there and empty at the start, phase tag 1
abbrev pub opening_device_lane : DeviceLane
opening_device_lane = record { head = 0; tail = 0; posted = 0; phase = true; held = replicate tag_count None }

-- the phase tag of the pass that has the slot after `at`
abbrev pub next_phase : (at : ℕ) → Bool → Bool
next_phase at phase = if next_slot ring_size at == 0 then not phase else phase

-- ---- ring

-- the doorbell of the submission ring: one more entry is there
abbrev pub rung : DeviceLane → DeviceLane
rung d = record d { tail = next_slot ring_size d.tail }

-- ---- take

-- the pieces that a reading spells
abbrev pub pieces_spelled : Reading → List Piece
pieces_spelled (Spells pieces) = pieces
pieces_spelled _ = []

-- where the bytes of a transfer of that length lie
abbrev pub pieces_named : (len : ℕ) → (entry : List ℕ) → (host : ℕ → ℕ) → List Piece
pieces_named len entry host = pieces_spelled (in_memory host (read_prp (λ _. true) (prp1_of entry) (prp2_of entry) len))

-- where the bytes of a command of that opcode lie; one without a transfer names none
abbrev pub host_pieces : Option IoOpcode → (entry : List ℕ) → (host : ℕ → ℕ) → List Piece
host_pieces None entry host = []
host_pieces (Some opcode) entry host =
    if transfer_len opcode entry == 0 then [] else pieces_named (transfer_len opcode entry) entry host

-- how many units a command of that form has: one for each block, for each range, or for the whole
abbrev pub form_unit_count : Form → (entry : List ℕ) → ℕ
form_unit_count Manage entry = range_count_of entry
form_unit_count Keep entry = 1
form_unit_count _ entry = count_of entry

abbrev pub unit_count : Option IoOpcode → (entry : List ℕ) → ℕ
unit_count None entry = 0
unit_count (Some opcode) entry = form_unit_count (form_of opcode) entry

-- a command as it is taken
unfoldable pub held_of : (entry : List ℕ) → (host : ℕ → ℕ) → Held
held_of entry host =
    record {
      entry = entry;
      pieces = host_pieces (io_opcode (opcode_of entry)) entry host;
      left = range_with_len 0 (unit_count (io_opcode (opcode_of entry)) entry);
      differed = false;
    }

-- the front entry of a lane's submission ring
abbrev pub front_entry : (mediator lane : ℕ) → DeviceLane → (host : ℕ → ℕ) → List ℕ
front_entry mediator lane d host = bytes_from host (submission_slot mediator lane d.head) sqe_size

-- the lane with that entry taken, under its identifier
abbrev pub entry_taken : (entry : List ℕ) → (host : ℕ → ℕ) → DeviceLane → DeviceLane
entry_taken entry host d =
    record d { head = next_slot ring_size d.head; held = slice_set d.held (cid_of entry) (Some (held_of entry host)) }

-- ---- move

-- a range of a Dataset Management, by its number
abbrev pub range_at : (number : ℕ) → List Piece → (host : ℕ → ℕ) → List ℕ
range_at number pieces host = gathered host (take range_size (drop (range_size * number) (places_of pieces)))

-- what a unit of a command of that form does, as units of the disk's blocks: a unit of Dataset Management is a whole
-- range
abbrev pub form_moves : Form → (number disk_blocks : ℕ) → Held → (host : ℕ → ℕ) → List WorkUnit
form_moves (Transfer dest) number disk_blocks h host = MoveBlock number (slba_of h.entry + number) ∷ []
form_moves Clear number disk_blocks h host = ClearBlock (slba_of h.entry + number) (is_fua h.entry) ∷ []
form_moves Manage number disk_blocks h host = one_range_units (deallocates h.entry) (range_at number h.pieces host)
form_moves Keep number disk_blocks h host = KeepAll disk_blocks ∷ []

-- memory, disk and marks after a unit of a command of that opcode
abbrev pub moved_by : Option IoOpcode → (number disk_blocks : ℕ) → Held → Moved → Moved
moved_by None number disk_blocks h m = m
moved_by (Some opcode) number disk_blocks h m =
    units_moved (form_moves (form_of opcode) number disk_blocks h m.memory)
    (block_work opcode h.pieces (has_blocks opcode && is_fua h.entry)) m

-- the same, of a command in the device; whether it differed so far goes on
unfoldable pub device_unit : (number disk_blocks : ℕ) → Held → (host : ℕ → ℕ) → (disk : ℕ → ℕ → ℕ) → (kept : ℕ → Bool)
    → Moved
device_unit number disk_blocks h host disk kept =
    moved_by (io_opcode (opcode_of h.entry)) number disk_blocks h
    (record { memory = host; disk = disk; kept = kept; differed = h.differed })

-- the command without that unit
abbrev pub unit_gone : (number : ℕ) → (differed : Bool) → Held → Held
unit_gone number differed h = record h { left = others number h.left; differed = differed }

-- the lane with the command of an identifier as it is now
abbrev pub with_held : (identifier : ℕ) → Option Held → DeviceLane → DeviceLane
with_held identifier h d = record d { held = slice_set d.held identifier h }

-- ---- post and fail

-- the host's memory with a completion in the slot that is written next
unfoldable pub completion_written : (mediator lane identifier : ℕ) → StatusField → DeviceLane → (host : ℕ → ℕ) → ℕ → ℕ
completion_written mediator lane identifier st d host =
    stored host (completion_slot mediator lane d.posted) (completion 0 d.head (queue_pair lane) identifier d.phase st)

-- the lane after it: the command is no longer in the device
abbrev pub completion_posted : (identifier : ℕ) → DeviceLane → DeviceLane
completion_posted identifier d =
    with_held identifier None (record d { posted = next_slot ring_size d.posted; phase = next_phase d.posted d.phase })

-- the status of a command that did not fail
abbrev pub held_status : Held → StatusField
held_status h = moved_status h.differed
