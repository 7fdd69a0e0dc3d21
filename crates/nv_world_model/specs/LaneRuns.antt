-- Words of the laws about a lane of the physical controller: what happens there over time, and which bytes of the
-- host a unit is about
use Rattle.std.specs.Prelude.{◌≡◌, ℕ, ◌+◌, ◌-◌, ◌*◌, ◌/◌, ◌%◌, ◌<◌, ◌≤◌, Bool, true, false, ◌==◌, if◌then◌else◌, List, [], ◌∷◌, All, drop, take, Option, Some, None, is_some}
use Rattle.std.specs.Bool.{⊤}
use Rattle.std.specs.List.{count_by, slice_index_or}
use Rattle.nv_entry.specs.Submission.{cid_of, prp1_of, prp2_of}
use Rattle.nv_entry.specs.declared.opcode.IoOpcode.{IoOpcode}
use Rattle.nv_mem.specs.Places.{At, Place, places_of}
use Rattle.nv_mem.specs.declared.piece.Piece.{Piece}
use Rattle.nv_model.specs.Dialogue.{asked}
use Rattle.nv_model.specs.Judge.{Clear, Form, Keep, Manage, Transfer, form_of, transfer_len}
use Rattle.nv_model.specs.Laws.{IsAnother}
use Rattle.nv_model.specs.Limits.{block, range_size}
use Rattle.nv_model.specs.Private.{Moved}
use Rattle.nv_model.specs.Prp.{read_prp}
use Rattle.nv_model.specs.Queue.{ahead, is_empty, next_slot}
use Rattle.nv_world_model.specs.Area.{lane_start, ring_size, tag_count}
use Rattle.nv_world_model.specs.Device.{DeviceLane, Held, completion_posted, entry_taken, opening_device_lane, unit_gone, with_held}

-- ---- what happens on a lane

-- the doorbell of the submission ring is written, with entries up to the slot before the tail; the device takes the front entry, moves a unit, or
-- posts the completion of a command; the mediator reads the next completion
pub data LaneEvent : Type 0 where
  Rings : (tail : ℕ) → LaneEvent
  Takes : (entry : List ℕ) → (host : ℕ → ℕ) → LaneEvent
  Moves : (slot number : ℕ) → (differed : Bool) → LaneEvent
  Posts : (slot : ℕ) → LaneEvent
  Reads : LaneEvent

-- a lane, and the slot of its completion ring that the mediator reads next; and how many entries were submitted and taken, and how many completions
-- posted and read, since the start
pub record LaneRun : Type 0 where
  pub device : DeviceLane
  pub reader : ℕ
  pub rung : ℕ
  pub taken : ℕ
  pub posted : ℕ
  pub read : ℕ

abbrev pub opening_run : LaneRun
opening_run = record { device = opening_device_lane; reader = 0; rung = 0; taken = 0; posted = 0; read = 0 }

-- a tag is in flight from its entry's doorbell until its completion is read
abbrev pub in_flight : LaneRun → ℕ
in_flight r = r.rung - r.read

-- how many commands are in the device
abbrev pub held_count : DeviceLane → ℕ
held_count d = count_by is_some d.held

-- how many entries a tail rings
abbrev pub newly_rung : (tail : ℕ) → DeviceLane → ℕ
newly_rung tail d = ahead ring_size d.tail tail

abbrev pub tail_rung : (tail : ℕ) → LaneRun → LaneRun
tail_rung tail r =
    (let d : DeviceLane = record r.device { tail = tail } in
    record r { device = d; rung = r.rung + newly_rung tail r.device })

-- an entry is taken where one waits
abbrev pub front_taken : (entry : List ℕ) → (host : ℕ → ℕ) → LaneRun → LaneRun
front_taken entry host r =
    if is_empty r.device.head r.device.tail then r
    else record r { device = entry_taken entry host r.device; taken = r.taken + 1 }

-- a unit moves, and a completion is posted, where a command is there
abbrev pub unit_moved_of : Option Held → (slot number : ℕ) → (differed : Bool) → LaneRun → LaneRun
unit_moved_of None slot number differed r = r
unit_moved_of (Some h) slot number differed r =
    record r { device = with_held slot (Some (unit_gone number differed h)) r.device }

abbrev pub posted_of : Option Held → (slot : ℕ) → LaneRun → LaneRun
posted_of None slot r = r
posted_of (Some h) slot r = record r { device = completion_posted slot r.device; posted = r.posted + 1 }

-- a completion is read where there is one
abbrev pub completion_read_by : LaneRun → LaneRun
completion_read_by r =
    if is_empty r.reader r.device.posted then r
    else record r { reader = next_slot ring_size r.reader; read = r.read + 1 }

abbrev pub lane_behind : LaneEvent → LaneRun → LaneRun
lane_behind (Rings tail) r = tail_rung tail r
lane_behind (Takes entry host) r = front_taken entry host r
lane_behind (Moves slot number differed) r = unit_moved_of (slice_index_or r.device.held slot None) slot number differed r
lane_behind (Posts slot) r = posted_of (slice_index_or r.device.held slot None) slot r
lane_behind Reads r = completion_read_by r

unfoldable pub run_behind : List LaneEvent → LaneRun → LaneRun
run_behind [] r = r
run_behind (e ∷ events) r = run_behind events (lane_behind e r)

-- ---- what is asked of it

-- a tail is written within the tags in flight, which are at most as many as there are tags; and an entry that is taken has an identifier that no
-- command in the device has
abbrev pub IsWithinTags : LaneEvent → LaneRun → Type 0
IsWithinTags (Rings tail) r = (tail < ring_size) × (in_flight r + newly_rung tail r.device ≤ tag_count)
IsWithinTags (Takes entry host) r =
    is_empty r.device.head r.device.tail ≡ false
    → (cid_of entry < tag_count) × (slice_index_or r.device.held (cid_of entry) None ≡ None)
IsWithinTags (Moves slot number differed) r = ⊤
IsWithinTags (Posts slot) r = ⊤
IsWithinTags Reads r = ⊤

-- and so each of these, one after another
abbrev pub AreWithinTags : List LaneEvent → LaneRun → Type 0
AreWithinTags [] r = ⊤
AreWithinTags (e ∷ events) r = IsWithinTags e r × AreWithinTags events (lane_behind e r)

-- neither ring has been overrun: the submission ring holds as many entries as were submitted and not taken, the completion ring as many completions as
-- were posted and not read, and each number is less than the ring has slots; all of them and the commands in the device are the tags in flight; and
-- the phase tag is that of the pass
pub record IsNotOverrun (r : LaneRun) : Type 0 where
  pub taken_were_rung : r.taken ≤ r.rung
  pub read_were_posted : r.read ≤ r.posted
  pub submissions_fit : r.rung - r.taken ≤ ring_size - 1
  pub completions_fit : r.posted - r.read ≤ ring_size - 1
  pub submissions_stand : ahead ring_size r.device.head r.device.tail ≡ r.rung - r.taken
  pub completions_stand : ahead ring_size r.reader r.device.posted ≡ r.posted - r.read
  pub tags : in_flight r ≡ (r.rung - r.taken) + held_count r.device + (r.posted - r.read)
  pub few_tags : in_flight r ≤ tag_count
  pub slot : r.device.posted ≡ r.posted % ring_size
  pub phase : r.device.phase ≡ (r.posted / ring_size % 2 == 0)

-- ---- which bytes are whose

-- a host address lies in the area of a lane: in its rings, its list pages or its bounce pages
pub record IsInLane (mediator lane at : ℕ) : Type 0 where
  pub from : lane_start mediator lane ≤ at
  pub to : at < lane_start mediator (lane + 1)

-- the bytes of the list that a command of that opcode names: what is asked for where PRP1 and PRP2 are read
abbrev pub list_named : Option IoOpcode → (entry : List ℕ) → (host : ℕ → ℕ) → List (ℕ × ℕ)
list_named None entry host = []
list_named (Some opcode) entry host =
    if transfer_len opcode entry == 0 then []
    else asked host (read_prp (λ _. true) (prp1_of entry) (prp2_of entry) (transfer_len opcode entry))

-- the places of a unit: those of its block, or of its range
abbrev pub form_places : Form → (number : ℕ) → List Piece → List Place
form_places (Transfer dest) number pieces = take block (drop (block * number) (places_of pieces))
form_places Clear number pieces = []
form_places Manage number pieces = take range_size (drop (range_size * number) (places_of pieces))
form_places Keep number pieces = []

abbrev pub unit_places : Option IoOpcode → (number : ℕ) → List Piece → List Place
unit_places None number pieces = []
unit_places (Some opcode) number pieces = form_places (form_of opcode) number pieces

-- none of these places is that address
abbrev pub IsNotAmong : (at : ℕ) → List Place → Type 0
IsNotAmong at places = All (IsAnother (At at)) places

-- blocks and marks are the same after both, and so is whether a Compare has differed
pub record IsSameEffect (m n : Moved) : Type 0 where
  pub disk : m.disk ≡ n.disk
  pub kept : m.kept ≡ n.kept
  pub differed : m.differed ≡ n.differed
