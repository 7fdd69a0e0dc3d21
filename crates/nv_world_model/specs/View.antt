-- What of the world is a guest's: its memory and blocks, its controller, its tags with all that the device and the
-- mediator hold of them; and the numbers that all guests share (profile).
use Rattle.std.specs.Prelude.{◌≡◌, ℕ, ◌+◌, ◌*◌, ◌<◌, Bool, true, false, not, ◌&&◌, ◌==◌, nat_le, nat_lt, if◌then◌else◌, List, [], ◌∷◌, ◌++◌, filter, flat_map}
use Rattle.std.specs.Prelude.{length, map, slice_get, Option, Some, None, is_some}
use Rattle.std.specs.List.{enumerate_from, list_any, range_with_len}
use Rattle.nv_entry.specs.Completion.{status_of}
use Rattle.nv_entry.specs.Status.{StatusField}
use Rattle.nv_mem.specs.Places.{total_len}
use Rattle.nv_ns.specs.Extents.{Namespace, blocks_in, has_block, place_in}
use Rattle.nv_model.specs.Judge.{is_read}
use Rattle.nv_model.specs.Limits.{block}
use Rattle.nv_model.specs.Memory.{image}
use Rattle.nv_model.specs.Queue.{cqe_size, sqe_size}
use Rattle.nv_world_model.specs.Area.{bounce_page, completion_slot, list_page, prps_of, submission_slot}
use Rattle.nv_world_model.specs.Device.{DeviceLane, Held}
use Rattle.nv_world_model.specs.Geometry.{Geometry, Guest, regions_of}
use Rattle.nv_world_model.specs.Plan.{Bounced, Plan}
use Rattle.nv_mem.specs.GuestMap.{guest_of}
use Rattle.nv_world_model.specs.Seat.{completion_at, held_in}
use Rattle.nv_world_model.specs.Step.{is_success}
use Rattle.nv_world_model.specs.Share.{Share}
use Rattle.nv_world_model.specs.World.{Answered, Ended, Flying, Free, InDevice, Lane, Queued, Standing, Tag, Taken, World, is_free, is_that, tag_of}

-- ---- whose a tag is

-- the guest of a tag that isn't free
abbrev pub guest_of_tag : Tag → Option ℕ
guest_of_tag Free = None
guest_of_tag (Taken command reads) = Some command.guest
guest_of_tag (Flying command share standing) = Some command.guest
guest_of_tag (Ended command st share) = Some command.guest

-- whether a tag is that guest's
abbrev pub is_tag_of : (number : ℕ) → Option Tag → Bool
is_tag_of number None = false
is_tag_of number (Some t) = is_that number (guest_of_tag t)

-- the tag where it is that guest's, and what the device holds under it
abbrev pub own_tag : (number : ℕ) → Option Tag → Option Tag
own_tag number tag = if is_tag_of number tag then tag else None

abbrev pub own_held : (number : ℕ) → Option Tag → Option Held → Option Held
own_held number tag held = if is_tag_of number tag then held else None

-- ---- what of the mediator's area is shown

-- bytes of the host: from this address on, so many
abbrev pub Span : Type 0
Span = ℕ × ℕ

-- the ring slot of a command that was handed on
abbrev pub slot_shown : Standing → (mediator lane : ℕ) → List Span
slot_shown (Queued at) mediator lane = (submission_slot mediator lane at, sqe_size) ∷ []
slot_shown InDevice mediator lane = []
slot_shown (Answered at) mediator lane = (completion_slot mediator lane at, cqe_size) ∷ []

-- the list of a plan
abbrev pub list_shown : Plan → Guest → (list bounce : ℕ) → List Span
list_shown plan guest list bounce = (list, 8 * (prps_of plan guest list bounce).used) ∷ []

-- the bounced source, or the ranges, of a plan
abbrev pub source_shown : Plan → (bounce : ℕ) → List Span
source_shown (Bounced work) bounce = if is_read work.opcode then [] else (bounce, total_len work.pieces) ∷ []
source_shown _ bounce = []

-- the blocks of a bounced Read but for those units that are left
abbrev pub units_shown : Plan → (left : List ℕ) → (bounce : ℕ) → List Span
units_shown (Bounced work) left bounce =
    if is_read work.opcode then
    map (λ k. (bounce + block * k, block))
    (filter (λ k. not (list_any (λ other. other == k) left)) (range_with_len 0 (length work.units)))
    else []
units_shown _ left bounce = []

-- all of them where the part succeeded, and none where it failed
abbrev pub result_shown : StatusField → Plan → (bounce : ℕ) → List Span
result_shown st plan bounce = if is_success st then units_shown plan [] bounce else []

-- those that have moved in the device
abbrev pub moved_shown : Option Held → Plan → (bounce : ℕ) → List Span
moved_shown None plan bounce = []
moved_shown (Some h) plan bounce = units_shown plan h.left bounce

-- what is read of a command that was handed on, by where it is
abbrev pub read_shown : Standing → Plan → Option Held → (status_at : ℕ → StatusField) → (bounce : ℕ) → List Span
read_shown (Queued at) plan held status_at bounce = []
read_shown InDevice plan held status_at bounce = moved_shown held plan bounce
read_shown (Answered at) plan held status_at bounce = result_shown (status_at at) plan bounce

abbrev pub ended_shown : Option Share → StatusField → (bounce : ℕ) → List Span
ended_shown None st bounce = []
ended_shown (Some share) st bounce = result_shown st share.plan bounce

-- what is shown of a tag of that guest
abbrev pub tag_shown : Tag → Guest → Option Held → (status_at : ℕ → StatusField) → (mediator lane tag : ℕ) → List Span
tag_shown (Flying command share standing) guest held status_at mediator lane tag =
    slot_shown standing mediator lane
    ++ list_shown share.plan guest (list_page mediator lane tag) (bounce_page mediator lane tag)
    ++ source_shown share.plan (bounce_page mediator lane tag)
    ++ read_shown standing share.plan held status_at (bounce_page mediator lane tag)
tag_shown (Ended command st share) guest held status_at mediator lane tag =
    ended_shown share st (bounce_page mediator lane tag)
tag_shown _ guest held status_at mediator lane tag = []

-- the same of a guest's own tags of a lane
abbrev pub own_shown : (number : ℕ) → Guest → Geometry → World → (lane : ℕ) → ℕ × Tag → List Span
own_shown number guest geometry w lane t =
    if is_tag_of number (Some t.1) then
    tag_shown t.1 guest (held_in (slice_get w.device lane) t.0) (λ at. status_of (completion_at geometry w lane at))
    geometry.mediator lane t.0
    else []

-- all that is shown to a guest of the mediator's area
unfoldable pub shown : (number : ℕ) → Guest → Geometry → World → List Span
shown number guest geometry w =
    flat_map (λ l. flat_map (own_shown number guest geometry w l.0) (enumerate_from 0 l.1.tags)) (enumerate_from 0 w.lanes)

-- whether an address lies in one of these
abbrev pub lies_in : List Span → ℕ → Bool
lies_in spans addr = list_any (λ s. nat_le s.0 addr && nat_lt addr (s.0 + s.1)) spans

-- ---- a guest's memory and blocks

-- whether a host address is a guest's memory
abbrev pub in_image : Guest → (host : ℕ) → Bool
in_image guest host = is_some (guest_of (regions_of guest) host)

-- whether a block of the disk is a guest's
abbrev pub in_extents : Namespace → (at : ℕ) → Bool
in_extents ns at = list_any (has_block at) ns

-- ---- two worlds that are alike to a guest

-- one view, but for the marks
pub record IsSameView (number : ℕ) (guest : Guest) (geometry : Geometry) (w z : World) : Type 0 where
  pub memory : (addr : ℕ) → image (regions_of guest) w.host addr ≡ image (regions_of guest) z.host addr
  pub blocks : (lba offset : ℕ) → lba < blocks_in guest.namespace
      → w.disk (place_in guest.namespace lba) offset ≡ z.disk (place_in guest.namespace lba) offset
  pub controller : slice_get w.controllers number ≡ slice_get z.controllers number
  pub tags : (lane tag : ℕ) → own_tag number (tag_of w lane tag) ≡ own_tag number (tag_of z lane tag)
  pub held : (lane tag : ℕ) → own_held number (tag_of w lane tag) (held_in (slice_get w.device lane) tag)
      ≡ own_held number (tag_of z lane tag) (held_in (slice_get z.device lane) tag)
  pub area : (addr : ℕ) → lies_in (shown number guest geometry w) addr ≡ true → w.host addr ≡ z.host addr

-- the marks of a guest's blocks are the same
abbrev pub SameMarks : Guest → (w z : World) → Type 0
SameMarks guest w z =
    (lba : ℕ) → lba < blocks_in guest.namespace
    → w.kept (place_in guest.namespace lba) ≡ z.kept (place_in guest.namespace lba)

-- ---- the shared numbers

-- of a lane: head and phase, and which tags are free
pub record LaneNumbers : Type 0 where
  pub head : ℕ
  pub phase : Bool
  pub free : List Bool

-- of the device's side of a lane: head and tail, the slot that is written next and its phase
pub record RingNumbers : Type 0 where
  pub head : ℕ
  pub tail : ℕ
  pub posted : ℕ
  pub phase : Bool
  pub slots : ℕ

-- all of them
pub record SharedNumbers : Type 0 where
  pub lanes : List LaneNumbers
  pub rings : List RingNumbers
  pub guests : ℕ

abbrev pub lane_numbers : Lane → LaneNumbers
lane_numbers lane = record { head = lane.head; phase = lane.phase; free = map is_free lane.tags }

abbrev pub ring_numbers : DeviceLane → RingNumbers
ring_numbers d = record { head = d.head; tail = d.tail; posted = d.posted; phase = d.phase; slots = length d.held }

unfoldable pub shared_numbers : World → SharedNumbers
shared_numbers w =
    record { lanes = map lane_numbers w.lanes; rings = map ring_numbers w.device; guests = length w.controllers }

-- a guest can't distinguish the worlds
pub record IsAlike (number : ℕ) (guest : Guest) (geometry : Geometry) (w z : World) : Type 0 where
  pub view : IsSameView number guest geometry w z
  pub marks : SameMarks guest w z
  pub shared : shared_numbers w ≡ shared_numbers z
