-- The parts of the physical controller as it is, and what it keeps. What its calls do is stated in the terms of the mediated world (profile: the
-- limits and the layout of the area).
use Rattle.std.specs.Prelude.{◌≡◌, ℕ, ◌+◌, ◌==◌, ◌%◌, ◌^◌, ◌<◌, ◌≤◌, Bool, true, false}
use Rattle.std.specs.Prelude.{if◌then◌else◌, List, [], ◌∷◌, All, IfSome, length, replicate, slice_set, Option, Some, None}
use Rattle.std.specs.List.{list_any, slice_index_or}
use Rattle.nv_entry.specs.Opcode.{io_opcode}
use Rattle.nv_entry.specs.Submission.{opcode_of, slba_of}
use Rattle.nv_entry.specs.declared.opcode.IoOpcode.{IoOpcode}
use Rattle.nv_mem.specs.Places.{places_of}
use Rattle.nv_model.specs.Judge.{count_of, has_blocks, transfer_len}
use Rattle.nv_model.specs.Limits.{block, page}
use Rattle.nv_world_model.specs.Area.{lane_start, ring_size, tag_count}
use Rattle.nv_world_model.specs.SetUp.{most_lanes as lane_limit}
use Rattle.nv_world_model.specs.Device.{DeviceLane, Held, opening_device_lane, unit_count}
use Rattle.nv_device.specs.State.{Physical}
use Rattle.nv_device.specs.declared.response.Response.{Response}
use Rattle.nv_device.specs.declared.response.Response.TheVariants.{Done, Idle}

-- ---- at the start

-- how many lanes and blocks a device may have; the area of its lanes begins at a page and ends at 2 to the 64 at the
-- latest
pub record FitsLimits (mediator lanes blocks : ℕ) : Type 0 where
  pub pages : mediator % page ≡ 0
  pub some_lanes : 0 < lanes
  pub most_lanes : lanes ≤ lane_limit
  pub some_blocks : 0 < blocks
  pub most_blocks : blocks ≤ 2097152
  pub area : lane_start mediator lanes ≤ 2 ^ 64

-- blocks of zeros whose marks are clear, and empty rings
abbrev pub opening_physical : (mediator lanes blocks : ℕ) → Physical
opening_physical mediator lanes blocks =
    record {
      mediator = mediator;
      disk = replicate blocks (replicate block 0);
      kept = replicate blocks false;
      lanes = replicate lanes opening_device_lane;
    }

-- ---- its parts

-- what is there where no lane exists
abbrev pub no_lane : DeviceLane
no_lane = record { head = 0; tail = 0; posted = 0; phase = true; held = [] }

-- a lane that is there
abbrev pub lane_of : Physical → (lane : ℕ) → DeviceLane
lane_of p lane = slice_index_or p.lanes lane no_lane

-- the device with a lane as it is now
abbrev pub with_lane : (lane : ℕ) → DeviceLane → Physical → Physical
with_lane lane d p = record p { lanes = slice_set p.lanes lane d }

-- the command in the device under an identifier, if there is one
abbrev pub held_at : Physical → (lane slot : ℕ) → Option Held
held_at p lane slot = slice_index_or (lane_of p lane).held slot None

-- the area of the device's lanes lies in a host of that length
abbrev pub HoldsArea : (host_len : ℕ) → Physical → Type 0
HoldsArea host_len p = lane_start p.mediator (length p.lanes) ≤ host_len

-- ---- what each call answers

abbrev pub done_where : Bool → Response
done_where done = if done then Done else Idle

-- whether a command is there that has that unit left
abbrev pub has_left : (number : ℕ) → Option Held → Bool
has_left number None = false
has_left number (Some h) = list_any (λ k. k == number) h.left

-- whether a command is there that has no unit left
abbrev pub is_over : List ℕ → Bool
is_over [] = true
is_over (number ∷ left) = false

abbrev pub has_ended : Option Held → Bool
has_ended None = false
has_ended (Some h) = is_over h.left

-- ---- what the device keeps of the commands in it

-- the length of the transfer of a command of that opcode
abbrev pub len_of : Option IoOpcode → (entry : List ℕ) → ℕ
len_of None entry = 0
len_of (Some opcode) entry = transfer_len opcode entry

-- whether a command of that opcode names blocks by SLBA and NLB
abbrev pub names_blocks : Option IoOpcode → Bool
names_blocks None = false
names_blocks (Some opcode) = has_blocks opcode

-- its blocks are on a disk of that many, its places are as many as it transfers bytes, and its units that are left are
-- units of it
pub record IsHeld (disk_blocks : ℕ) (h : Held) : Type 0 where
  pub blocks : names_blocks (io_opcode (opcode_of h.entry)) ≡ true → slba_of h.entry + count_of h.entry ≤ disk_blocks
  pub places : length (places_of h.pieces) ≡ len_of (io_opcode (opcode_of h.entry)) h.entry
  pub units : All (λ k. k < unit_count (io_opcode (opcode_of h.entry)) h.entry) h.left

abbrev pub AreHeld : (disk_blocks : ℕ) → DeviceLane → Type 0
AreHeld disk_blocks d = All (λ o. IfSome o (IsHeld disk_blocks)) d.held

-- a lane's positions are slots of its rings, and it has room for a command under each identifier
pub record IsLane (size head posted : ℕ) (held : List (Option Held)) : Type 0 where
  pub size_is : size ≡ ring_size
  pub posted_is : posted < ring_size
  pub held_is : length held ≡ tag_count

-- the parts of a device fit
pub record IsWhole (mediator : ℕ) (disk : List (List ℕ)) (kept : List Bool) (lanes : List DeviceLane) : Type 0 where
  pub area : lane_start mediator (length lanes) ≤ 2 ^ 64
  pub few : length lanes ≤ lane_limit
  pub marked : length kept ≡ length disk
  pub held : All (AreHeld (length disk)) lanes
