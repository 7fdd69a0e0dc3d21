-- What a share's own work is of the whole.
use Rattle.std.specs.Prelude.{◌≡◌, ℕ, ◌+◌, ◌^◌, ◌≤◌, Bool, List, length, slice_get, Some}
use Rattle.nv_entry.specs.Range.{blocks_of, start_of}
use Rattle.nv_model.specs.Judge.{Work, WorkUnit, range_units}
use Rattle.nv_model.specs.Private.{unit_moved}
use Rattle.nv_world_model.specs.Seat.{work_of}
use Rattle.nv_world_model.specs.Share.{Share}

-- each unit of a share's work moves what the whole's unit of its number moves: the same bytes, block and mark
pub record MovesAlike (whole own : Work) (unit other : WorkUnit) : Type 0 where
  pub same : (memory : ℕ → ℕ) (disk : ℕ → ℕ → ℕ) (kept : ℕ → Bool) → unit_moved other own memory disk kept ≡ unit_moved unit whole memory disk kept

-- a work is the part of another that has the units of these numbers
pub record IsPartOf (whole own : Work) (numbers : List ℕ) : Type 0 where
  pub opcode : own.opcode ≡ whole.opcode
  pub size : length own.units ≡ length numbers
  pub each : (k number : ℕ) → slice_get numbers k ≡ Some number → (unit : WorkUnit) × ((other : WorkUnit)
      × ((slice_get whole.units number ≡ Some unit) × (slice_get own.units k ≡ Some other) × MovesAlike whole own unit other))

-- a share's own plan is of such a part
abbrev pub IsShareOf : Work → Share → Type 0
IsShareOf whole share = (own : Work) × ((work_of share.plan ≡ Some own) × IsPartOf whole own share.numbers)

-- ---- ranges of Dataset Management

-- a range whose parts can be spelled in 16 bytes as it is itself
pub record FitsFields (range : List ℕ) : Type 0 where
  pub blocks : blocks_of range ≤ 2 ^ 32
  pub last : start_of range + blocks_of range ≤ 2 ^ 64

-- a share's own work has the units of its own ranges
abbrev pub HasItsUnits : (deallocate : Bool) → Share → Type 0
HasItsUnits deallocate share = (own : Work) × ((work_of share.plan ≡ Some own) × (own.units ≡ range_units deallocate own.ranges))
