-- What is in the mediator's area: bytes that were written there (profile).
use Rattle.std.specs.Prelude.{◌≡◌, ℕ, ◌+◌, ◌<◌, ◌≤◌, List, [], flat_map, length}
use Rattle.nv_model.specs.Judge.{Clear, Form, Keep, Manage, Transfer, Work, form_of}
use Rattle.nv_model.specs.Memory.{bytes_from}
use Rattle.nv_world_model.specs.Area.{lane_start, translated_range}
use Rattle.nv_world_model.specs.Geometry.{Guest}
use Rattle.nv_world_model.specs.Plan.{Answer, Bounced, Direct, NoData, Plan}

-- these bytes are in a memory from an address on
abbrev pub Shows : (memory : ℕ → ℕ) → (addr : ℕ) → List ℕ → Type 0
Shows memory addr bytes = bytes_from memory addr (length bytes) ≡ bytes

-- two memories have the same bytes from the first address on, before the second
abbrev pub SameBetween : (memory other : ℕ → ℕ) → (from to : ℕ) → Type 0
SameBetween memory other from to = (at : ℕ) → from ≤ at → at < to → memory at ≡ other at

-- two memories have the same bytes in a lane's part of the area
abbrev pub SameInLane : (memory other : ℕ → ℕ) → (mediator lane : ℕ) → Type 0
SameInLane memory other mediator lane = SameBetween memory other (lane_start mediator lane) (lane_start mediator (lane + 1))

-- the ranges of a Dataset Management as they are in its tag's bounce pages; other commands have none
abbrev pub form_ranges : Form → Guest → Work → List ℕ
form_ranges (Transfer dest) guest work = []
form_ranges Clear guest work = []
form_ranges Manage guest work = flat_map (translated_range guest.namespace) work.ranges
form_ranges Keep guest work = []

abbrev pub ranges_of : Plan → Guest → List ℕ
ranges_of (Answer st) guest = []
ranges_of (NoData work) guest = []
ranges_of (Direct work) guest = []
ranges_of (Bounced work) guest = form_ranges (form_of work.opcode) guest work
