-- What taking the front entry of a lane's ring needs and does
use Rattle.std.specs.Prelude.{◌≡◌, ℕ, ◌+◌, ◌<◌, ◌≤◌, Bool, true, not, if◌then◌else◌, List, length, Option, None}
use Rattle.nv_entry.specs.Opcode.{io_opcode}
use Rattle.nv_entry.specs.Submission.{cid_of, opcode_of, prp1_of, prp2_of, slba_of}
use Rattle.nv_model.specs.Judge.{count_of}
use Rattle.nv_model.specs.Queue.{is_empty}
use Rattle.nv_model.specs.Memory.{byte_in}
use Rattle.nv_world_model.specs.Area.{tag_count}
use Rattle.nv_world_model.specs.Device.{Held, entry_taken, front_entry}
use Rattle.nv_device.specs.Pages.{host_reading, spells}
use Rattle.nv_device.specs.Physical.{held_at, lane_of, len_of, names_blocks, with_lane}
use Rattle.nv_device.specs.State.{Physical}

-- ---- what it needs

-- an entry that the device may take: its bytes and its list lie in the host, its blocks are on a disk of that many, and
-- no command in the device has its identifier, which is below 64
pub record IsTakeable (disk_blocks : ℕ) (host : List ℕ) (held : Option Held) (entry : List ℕ) : Type 0 where
  pub bytes : 0 < len_of (io_opcode (opcode_of entry)) entry →
      spells (host_reading host (prp1_of entry) (prp2_of entry) (len_of (io_opcode (opcode_of entry)) entry)) ≡ true
  pub blocks : names_blocks (io_opcode (opcode_of entry)) ≡ true → slba_of entry + count_of entry ≤ disk_blocks
  pub identifier : cid_of entry < tag_count
  pub free : held ≡ None

-- the entry that is at the front of a lane
abbrev pub front_of : (lane : ℕ) → (host : List ℕ) → Physical → List ℕ
front_of lane host p = front_entry p.mediator lane (lane_of p lane) (byte_in host)

-- whether an entry is there
abbrev pub waits : (lane : ℕ) → Physical → Bool
waits lane p = not (is_empty (lane_of p lane).head (lane_of p lane).tail)

-- where one is there, the device may take it
abbrev pub MayTake : (lane : ℕ) → (host : List ℕ) → Physical → Type 0
MayTake lane host p =
    waits lane p ≡ true →
    IsTakeable (length p.disk) host (held_at p lane (cid_of (front_of lane host p))) (front_of lane host p)

-- ---- what it does

-- the device after it
abbrev pub taken : (lane : ℕ) → (host : List ℕ) → Physical → Physical
taken lane host p =
    if waits lane p then with_lane lane (entry_taken (front_of lane host p) (byte_in host) (lane_of p lane)) p else p
