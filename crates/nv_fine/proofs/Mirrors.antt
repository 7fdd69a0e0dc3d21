-- What is kept along a fine trace: there is a world that is as events leave it, in which the physical controller has what the drive has.
use Rattle.std.proofs.Common.{◌≡◌, ◌≢◌, ℕ, ◌+◌, ◌<◌, ◌≤◌, Bool, true, false, ◌==◌, List, [], ◌++◌, length, map, replicate, slice_get, take, All, Option, Some, None}
use Rattle.std.specs.List.{range_with_len}
use Rattle.nv_entry.specs.Completion.{phase_of}
use Rattle.nv_entry.specs.Status.{bit}
use Rattle.nv_fine.proofs.Placed.{IsFixed, IsPlaced}
use Rattle.nv_fine.specs.Drive.{DriveLane, Working}
use Rattle.nv_fine.specs.Fine.{Call, Fine}
use Rattle.nv_laws_sound.specs.Consistent.{IsBetween, IsPlanned}
use Rattle.nv_laws_sound.specs.Side.{Side}
use Rattle.nv_machine.specs.Effects.{Effect, effects_on}
use Rattle.nv_machine.specs.Entries.{NamesOwn}
use Rattle.nv_machine.specs.InWorld.{IsLive, side_of}
use Rattle.nv_machine.specs.Machine.{call}
use Rattle.nv_machine.specs.Unplaced.{AreSameButPlaces}
use Rattle.nv_mem.specs.Places.{places_of}
use Rattle.nv_model.proofs.Judged.{IsSoundWork}
use Rattle.nv_model.specs.Judge.{Work}
use Rattle.nv_model.specs.Queue.{sqe_size}
use Rattle.nv_world_model.specs.Area.{bounce_page, completion_slot, list_bytes, list_page, prps_of, submission_slot}
use Rattle.nv_world_model.specs.Device.{DeviceLane}
use Rattle.nv_world_model.specs.Geometry.{Geometry, Guest}
use Rattle.nv_world_model.specs.Share.{Share}
use Rattle.nv_world_model.specs.ShareArea.{is_no_command, share_entry}
use Rattle.nv_world_model.specs.World.{Command, Flying, InDevice, Lane, World, tag_of}
use Rattle.nv_world_model.specs.declared.event.Event.TheVariants as event

-- ---- the drive

-- a byte of a slot that waits, as it is in memory
pub record IsNoted (geometry : Geometry) (w : World) (lane : ℕ) (v : DeviceLane) (at byte : ℕ) : Type 0 where
  pub slot : ℕ
  pub between : IsBetween v.head v.tail slot
  pub low : submission_slot geometry.mediator lane slot ≤ at
  pub high : at < submission_slot geometry.mediator lane slot + sqe_size
  pub same : w.host at ≡ byte

-- the list of a share in its tag's page
abbrev pub list_of : Geometry → Guest → Share → (lane tag : ℕ) → List ℕ
list_of geometry given share lane tag =
    list_bytes (prps_of share.plan given (list_page geometry.mediator lane tag) (bounce_page geometry.mediator lane tag))

-- a command in the drive is that of a tag which flies: it has that tag's entry, what was read of its list is what is there, and what it has to do with memory
-- is its guest's
pub record IsOfTag (geometry : Geometry) (w : World) (lane id : ℕ) (k : Working) : Type 0 where
  pub command : Command
  pub share : Share
  pub given : Guest
  pub flies : tag_of w lane id ≡ Some (Flying command share InDevice)
  pub guest : slice_get geometry.guests command.guest ≡ Some given
  pub planned : IsPlanned given command.entry share
  pub some : is_no_command share ≡ false
  pub entry : k.entry ≡ share_entry share given.namespace given command.entry geometry.mediator lane id
  pub read : (i byte : ℕ) → i < length (list_of geometry given share lane id) → k.buffer (list_page geometry.mediator lane id + i) ≡ Some byte
      → w.host (list_page geometry.mediator lane id + i) ≡ byte
  pub work : (work : Work) → k.work ≡ Some work → All (NamesOwn geometry given lane id) (places_of work.pieces)
  pub sound : (work : Work) → k.work ≡ Some work → IsSoundWork (λ _. true) geometry.disk_blocks k.entry work

pub record IsLaneMirrored (geometry : Geometry) (w : World) (lane : ℕ) (d : DriveLane) (v : DeviceLane) : Type 0 where
  pub head : d.head ≡ v.head
  pub posted : d.posted ≡ v.posted
  pub phase : d.phase ≡ v.phase
  pub seen : (at byte : ℕ) → d.seen at ≡ Some byte → IsNoted geometry w lane v at byte
  pub working : (id : ℕ) (k : Working) → slice_get d.working id ≡ Some (Some k) → IsOfTag geometry w lane id k

abbrev pub AreMirrored : Geometry → World → List DriveLane → Type 0
AreMirrored geometry w ds =
    (lane : ℕ) (d : DriveLane) (v : DeviceLane) → slice_get ds lane ≡ Some d → slice_get w.device lane ≡ Some v → IsLaneMirrored geometry w lane d v

-- ---- the call under way

-- what it has still to do in memory, and all that it does there once that began
abbrev pub left_of : Option (List Effect) → List Effect
left_of None = []
left_of (Some left) = left

abbrev pub undone : Option Call → List Effect
undone None = []
undone (Some c) = left_of c.left

abbrev pub begun_of : Option (List Effect) → List Effect → List Effect
begun_of None effects = []
begun_of (Some left) effects = effects

abbrev pub whole : Geometry → Side → Option Call → List Effect
whole geometry s None = []
whole geometry s (Some c) = begun_of c.left (call geometry c.event c.fetched s).now.effects

-- the side that it comes to
abbrev pub behind_of : Option (List Effect) → (s after : Side) → Side
behind_of None s after = s
behind_of (Some left) s after = after

abbrev pub behind : Geometry → Side → Option Call → Side
behind geometry s None = s
behind geometry s (Some c) = behind_of c.left s (call geometry c.event c.fetched s).now.side

-- a Reap fetches the last dword of the completion that is read next, and then its other bytes
abbrev pub reap_addresses : (mediator lane head : ℕ) → List ℕ
reap_addresses mediator lane head = range_with_len (completion_slot mediator lane head + 12) 4 ++ range_with_len (completion_slot mediator lane head) 12

-- a dword has the phase tag that is wanted
abbrev pub is_wanted : (phase : Bool) → (dword : List ℕ) → Bool
is_wanted phase dword = phase_of (replicate 12 0 ++ dword) == bit phase

-- what it has fetched, where it has that, is a completion that was posted
abbrev pub HasRead : Geometry → (host : ℕ → ℕ) → (lane head : ℕ) → (phase : Bool) → (posted : ℕ) → (fetched : List ℕ) → Type 0
HasRead geometry host lane head phase posted fetched =
    0 < length fetched → (4 ≤ length fetched)
    × (is_wanted phase (take 4 fetched) ≡ true → (head ≢ posted) × (fetched ≡ map host (take (length fetched) (reap_addresses geometry.mediator lane head))))

abbrev pub AreRead : Geometry → Side → List DriveLane → (host : ℕ → ℕ) → Option Call → Type 0
AreRead geometry s ds host None = Unit {0}
AreRead geometry s ds host (Some c) =
    (lane : ℕ) (l : Lane) (d : DriveLane) → c.event ≡ event.Reap lane → slice_get s.lanes lane ≡ Some l → slice_get ds lane ≡ Some d
    → HasRead geometry host lane l.head l.phase d.posted c.fetched

-- ---- the whole

pub record Holds (lanes : ℕ) (geometry : Geometry) (f : Fine) (w : World) : Type 0 where
  pub live : IsLive geometry w
  pub many : length w.lanes ≡ lanes
  pub sides : AreSameButPlaces (side_of w) f.side
  pub drives : length f.outside.lanes ≡ length w.device
  pub mirrored : AreMirrored geometry w f.outside.lanes
  -- rings and list pages have what they have in that world, once the call under way has done what it has to do
  pub memory : (at : ℕ) → IsFixed geometry.mediator lanes at
      → effects_on (undone f.call) f.outside.memory at ≡ effects_on (whole geometry f.side f.call) w.host at
  pub placed : All (IsPlaced geometry lanes f.side (behind geometry f.side f.call)) (undone f.call)
  pub read : AreRead geometry f.side f.outside.lanes w.host f.call
