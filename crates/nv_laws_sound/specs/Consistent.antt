-- What holds of every world that events lead to: each tag that was handed on is in one place, where its command's bytes are, and each entry and
-- completion that waits in a ring is that of one tag. No promise cites it; the laws that support the promises rest on it (profile).
use Rattle.std.specs.Prelude.{◌≡◌, ℕ, ◌<◌, Bool, true, false, List, All, length, map, slice_get, Option, Some, None}
use Rattle.std.specs.Bool.{⊤}
use Rattle.std.specs.List.{Contains, count_by}
use Rattle.nv_entry.specs.Completion.{cid_of as completed_cid, sqid_of}
use Rattle.nv_entry.specs.Opcode.{io_opcode}
use Rattle.nv_entry.specs.Submission.{opcode_of}
use Rattle.nv_mem.specs.GuestMap.{mapped}
use Rattle.nv_mem.specs.Places.{At, places_of}
use Rattle.nv_model.specs.Controller.{Controller}
use Rattle.nv_model.specs.Endings.{MayEndIn}
use Rattle.nv_model.specs.Judge.{Go, Work, judge}
use Rattle.nv_model.specs.Laws.{QueuesInPlace}
use Rattle.nv_model.specs.Memory.{bytes_from}
use Rattle.nv_model.specs.Queue.{ahead, cqe_size, sqe_size}
use Rattle.nv_world_model.specs.Area.{addresses_of, bounce_page, completion_slot, list_bytes, list_page, prps_of, ring_size, submission_slot}
use Rattle.nv_world_model.specs.Area.{queue_pair, tag_count}
use Rattle.nv_world_model.specs.Contained.{is_answered_at, is_queued_at, tag_stands}
use Rattle.nv_world_model.specs.Device.{DeviceLane, Held, unit_count}
use Rattle.nv_world_model.specs.Geometry.{Geometry, Guest, regions_of, shape_of}
use Rattle.nv_world_model.specs.Plan.{plan_of}
use Rattle.nv_world_model.specs.Share.{Share, shares_of}
use Rattle.nv_world_model.specs.ShareArea.{share_entry}
use Rattle.nv_world_model.specs.ShareArea.{is_no_command}
use Rattle.nv_world_model.specs.World.{Answered, Command, Ended, Flying, Free, InDevice, Lane, Queued, Standing, Tag, Taken, World}
use Rattle.nv_laws_sound.specs.Area.{Shows, ranges_of}
use Rattle.nv_laws_sound.specs.Groups.{AreGroups}

-- ---- rings

-- a slot lies between two positions of a ring, going round
pub record IsBetween (from to at : ℕ) : Type 0 where
  pub slot : at < ring_size
  pub before : ahead ring_size from at < ahead ring_size from to

-- ---- commands

-- a share is one of the plan of some verdict on a guest's command which lets it go
pub record IsPlanned (guest : Guest) (entry : List ℕ) (share : Share) : Type 0 where
  pub work : Work
  pub verdict : MayEndIn (judge (mapped (regions_of guest)) guest.limit (shape_of guest).blocks entry) (Go work)
  pub whole_is : share.whole ≡ plan_of (regions_of guest) (Go work)
  pub is_share : Contains (shares_of guest.namespace entry share.whole) share

-- a command is a guest's, and has 64 bytes
pub record IsCommand (geometry : Geometry) (command : Command) (guest : Guest) : Type 0 where
  pub given : slice_get geometry.guests command.guest ≡ Some guest
  pub bytes : length command.entry ≡ sqe_size

-- ---- a command that was handed on

-- what of its share is in its tag's pages: the list that names its transfer, and the ranges of a Dataset Management
pub record HasPages (geometry : Geometry) (guest : Guest) (share : Share) (lane tag : ℕ) (host : ℕ → ℕ) : Type 0 where
  pub list : Shows host (list_page geometry.mediator lane tag)
      (list_bytes (prps_of share.plan guest (list_page geometry.mediator lane tag) (bounce_page geometry.mediator lane tag)))
  pub ranges : Shows host (bounce_page geometry.mediator lane tag) (ranges_of share.plan guest)

-- its physical entry waits in that slot of the submission ring
pub record IsQueued (geometry : Geometry) (guest : Guest) (entry : List ℕ) (share : Share) (lane tag at : ℕ) (host : ℕ → ℕ)
    (d : DeviceLane) : Type 0 where
  pub slot : IsBetween d.head d.tail at
  pub shown : Shows host (submission_slot geometry.mediator lane at)
      (share_entry share guest.namespace guest entry geometry.mediator lane tag)
  pub pages : HasPages geometry guest share lane tag host

-- the device holds it: its physical entry, the host addresses of its transfer, and units of it that are left
pub record IsInDevice (geometry : Geometry) (guest : Guest) (entry : List ℕ) (share : Share) (lane tag : ℕ) (host : ℕ → ℕ)
    (h : Held) : Type 0 where
  pub entry_is : h.entry ≡ share_entry share guest.namespace guest entry geometry.mediator lane tag
  pub places : places_of h.pieces ≡ map At (addresses_of share.plan guest (bounce_page geometry.mediator lane tag))
  pub left : All (λ k. k < unit_count (io_opcode (opcode_of entry))
      (share_entry share guest.namespace guest entry geometry.mediator lane tag)) h.left
  pub pages : HasPages geometry guest share lane tag host

-- its completion waits in that slot of the completion ring, and names the lane's submission queue
pub record IsAnswered (geometry : Geometry) (lane tag at : ℕ) (host : ℕ → ℕ) (head : ℕ) (d : DeviceLane) : Type 0 where
  pub slot : IsBetween head d.posted at
  pub identifier : completed_cid (bytes_from host (completion_slot geometry.mediator lane at) cqe_size) ≡ tag
  pub queue : sqid_of (bytes_from host (completion_slot geometry.mediator lane at) cqe_size) ≡ queue_pair lane

-- where it is, and what the device holds under its identifier
abbrev pub StandsThere : Standing → Geometry → Guest → (entry : List ℕ) → Share → (lane tag : ℕ) → (host : ℕ → ℕ) → (head : ℕ) → DeviceLane
    → Option Held → Type 0
StandsThere (Queued at) geometry guest entry share lane tag host head d held =
    IsQueued geometry guest entry share lane tag at host d × (held ≡ None)
StandsThere InDevice geometry guest entry share lane tag host head d None = ⊥
StandsThere InDevice geometry guest entry share lane tag host head d (Some h) =
    IsInDevice geometry guest entry share lane tag host h
StandsThere (Answered at) geometry guest entry share lane tag host head d held =
    IsAnswered geometry lane tag at host head d × (held ≡ None)

-- ---- tags

-- the share of a tag that has ended, where it was handed on
abbrev pub IsPlannedOr : Guest → (entry : List ℕ) → Option Share → Type 0
IsPlannedOr guest entry None = ⊤
IsPlannedOr guest entry (Some share) = IsPlanned guest entry share

-- a tag that was handed on: whose command it is of, its share, which is a physical command, and where it is
pub record IsFlying (geometry : Geometry) (command : Command) (share : Share) (standing : Standing) (lane tag : ℕ) (host : ℕ → ℕ)
    (head : ℕ) (d : DeviceLane) (held : Option Held) : Type 0 where
  pub guest : Guest
  pub is : IsCommand geometry command guest
  pub planned : IsPlanned guest command.entry share
  pub some : is_no_command share ≡ false
  pub stands : StandsThere standing geometry guest command.entry share lane tag host head d held

-- a command that isn't in the device
pub record IsTaken (geometry : Geometry) (command : Command) (share : Option Share) (held : Option Held) : Type 0 where
  pub guest : Guest
  pub is : IsCommand geometry command guest
  pub planned : IsPlannedOr guest command.entry share
  pub not_held : held ≡ None

-- a tag of a lane, with what the device holds under its number
abbrev pub IsTag : Geometry → (lane tag : ℕ) → (host : ℕ → ℕ) → (head : ℕ) → DeviceLane → Option Held → Tag → Type 0
IsTag geometry lane tag host head d held Free = held ≡ None
IsTag geometry lane tag host head d held (Taken command reads) = IsTaken geometry command None held
IsTag geometry lane tag host head d held (Flying command share standing) =
    IsFlying geometry command share standing lane tag host head d held
IsTag geometry lane tag host head d held (Ended command st share) = IsTaken geometry command share held

-- ---- lanes

-- some tag is where the test requires
pub record SomeStands (test : Standing → Bool) (tags : List Tag) : Type 0 where
  pub tag : ℕ
  pub there : Tag
  pub is : slice_get tags tag ≡ Some there
  pub stands : tag_stands test there ≡ true

-- whether a command's entry, or its completion, waits in a ring
abbrev pub waits_for_device : Standing → Bool
waits_for_device (Queued at) = true
waits_for_device InDevice = false
waits_for_device (Answered at) = false

abbrev pub waits_for_mediator : Standing → Bool
waits_for_mediator (Queued at) = false
waits_for_mediator InDevice = false
waits_for_mediator (Answered at) = true

-- how many tags are where the test requires
abbrev pub standing_count : (Standing → Bool) → List Tag → ℕ
standing_count test tags = count_by (tag_stands test) tags

-- the positions of a lane's rings are slots, and it has as many tags as identifiers
pub record ArePositions (l : Lane) (d : DeviceLane) : Type 0 where
  pub head : d.head < ring_size
  pub tail : d.tail < ring_size
  pub posted : d.posted < ring_size
  pub read : l.head < ring_size
  pub tags : length l.tags ≡ tag_count
  pub held : length d.held ≡ tag_count

-- a lane, and the device's side of it: each tag; a tag for each entry and each completion that waits, and as many; and no tag besides
pub record IsLane (geometry : Geometry) (lane : ℕ) (host : ℕ → ℕ) (l : Lane) (d : DeviceLane) : Type 0 where
  pub positions : ArePositions l d
  pub tags : (tag : ℕ) (t : Tag) (held : Option Held) → slice_get l.tags tag ≡ Some t → slice_get d.held tag ≡ Some held
      → IsTag geometry lane tag host l.head d held t
  pub queued : (at : ℕ) → IsBetween d.head d.tail at → SomeStands (is_queued_at at) l.tags
  pub answered : (at : ℕ) → IsBetween l.head d.posted at → SomeStands (is_answered_at at) l.tags
  pub queued_count : standing_count waits_for_device l.tags ≡ ahead ring_size d.head d.tail
  pub answered_count : standing_count waits_for_mediator l.tags ≡ ahead ring_size l.head d.posted

-- ---- worlds

-- as many lanes on both sides, and each lane tag by tag; and as many controllers as guests, each with its queues in its guest's memory
pub record IsConsistentOfTags (geometry : Geometry) (w : World) : Type 0 where
  pub sides : length w.lanes ≡ length w.device
  pub controllers : length w.controllers ≡ length geometry.guests
  pub lanes : (lane : ℕ) (l : Lane) (d : DeviceLane) → slice_get w.lanes lane ≡ Some l → slice_get w.device lane ≡ Some d
      → IsLane geometry lane w.host l d
  pub queues : (number : ℕ) (guest : Guest) (c : Controller) → slice_get geometry.guests number ≡ Some guest
      → slice_get w.controllers number ≡ Some c → QueuesInPlace (mapped (regions_of guest)) c

-- and in each lane the tags of each command belong together
pub record IsConsistent (geometry : Geometry) (w : World) : Type 0 where
  pub of_tags : IsConsistentOfTags geometry w
  pub groups : (lane : ℕ) (l : Lane) → slice_get w.lanes lane ≡ Some l → AreGroups geometry l.tags
