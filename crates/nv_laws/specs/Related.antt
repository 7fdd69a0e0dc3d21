-- When a guest's private controller and the world correspond to each other. Registers, queues, blocks and commands are the same in both. Each
-- command is under the name of the tag that it goes by, with what has come of the shares of all its tags. Memory is the same, but for what a
-- bounced Read has read and not delivered yet, which the private controller has and the guest's memory hasn't. No promise cites it; the laws that
-- support the promises rest on it (profile).
use Rattle.std.specs.Prelude.{◌≡◌, ℕ, ◌+◌, ◌*◌, ◌<◌, Bool, true, false, not, ◌&&◌, ◌==◌, if◌then◌else◌, List, All, slice_get, Option, Some, None}
use Rattle.std.specs.Bool.{⊤}
use Rattle.std.specs.List.{list_any}
use Rattle.nv_entry.specs.Completion.{status_of}
use Rattle.nv_entry.specs.Status.{StatusField}
use Rattle.nv_mem.specs.GuestMap.{mapped}
use Rattle.nv_mem.specs.Places.{At, Bucket, Place}
use Rattle.nv_ns.specs.Extents.{blocks_in, place_in}
use Rattle.nv_model.specs.Dialogue.{asked}
use Rattle.nv_model.specs.Judge.{Clear, Form, Go, Keep, Manage, Transfer, Work, form_of, is_read, judge}
use Rattle.nv_model.specs.Limits.{block}
use Rattle.nv_model.specs.Memory.{image}
use Rattle.nv_model.specs.Parts.{ShowsOn}
use Rattle.nv_model.specs.Transcript.{ReadDone}
use Rattle.nv_model.specs.Private.{Private, moved_status, numbers_of, places_of_block, verdict_in}
use Rattle.nv_world_model.specs.Area.{bounce_page}
use Rattle.nv_world_model.specs.Device.{Held}
use Rattle.nv_world_model.specs.Geometry.{Geometry, Guest, regions_of, shape_of}
use Rattle.nv_world_model.specs.Plan.{Answer, Bounced, Direct, NoData, Plan}
use Rattle.nv_world_model.specs.Share.{Share}
use Rattle.nv_world_model.specs.Seat.{completion_at, held_in, members, tells_difference, work_of}
use Rattle.nv_world_model.specs.View.{own_held, own_tag}
use Rattle.nv_world_model.specs.World.{Answered, Ended, Flying, Free, InDevice, Queued, Standing, Tag, Taken, World, tag_of}

-- ---- the units that are left

-- whether the unit of a number is left of a tag's share, by the share's own numbers: of one in the device, of one that waits for it, and of one
-- that it is done with
abbrev pub is_left : Option Held → (number : ℕ) → Bool
is_left None number = true
is_left (Some h) number = list_any (λ k. k == number) h.left

abbrev pub left_where : Standing → Option Held → (number : ℕ) → Bool
left_where (Queued at) held number = true
left_where InDevice held number = is_left held number
left_where (Answered at) held number = false

abbrev pub none_left : (number : ℕ) → Bool
none_left number = false

-- ---- hidden bytes

abbrev pub is_place_at : (addr : ℕ) → Place → Bool
is_place_at addr (At other) = other == addr
is_place_at addr Bucket = false

-- whether a block of a transfer goes to or comes from an address
abbrev pub block_names : Work → (index addr : ℕ) → Bool
block_names work index addr = list_any (is_place_at addr) (places_of_block work index)

-- whether a byte is one that a bounced Read has read, and that isn't delivered yet
abbrev pub plan_hides : Plan → (left : ℕ → Bool) → (addr : ℕ) → Bool
plan_hides (Answer st) left addr = false
plan_hides (NoData work) left addr = false
plan_hides (Direct work) left addr = false
plan_hides (Bounced work) left addr =
    is_read work.opcode && list_any (λ k. not (left k) && block_names work k addr) (numbers_of work)

abbrev pub ended_hides : Option Share → (addr : ℕ) → Bool
ended_hides None addr = false
ended_hides (Some share) addr = plan_hides share.plan none_left addr

-- whether the share in a tag hides a byte
abbrev pub hides : Option Tag → Option Held → (addr : ℕ) → Bool
hides None held addr = false
hides (Some Free) held addr = false
hides (Some (Taken command reads)) held addr = false
hides (Some (Flying command share standing)) held addr = plan_hides share.plan (left_where standing held) addr
hides (Some (Ended command st share)) held addr = ended_hides share addr

-- ---- bounce pages

-- the bytes of a block of a transfer are in its bounce pages as in this memory; what a bucket takes has no meaning
abbrev pub IsOnPage : Work → (index bounce : ℕ) → (host memory : ℕ → ℕ) → Type 0
IsOnPage work index bounce host memory =
    (i addr : ℕ) → slice_get (places_of_block work index) i ≡ Some (At addr) → host (bounce + block * index + i) ≡ memory addr

-- whether a block's bytes are there: of a source while the block is left, of a destination once it has moved
abbrev pub form_has_bytes : Form → (left : Bool) → Bool
form_has_bytes (Transfer dest) left = if dest then not left else left
form_has_bytes Clear left = false
form_has_bytes Manage left = false
form_has_bytes Keep left = false

abbrev pub HasBuffer : Plan → (left : ℕ → Bool) → (bounce : ℕ) → (host memory : ℕ → ℕ) → Type 0
HasBuffer (Answer st) left bounce host memory = ⊤
HasBuffer (NoData work) left bounce host memory = ⊤
HasBuffer (Direct work) left bounce host memory = ⊤
HasBuffer (Bounced work) left bounce host memory =
    (index : ℕ) → form_has_bytes (form_of work.opcode) (left index) ≡ true → IsOnPage work index bounce host memory

-- ---- tags

-- a command that was handed on still has the verdict of which its plan was made, and the bounced bytes of this share are the private controller's
pub record IsUnderWay (guest : Guest) (entry : List ℕ) (share : Share) (left : ℕ → Bool) (bounce : ℕ) (host memory : ℕ → ℕ) : Type 0 where
  pub steady : (work : Work) → work_of share.whole ≡ Some work → verdict_in (shape_of guest) (image (regions_of guest) host) entry ≡ Go work
  pub buffer : HasBuffer share.plan left bounce host memory

-- no Read differs
abbrev pub NoReadDiffers : Plan → (differed : Bool) → Type 0
NoReadDiffers plan differed = (work : Work) → work_of plan ≡ Some work → is_read work.opcode ≡ true → differed ≡ false

-- a status is that of a share all of whose units have moved: none failed
pub record IsMovedStatus (plan : Plan) (st : StatusField) : Type 0 where
  pub status : st ≡ moved_status (tells_difference st)
  pub no_read : NoReadDiffers plan (tells_difference st)

abbrev pub StandsWell : Standing → Plan → Option Held → (status_at : ℕ → StatusField) → Type 0
StandsWell (Queued at) plan held status_at = ⊤
StandsWell InDevice plan None status_at = ⊤
StandsWell InDevice plan (Some h) status_at = NoReadDiffers plan h.differed
StandsWell (Answered at) plan held status_at = IsMovedStatus plan (status_at at)

-- what was read of a command's lists is what is there, wherever the command is judged by that
abbrev pub AreReadsShown : Guest → (entry : List ℕ) → (host : ℕ → ℕ) → List ReadDone → Type 0
AreReadsShown guest entry host reads =
    All (ShowsOn (image (regions_of guest) host)
    (asked (image (regions_of guest) host) (judge (shape_of guest).mapped (shape_of guest).limit (shape_of guest).blocks entry))) reads

abbrev pub HasEndedWell : Option Share → Guest → (entry : List ℕ) → StatusField → (bounce : ℕ) → (host memory : ℕ → ℕ) → Type 0
HasEndedWell None guest entry st bounce host memory = ⊤
HasEndedWell (Some share) guest entry st bounce host memory =
    IsUnderWay guest entry share none_left bounce host memory × IsMovedStatus share.plan st

-- a tag of the guest's; `held` is what the device holds of it, `status_at` the status in a slot of the completion ring
abbrev pub IsTagRelated : Option Tag → Guest → Option Held → (status_at : ℕ → StatusField) → (bounce : ℕ) → (host memory : ℕ → ℕ) → Type 0
IsTagRelated None guest held status_at bounce host memory = ⊤
IsTagRelated (Some Free) guest held status_at bounce host memory = ⊤
IsTagRelated (Some (Taken command reads)) guest held status_at bounce host memory = AreReadsShown guest command.entry host reads
IsTagRelated (Some (Flying command share standing)) guest held status_at bounce host memory =
    IsUnderWay guest command.entry share (left_where standing held) bounce host memory × StandsWell standing share.plan held status_at
IsTagRelated (Some (Ended command st share)) guest held status_at bounce host memory =
    HasEndedWell share guest command.entry st bounce host memory

-- ---- the relation

-- no tag of the guest's hides a byte
abbrev pub NoneHides : (number : ℕ) → World → (addr : ℕ) → Type 0
NoneHides number w addr =
    (lane tag : ℕ) → hides (own_tag number (tag_of w lane tag)) (own_held number (tag_of w lane tag) (held_in (slice_get w.device lane) tag)) addr ≡ false

pub record Related (geometry : Geometry) (number : ℕ) (guest : Guest) (w : World) (p : Private) : Type 0 where
  pub controller : slice_get w.controllers number ≡ Some p.controller
  pub blocks : (lba offset : ℕ) → lba < blocks_in guest.namespace → p.disk lba offset ≡ w.disk (place_in guest.namespace lba) offset
  pub marks : (lba : ℕ) → lba < blocks_in guest.namespace → p.kept lba ≡ w.kept (place_in guest.namespace lba)
  pub memory : (addr : ℕ) → mapped (regions_of guest) addr ≡ true → NoneHides number w addr
      → p.memory addr ≡ image (regions_of guest) w.host addr
  pub bag : (name : ℕ) → p.bag name ≡ members geometry w number name
  pub tags : (lane tag : ℕ)
      → IsTagRelated (own_tag number (tag_of w lane tag)) guest (own_held number (tag_of w lane tag) (held_in (slice_get w.device lane) tag))
      (λ at. status_of (completion_at geometry w lane at)) (bounce_page geometry.mediator lane tag) w.host p.memory
