-- How a command ends in the mediator: its completions are read, and later it is delivered and completed for its guest (profile; posting:
-- Base Specification 2.0, "Memory-based Transport Queue Model").
use Rattle.std.specs.Prelude.{◌≡◌, ℕ, ◌&&◌, Bool, true, false, if◌then◌else◌, List, [], ◌∷◌, All, Option, Some, None, slice_get}
use Rattle.std.specs.Bool.{⊤}
use Rattle.nv_entry.specs.Opcode.{io_opcode}
use Rattle.nv_entry.specs.Status.{StatusField}
use Rattle.nv_entry.specs.declared.opcode.IoOpcode.{IoOpcode}
use Rattle.nv_entry.specs.Submission.{opcode_of}
use Rattle.nv_mem.specs.Bytes.{InMemory}
use Rattle.nv_mem.specs.GuestMap.{mapped, span_met}
use Rattle.nv_mem.specs.Places.{places_of, total_len}
use Rattle.nv_mem.specs.declared.region.Region.{Region}
use Rattle.nv_model.specs.Judge.{Work, is_read}
use Rattle.nv_model.specs.Laws.{IsMappedPiece}
use Rattle.nv_model.specs.Memory.{bytes_from, image, put_image, scattered}
use Rattle.nv_plan.specs.Outline.{kind_of}
use Rattle.nv_plan.specs.declared.kind.PlanKind.{PlanKind}
use Rattle.nv_plan.specs.declared.kind.PlanKind.TheVariants as kind
use Rattle.nv_world_model.specs.Area.{bounce_page}
use Rattle.nv_world_model.specs.Plan.{Answer, Bounced, Direct, NoData, Plan}
use Rattle.nv_world_model.specs.Share.{Share}
use Rattle.nv_world_model.specs.Step.{is_success}
use Rattle.nv_world_model.specs.World.{Command, Ended, Flying, Free, Lane, Tag, Taken, group_in}

-- ---- tags

-- a tag that has ended
pub record IsEnded (t : Option Tag) : Type 0 where
  pub command : Command
  pub status : StatusField
  pub share : Option Share
  pub is : t ≡ Some (Ended command status share)

-- ---- what is delivered

-- whether a command of that opcode has a buffer that is a destination
abbrev pub is_read_of : Option IoOpcode → Bool
is_read_of None = false
is_read_of (Some opcode) = is_read opcode

-- whether a plan of that kind goes by way of the bounce pages
abbrev pub is_bounced : PlanKind → Bool
is_bounced kind.Direct = false
is_bounced kind.Bounced = true
is_bounced kind.NoData = false
is_bounced (kind.Answer st) = false

-- whether a command of that plan and entry, which has ended with that status, is a bounced Read that succeeded
abbrev pub delivers : PlanKind → (entry : List ℕ) → StatusField → Bool
delivers plan entry st = is_bounced plan && is_read_of (io_opcode (opcode_of entry)) && is_success st

-- the host after what a part delivers to a guest of these regions: the bytes of a bounced Read, place by place in order
abbrev pub part_delivered : Plan → (slot : ℕ) → List Region → (host : ℕ → ℕ) → ℕ → ℕ
part_delivered (Answer answer) slot regions host = host
part_delivered (NoData work) slot regions host = host
part_delivered (Direct work) slot regions host = host
part_delivered (Bounced work) slot regions host =
    if is_read work.opcode
    then put_image regions (scattered (image regions host) (places_of work.pieces) (bytes_from host slot (total_len work.pieces))) host
    else host

-- that of a tag
abbrev pub tag_delivered : Option Tag → (slot : ℕ) → List Region → (host : ℕ → ℕ) → ℕ → ℕ
tag_delivered None slot regions host = host
tag_delivered (Some Free) slot regions host = host
tag_delivered (Some (Taken command reads)) slot regions host = host
tag_delivered (Some (Flying command share at)) slot regions host = host
tag_delivered (Some (Ended command st None)) slot regions host = host
tag_delivered (Some (Ended command st (Some share))) slot regions host = part_delivered share.plan slot regions host

-- those of tags, one after the other, each from its own bounce pages
abbrev pub tags_delivered : (mediator lane : ℕ) → (tags : List ℕ) → Lane → List Region → (host : ℕ → ℕ) → ℕ → ℕ
tags_delivered mediator lane [] l regions host = host
tags_delivered mediator lane (tag ∷ tags) l regions host =
    tags_delivered mediator lane tags l regions (tag_delivered (slice_get l.tags tag) (bounce_page mediator lane tag) regions host)

-- nothing is delivered of a command that failed
abbrev pub delivered_host : StatusField → (mediator lane : ℕ) → (tags : List ℕ) → Lane → List Region → (host : ℕ → ℕ) → ℕ → ℕ
delivered_host st mediator lane tags l regions host = if is_success st then tags_delivered mediator lane tags l regions host else host

-- ---- what may be delivered

-- a bounced transfer's places are mapped, and the slot that has its bytes lies in the host and is not the guest's
pub record IsDeliverable (work : Work) (slot host_bytes : ℕ) (regions : List Region) : Type 0 where
  pub mapped_each : All (IsMappedPiece (mapped regions)) work.pieces
  pub inside : InMemory host_bytes slot (total_len work.pieces)
  pub apart : span_met regions slot (total_len work.pieces) ≡ false

-- a part's plan is that of a bounced Read, and may be delivered
pub record IsBouncedRead (plan : Plan) (slot host_bytes : ℕ) (regions : List Region) : Type 0 where
  pub work : Work
  pub is : plan ≡ Bounced work
  pub reads : is_read work.opcode ≡ true
  pub may : IsDeliverable work slot host_bytes regions

-- a tag that has ended had such a part
pub record IsReadPart (slot host_bytes : ℕ) (regions : List Region) (t : Option Tag) : Type 0 where
  pub command : Command
  pub status : StatusField
  pub share : Share
  pub is : t ≡ Some (Ended command status (Some share))
  pub read : IsBouncedRead share.plan slot host_bytes regions

-- the tags of a command that goes by that tag are that one and others, which all had such parts
pub record AreReadParts (mediator lane tag : ℕ) (l : Lane) (host_bytes : ℕ) (regions : List Region) : Type 0 where
  pub others : List ℕ
  pub group : group_in (Some l) tag ≡ tag ∷ others
  pub parts : All (λ t. IsReadPart (bounce_page mediator lane t) host_bytes regions (slice_get l.tags t)) others

-- a part of a command of that entry may be delivered, where it is bounced
abbrev pub MayDeliver : Plan → (entry : List ℕ) → (slot host_bytes : ℕ) → List Region → Type 0
MayDeliver (Answer answer) entry slot host_bytes regions = ⊤
MayDeliver (NoData work) entry slot host_bytes regions = ⊤
MayDeliver (Direct work) entry slot host_bytes regions = ⊤
MayDeliver (Bounced work) entry slot host_bytes regions =
    (io_opcode (opcode_of entry) ≡ Some work.opcode) × IsDeliverable work slot host_bytes regions

-- a tag that has ended had a part of a command of that entry, whose plan is of that kind
pub record IsPart (plan_kind : PlanKind) (entry : List ℕ) (slot host_bytes : ℕ) (regions : List Region) (t : Option Tag) : Type 0 where
  pub command : Command
  pub status : StatusField
  pub share : Share
  pub is : t ≡ Some (Ended command status (Some share))
  pub same : kind_of share.plan ≡ plan_kind
  pub may : MayDeliver share.plan entry slot host_bytes regions

-- the tags of a command that goes by that tag are that one and others, which all had parts of one plan
pub record AreParts (entry : List ℕ) (mediator lane tag : ℕ) (l : Lane) (host_bytes : ℕ) (regions : List Region) : Type 0 where
  pub plan_kind : PlanKind
  pub others : List ℕ
  pub group : group_in (Some l) tag ≡ tag ∷ others
  pub parts : All (λ t. IsPart plan_kind entry (bounce_page mediator lane t) host_bytes regions (slice_get l.tags t)) (tag ∷ others)
