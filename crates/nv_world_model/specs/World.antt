-- The mediator's world: the host's memory and the disk, the physical controller, the tags of each lane, and each
-- guest's controller. A guest's command is several physical commands where its namespace has several extents: each has
-- a tag, and they go by the lowest of these. What is not the physical controller's is the project's own (profile).
use Rattle.std.specs.Prelude.{ℕ, ◌==◌, Bool, true, false, List, [], ◌∷◌, filter, length, map, nat_le, replicate, slice_get, slice_set, take, Option, Some, None, if◌then◌else◌}
use Rattle.std.specs.List.{enumerate_from}
use Rattle.nv_entry.specs.Status.{StatusField}
use Rattle.nv_model.specs.Controller.{Controller, opening}
use Rattle.nv_model.specs.Transcript.{ReadDone}
use Rattle.nv_world_model.specs.Area.{tag_count}
use Rattle.nv_world_model.specs.Device.{DeviceLane, opening_device_lane}
use Rattle.nv_world_model.specs.Geometry.{Geometry}
use Rattle.nv_world_model.specs.Share.{Share}

-- ---- the state

-- a command that was taken: whose it is, the queue that it was taken from, its 64 bytes, and the tag that it goes by
pub record Command : Type 0 where
  pub guest : ℕ
  pub queue : ℕ
  pub entry : List ℕ
  pub leader : ℕ

-- where a physical command that was handed on is: in a slot of the submission ring, in the device, or in a slot of the completion ring
pub data Standing : Type 0 where
  Queued : (slot : ℕ) → Standing
  InDevice : Standing
  Answered : (slot : ℕ) → Standing

-- a tag of a lane
pub data Tag : Type 0 where
  Free : Tag
  -- a command that has no plan yet, and the reads of its lists, which are kept in the tag that it goes by
  Taken : Command → (reads : List ReadDone) → Tag
  -- a command that was handed on, and what this tag's physical command does of it
  Flying : Command → Share → Standing → Tag
  -- a command whose part has ended with a status, and that part where it was handed on
  Ended : Command → StatusField → Option Share → Tag

-- the mediator's side of a lane: the slot of the completion ring that is read next, the phase tag that it wants
-- there, and the tags
pub record Lane : Type 0 where
  pub head : ℕ
  pub phase : Bool
  pub tags : List Tag

-- the whole
pub record World : Type 0 where
  pub host : ℕ → ℕ
  pub disk : ℕ → ℕ → ℕ
  pub kept : ℕ → Bool
  pub device : List DeviceLane
  pub lanes : List Lane
  pub controllers : List Controller

-- ---- the start

abbrev pub opening_lane : Lane
opening_lane = record { head = 0; phase = true; tags = replicate tag_count Free }

-- with these bytes in memory and blocks: marks are clear, rings empty, tags free, and no controller is enabled
unfoldable pub opening_world : (host : ℕ → ℕ) (disk : ℕ → ℕ → ℕ) → Geometry → (lanes : ℕ) → World
opening_world host disk geometry lanes =
    record {
      host = host;
      disk = disk;
      kept = (λ _. false);
      device = replicate lanes opening_device_lane;
      lanes = replicate lanes opening_lane;
      controllers = replicate (length geometry.guests) opening;
    }

-- ---- parts

-- the tag of a lane, where both are there
abbrev pub tag_in : Option Lane → (tag : ℕ) → Option Tag
tag_in None tag = None
tag_in (Some lane) tag = slice_get lane.tags tag

abbrev pub tag_of : World → (lane tag : ℕ) → Option Tag
tag_of w lane tag = tag_in (slice_get w.lanes lane) tag

-- the lane with a tag as it is now
abbrev pub tag_changed : (tag : ℕ) → Tag → Lane → Lane
tag_changed tag t lane = record lane { tags = slice_set lane.tags tag t }

-- lanes of which one is changed, where it is there
abbrev pub changed_at : {L : Type 0} → Option L → (at : ℕ) → (L → L) → List L → List L
changed_at None at change lanes = lanes
changed_at (Some lane) at change lanes = slice_set lanes at (change lane)

-- ---- what is changed

abbrev pub with_host : (host : ℕ → ℕ) → World → World
with_host host w = record w { host = host }

abbrev pub with_lane : (lane : ℕ) → (Lane → Lane) → World → World
with_lane lane change w = record w { lanes = changed_at (slice_get w.lanes lane) lane change w.lanes }

abbrev pub with_device : (lane : ℕ) → (DeviceLane → DeviceLane) → World → World
with_device lane change w = record w { device = changed_at (slice_get w.device lane) lane change w.device }

abbrev pub with_tag : (lane tag : ℕ) → Tag → World → World
with_tag lane tag t w = with_lane lane (tag_changed tag t) w

abbrev pub with_controller : (guest : ℕ) → Controller → World → World
with_controller guest c w = record w { controllers = slice_set w.controllers guest c }

-- one tag after the other becomes what a command of that tag is
unfoldable pub with_tags : (lane : ℕ) → (tags : List ℕ) → Tag → World → World
with_tags lane [] t w = w
with_tags lane (tag ∷ tags) t w = with_tags lane tags t (with_tag lane tag t w)

-- ---- groups

-- whether no command has a tag
abbrev pub is_free : Tag → Bool
is_free Free = true
is_free _ = false

-- the tag that the command of a tag goes by
abbrev pub leader_of : Tag → Option ℕ
leader_of Free = None
leader_of (Taken command reads) = Some command.leader
leader_of (Flying command share standing) = Some command.leader
leader_of (Ended command st share) = Some command.leader

-- whether there is a number, and it is that one
abbrev pub is_that : (number : ℕ) → Option ℕ → Bool
is_that number None = false
is_that number (Some other) = other == number

-- the tags that meet a test, by number, the lowest first
abbrev pub tags_where : (Tag → Bool) → List Tag → List ℕ
tags_where test tags = map (λ t. t.0) (filter (λ t. test t.1) (enumerate_from 0 tags))

-- the tags of a command: all that go by its leader, in order
abbrev pub group_in : Option Lane → (leader : ℕ) → List ℕ
group_in None leader = []
group_in (Some lane) leader = tags_where (λ t. is_that leader (leader_of t)) lane.tags

unfoldable pub group : World → (lane leader : ℕ) → List ℕ
group w lane leader = group_in (slice_get w.lanes lane) leader

-- the lowest free tags, so many of them, where as many are free
abbrev pub first_of : (count : ℕ) → List ℕ → Option (List ℕ)
first_of count free = if nat_le count (length free) then Some (take count free) else None

unfoldable pub claimed : (count : ℕ) → List Tag → Option (List ℕ)
claimed count tags = first_of count (tags_where is_free tags)

-- the first of claimed tags, by which their command goes
abbrev pub lowest : List ℕ → ℕ
lowest [] = 0
lowest (tag ∷ tags) = tag
