-- A guest's seat: what of the world is its private controller. What is done for a guest is done in its seat, as the
-- private controller does it, and put back (profile).
use Rattle.std.specs.Prelude.{ℕ, ◌+◌, ◌*◌, ◌/◌, ◌%◌, ◌&&◌, ◌==◌, if◌then◌else◌, Bool, false, List, [], filter, flat_map, map, replicate, slice_get, Option, Some, None}
use Rattle.std.specs.List.{enumerate_from, filter_map, list_any}
use Rattle.nv_entry.specs.Completion.{status_of}
use Rattle.nv_entry.specs.Range.{blocks_of}
use Rattle.nv_entry.specs.Status.{StatusField}
use Rattle.nv_ns.specs.Extents.{place_in}
use Rattle.nv_model.specs.Controller.{Controller}
use Rattle.nv_model.specs.Judge.{Form, Manage, Work, form_of}
use Rattle.nv_model.specs.Memory.{bytes_from, image, put_image}
use Rattle.nv_model.specs.Private.{AtWork, Bag, Private, Progress, Unjudged, Ended as EndedWith, Taken as Member, numbers_of}
use Rattle.nv_model.specs.Queue.{cqe_size}
use Rattle.nv_world_model.specs.Area.{completion_slot, tag_count}
use Rattle.nv_world_model.specs.Device.{DeviceLane, Held}
use Rattle.nv_world_model.specs.Geometry.{Geometry, Guest, regions_of}
use Rattle.nv_world_model.specs.Plan.{Answer, Bounced, Direct, NoData, Plan}
use Rattle.nv_world_model.specs.Share.{Share}
use Rattle.nv_world_model.specs.World.{Answered, Command, Ended, Flying, InDevice, Queued, Standing, Tag, Taken, World}
use Rattle.nv_world_model.specs.World.{group, tag_of, with_controller, with_host}

-- ---- whose seat

-- a guest of the world: its number, what it was given, and its controller
pub record Owner : Type 0 where
  pub number : ℕ
  pub given : Guest
  pub controller : Controller

abbrev pub owner_by : (number : ℕ) → Option Guest → Option Controller → Option Owner
owner_by number None c = None
owner_by number (Some guest) None = None
owner_by number (Some guest) (Some c) = Some (record { number = number; given = guest; controller = c })

-- the guest of that number, where there is one
abbrev pub owner_of : Geometry → World → (number : ℕ) → Option Owner
owner_of geometry w number = owner_by number (slice_get geometry.guests number) (slice_get w.controllers number)

-- ---- its taken commands

-- the number of the device's unit for each unit of a command of that form, in their order: each has one of its own, or all blocks of a range have
-- that of the range
abbrev pub form_numbers : Form → Work → List ℕ
form_numbers Manage work = flat_map (λ r. replicate (blocks_of r.1) r.0) (enumerate_from 0 work.ranges)
form_numbers _ work = numbers_of work

-- the numbers of the units whose unit of the device is one of these
unfoldable pub units_behind : Work → (numbers : List ℕ) → List ℕ
units_behind work numbers =
    map (λ u. u.0)
    (filter (λ u. list_any (λ k. k == u.1) numbers) (enumerate_from 0 (form_numbers (form_of work.opcode) work)))

-- the work of a plan, where it has one
abbrev pub work_of : Plan → Option Work
work_of (Answer st) = None
work_of (NoData work) = Some work
work_of (Direct work) = Some work
work_of (Bounced work) = Some work

-- of a share's units that the device has left, by the device's numbers, the numbers in the whole
abbrev pub numbers_by : Option Work → (numbers left : List ℕ) → List ℕ
numbers_by None numbers left = []
numbers_by (Some work) numbers left = filter_map (slice_get numbers) (units_behind work left)

abbrev pub numbers_behind : Share → (left : List ℕ) → List ℕ
numbers_behind share left = numbers_by (work_of share.plan) share.numbers left

-- ---- how far a tag is

-- whether a status reports that a Compare differed: Compare Failure
abbrev pub tells_difference : StatusField → Bool
tells_difference st = st.sct == 2 && st.sc == 0x85

-- what has come of the units of a tag's share: the numbers of those that are left, and whether a Compare has differed
pub record Rest : Type 0 where
  pub left : List ℕ
  pub differed : Bool

abbrev pub rest : (left : List ℕ) → (differed : Bool) → Rest
rest left differed = record { left = left; differed = differed }

-- of a share that the device holds
abbrev pub held_rest : Option Held → Share → Rest
held_rest None share = rest [] false
held_rest (Some h) share = rest (numbers_behind share h.left) h.differed

-- of a share that was handed on, by where it is; `held` is the device's, `status_at` the status in a slot of the completion ring
abbrev pub flying_rest : Standing → Share → Option Held → (status_at : ℕ → StatusField) → Rest
flying_rest (Queued slot) share held status_at = rest share.numbers false
flying_rest InDevice share held status_at = held_rest held share
flying_rest (Answered slot) share held status_at = rest [] (tells_difference (status_at slot))

abbrev pub tag_rest : Option Tag → Option Held → (status_at : ℕ → StatusField) → Rest
tag_rest (Some (Flying command share standing)) held status_at = flying_rest standing share held status_at
tag_rest (Some (Ended command st share)) held status_at = rest [] (tells_difference st)
tag_rest _ held status_at = rest [] false

-- ---- how far a command is

-- the whole work with those units left, in its order, that some tag has left; a Compare has differed where one of them reports so
abbrev pub work_progress : Option Work → List Rest → Progress
work_progress None rests = Unjudged
work_progress (Some work) rests =
    AtWork work (filter (λ k. list_any (λ (r : Rest). list_any (λ other. other == k) r.left) rests) (numbers_of work))
    (list_any (λ (r : Rest). r.differed) rests)

-- a command none of whose units were handed on has ended with that status
abbrev pub ended_progress : Option Share → StatusField → List Rest → Progress
ended_progress None st rests = EndedWith st
ended_progress (Some share) st rests = work_progress (work_of share.whole) rests

-- the command as the guest's private controller has it, where it is that guest's
abbrev pub member_of : (number : ℕ) → Command → Progress → Option Member
member_of number command progress =
    if command.guest == number then Some (record { queue = command.queue; entry = command.entry; progress = progress }) else None

-- where the command goes by that tag
abbrev pub member_by : (tag number : ℕ) → Command → Progress → Option Member
member_by tag number command progress =
    if command.leader == tag then member_of number command progress else None

-- the guest's command that goes by a tag, of which these are the rests in all its tags
abbrev pub member_in : Option Tag → (tag number : ℕ) → List Rest → Option Member
member_in (Some (Taken command reads)) tag number rests = member_by tag number command Unjudged
member_in (Some (Flying command share standing)) tag number rests =
    member_by tag number command (work_progress (work_of share.whole) rests)
member_in (Some (Ended command st share)) tag number rests =
    member_by tag number command (ended_progress share st rests)
member_in _ tag number rests = None

-- what the device holds under an identifier
abbrev pub held_by : Option (Option Held) → Option Held
held_by None = None
held_by (Some held) = held

abbrev pub held_in : Option DeviceLane → (identifier : ℕ) → Option Held
held_in None identifier = None
held_in (Some d) identifier = held_by (slice_get d.held identifier)

-- the bytes of a slot of a lane's completion ring
abbrev pub completion_at : Geometry → World → (lane at : ℕ) → List ℕ
completion_at geometry w lane at = bytes_from w.host (completion_slot geometry.mediator lane at) cqe_size

-- the name of the command that goes by a tag
abbrev pub name_of : (lane tag : ℕ) → ℕ
name_of lane tag = tag_count * lane + tag

-- what has come of a tag's share, and of those of all tags of a command
unfoldable pub rest_at : Geometry → World → (lane tag : ℕ) → Rest
rest_at geometry w lane tag =
    tag_rest (tag_of w lane tag) (held_in (slice_get w.device lane) tag) (λ at. status_of (completion_at geometry w lane at))

unfoldable pub rests_of : Geometry → World → (lane leader : ℕ) → List Rest
rests_of geometry w lane leader = map (rest_at geometry w lane) (group w lane leader)

-- a guest's taken commands by their names
unfoldable pub members : Geometry → World → (number : ℕ) → Bag
members geometry w number name =
    (let lane = name / tag_count in
    let tag = name % tag_count in member_in (tag_of w lane tag) tag number (rests_of geometry w lane tag))

-- ---- the seat

-- the guest's private controller as it is in the world
unfoldable pub seat : Geometry → Owner → World → Private
seat geometry o w =
    record {
      memory = image (regions_of o.given) w.host;
      disk = (λ lba. w.disk (place_in o.given.namespace lba));
      kept = (λ lba. w.kept (place_in o.given.namespace lba));
      controller = o.controller;
      bag = members geometry w o.number;
    }

-- the world with a guest's memory, and its controller, as they are now
abbrev pub with_memory : Owner → (memory : ℕ → ℕ) → World → World
with_memory o memory w = with_host (put_image (regions_of o.given) memory w.host) w

unfoldable pub put_back : Owner → (memory : ℕ → ℕ) → Controller → World → World
put_back o memory c w = with_controller o.number c (with_memory o memory w)
