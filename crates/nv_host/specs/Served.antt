-- The mediator of a host that has memory and a drive of its own: what the code holds, which logs lead to it, and what a call comes to (profile).
use Rattle.std.specs.Prelude.{◌≡◌, ℕ, ◌+◌, ◌<◌, ◌≤◌, ◌⊎◌, Bool, true, false, if◌then◌else◌, List, [], ◌∷◌, ◌++◌, nat_lt, not, Option, length, replicate, slice_get, Some, None}
use Rattle.nv_core.specs.Front.{IsBeside, IsSideOf, IsStepBeside}
use Rattle.nv_laws_sound.specs.Side.{Side, opening_side, IsKept}
use Rattle.nv_core.specs.Held.{held_in}
use Rattle.nv_host.specs.Shares.{AreShares, is_within, most_given, needed_in_all, opening_spare}
use Rattle.nv_laws_front.specs.Reached.{IsReached}
use Rattle.nv_laws_sound.specs.Counted.{IsCounted}
use Rattle.nv_mediator.specs.Refused.{refused}
use Rattle.nv_mediator.specs.declared.refusal.Refusal.{Refusal as Named}
use Rattle.nv_mem.specs.GuestMap.{IsSound}
use Rattle.nv_model.specs.Memory.{byte_in}
use Rattle.nv_model.specs.declared.reply.Reply.{Reply}
use Rattle.nv_world_model.specs.Area.{completion_slot, ring_size, tag_count}
use Rattle.nv_world_model.specs.Geometry.{Geometry, Guest}
use Rattle.nv_world_model.specs.Headline.{Headline}
use Rattle.nv_world_model.specs.SetUp.{BadSize, Refusal, SetUp, host_refusal_of}
use Rattle.nv_world_model.specs.Step.{is_telling, step}
use Rattle.nv_world_model.specs.World.{World, opening_world}
use Rattle.nv_world_model.specs.declared.event.Event.{Event}
use Rattle.nv_world_model.specs.declared.event.Event.TheVariants as event
use Rattle.nv_world_model.specs.declared.logged.Logged.{Logged}

-- ---- what it is

-- what it was made of, the mediator's side of the world, of each lane whether it was closed, and of each guest how many tags of a lane it may have
-- while one more command is taken for it there
pub record Served : Type 0 where
  pub setup : SetUp
  pub side : Side
  pub closed : List Bool
  pub spare : List ℕ

-- whether a lane is there and was closed
abbrev pub is_set : Option Bool → Bool
is_set None = false
is_set (Some set) = set

abbrev pub is_closed : Served → (lane : ℕ) → Bool
is_closed h lane = is_set (slice_get h.closed lane)

-- ---- set-ups

-- a set-up is not refused, by the limits of a host that has memory and a drive of its own
abbrev pub IsAccepted : SetUp → Type 0
IsAccepted s = host_refusal_of s ≡ None

-- and the commands of its guests may together need no more tags than a lane has, one of each guest
abbrev pub unless_crowded : List Guest → Option Refusal → Option Refusal
unless_crowded guests None = if nat_lt tag_count (needed_in_all guests) then Some BadSize else None
unless_crowded guests (Some r) = Some r

abbrev pub serving_refusal_of : SetUp → Option Refusal
serving_refusal_of s = unless_crowded s.geometry.guests (host_refusal_of s)

-- the first reason for which it is refused, by the name that the code gives it
abbrev pub first_refusal : SetUp → Option Named
first_refusal s = refused (serving_refusal_of s)

-- ---- logs

-- a log of calls with their replies, and of what the drive has done meanwhile, leads from the world `first` at the start of the set-up to the world z,
-- where the mediator is this and the memory is that. A world says besides what the drive has, and which blocks its disk has; at the start memory and disk
-- are as they happen to be, but that the lanes' completion rings are clear
abbrev pub LeadsTo : Served → (first : World) → (memory : List ℕ) → List Logged → World → Type 0
LeadsTo h first memory log z = IsReached h.setup first h.side memory log z

-- an event gives a guest no more tags of a lane than it may: only a Take gives any
abbrev pub AreGiven : Event → (old new : Served) → Type 0
AreGiven e old new =
    (guest lane : ℕ)
    → held_in guest (slice_get new.side.lanes lane) ≤ held_in guest (slice_get old.side.lanes lane) + most_given old.setup.geometry.guests e guest lane

-- a call was the next event of each log that leads to it: its reply is the definition's, and the log with it leads to what is there after the call
pub record IsNext (e : Event) (old : Served) (before : List ℕ) (r : Reply) (new : Served) (after : List ℕ) : Type 0 where
  pub setup : new.setup ≡ old.setup
  pub closed : new.closed ≡ old.closed
  pub spare : new.spare ≡ old.spare
  pub tags : AreGiven e old new
  pub logs : (first : World) (log : List Logged) (z : World) → LeadsTo old first before log z
      → ((step old.setup.geometry e z).reply ≡ r)
      × LeadsTo new first after (log ++ record { event = e; reply = r } ∷ []) (step old.setup.geometry e z).world

-- and so it is in each world in which the mediator and the memory may be at all, whatever led there; and where the reply reports neither a change nor
-- bytes, nothing has changed
pub record IsDone (e : Event) (old : Served) (before : List ℕ) (r : Reply) (new : Served) (after : List ℕ) : Type 0 where
  pub next : IsNext e old before r new after
  pub worlds : (w : World) → IsBeside old.side before w → IsStepBeside old.setup.geometry e w r new.side after
  pub dull : is_telling r ≡ false → (new ≡ old) × (after ≡ before)

-- the mediator of a set-up as it is made: no lane is closed, and guests have equal shares
abbrev pub opened : SetUp → Served
opened s =
    record {
      setup = s;
      side = opening_side s.geometry s.lanes;
      closed = replicate s.lanes false;
      spare = opening_spare s.geometry.guests;
    }

-- at the start of a set-up no lane is closed, guests have equal shares, and the log without events leads there from the world with this memory, whatever
-- the drive's disk has
pub record IsAtStart (s : SetUp) (h : Served) (memory : List ℕ) : Type 0 where
  pub setup : h.setup ≡ s
  pub closed : h.closed ≡ replicate s.lanes false
  pub spare : h.spare ≡ opening_spare s.geometry.guests
  pub led : (disk : ℕ → ℕ → ℕ) → (let w = opening_world (byte_in memory) disk s.geometry s.lanes in LeadsTo h w memory [] w)

-- a memory has changed in the lanes' completion rings alone
abbrev pub AreRingsAlone : SetUp → (before after : List ℕ) → Type 0
AreRingsAlone s before after =
    (at : ℕ)
    → ((lane : ℕ) → lane < s.lanes
    → (at < completion_slot s.geometry.mediator lane 0) ⊎ (completion_slot s.geometry.mediator lane ring_size ≤ at))
    → byte_in after at ≡ byte_in before at

-- no log leads there
abbrev pub IsUnreached : Served → (memory : List ℕ) → Type 0
IsUnreached h memory = (first : World) (log : List Logged) (z : World) → LeadsTo h first memory log z → ⊥

-- ---- what is promised

-- of every log that leads to it, in whatever memory and from whatever start, the whole promise holds: what each disciplined guest none of whose commands
-- failed has seen, and has, is a run of its own private controller's, and each event is contained
abbrev pub IsPromised : Served → Type 0
IsPromised h = (first : World) (memory : List ℕ) (log : List Logged) (z : World) → LeadsTo h first memory log z → Headline h.setup.geometry first log z

-- ---- what is kept

-- in each world that has this side each guest's controller counts the guest's commands
abbrev pub AreCounted : Geometry → Side → Type 0
AreCounted geometry side = (memory : List ℕ) (w : World) → IsSideOf side memory w → IsCounted geometry w

-- the set-up is not refused, each guest's map is sound, and the side keeps what it keeps whatever is in memory and whatever the drive does
pub record IsServed (h : Served) : Type 0 where
  pub accepted : IsAccepted h.setup
  pub sound : (number : ℕ) (guest : Guest) → slice_get h.setup.geometry.guests number ≡ Some guest → IsSound guest.memory_map
  pub lanes : length h.side.lanes ≡ h.setup.lanes
  pub closed : length h.closed ≡ h.setup.lanes
  pub shares : AreShares h.setup.geometry.guests h.spare
  pub kept : IsKept h.setup.geometry h.side
  pub counted : AreCounted h.setup.geometry h.side

-- ---- which events are asked about

-- whether an event is a guest's or the mediator's, and not the drive's
abbrev pub is_served : Event → Bool
is_served (event.Guest guest a) = true
is_served (event.Admin guest) = true
is_served (event.Take guest queue lane) = true
is_served (event.List lane tag addr len) = true
is_served (event.Submit lane tag) = true
is_served (event.GiveUp lane tag) = true
is_served (event.DevTake lane) = false
is_served (event.DevMove lane slot number) = false
is_served (event.DevPost lane slot) = false
is_served (event.DevFail lane slot st) = false
is_served (event.Keep block) = false
is_served (event.Reap lane) = true
is_served (event.Post lane tag) = true

-- whether it may be made now: nothing is taken for a lane that was closed
abbrev pub is_offered : Served → Event → Bool
is_offered h (event.Take guest queue lane) = not (is_closed h lane)
is_offered h e = is_served e

-- whether a guest has so few tags of a lane that its share has room for one more command, whatever that may need
abbrev pub has_share : Served → (guest lane : ℕ) → Bool
has_share h guest lane = is_within (held_in guest (slice_get h.side.lanes lane)) (slice_get h.spare guest)

-- whether it reads a completion, so that what the drive has done meets in it
abbrev pub is_reap : Event → Bool
is_reap (event.Guest guest a) = false
is_reap (event.Admin guest) = false
is_reap (event.Take guest queue lane) = false
is_reap (event.List lane tag addr len) = false
is_reap (event.Submit lane tag) = false
is_reap (event.GiveUp lane tag) = false
is_reap (event.DevTake lane) = false
is_reap (event.DevMove lane slot number) = false
is_reap (event.DevPost lane slot) = false
is_reap (event.DevFail lane slot st) = false
is_reap (event.Keep block) = false
is_reap (event.Reap lane) = true
is_reap (event.Post lane tag) = false
