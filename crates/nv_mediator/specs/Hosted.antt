-- The mediator without a log: what the code holds, what its type keeps, what a step is to its callers, and what is promised (profile).
use Rattle.std.specs.Prelude.{◌≡◌, ℕ, true, false, Bool, All, List, Option, Some, None}
use Rattle.std.specs.Prelude.{length}
use Rattle.nv_core.specs.Seat.{is_long_load}
use Rattle.nv_core.specs.State.{CountsMore, IsOf, IsSameSize, State, world_of}
use Rattle.nv_core.specs.Submit.{IsLimit}
use Rattle.nv_laws.specs.Alike.{HasFittingStatus}
use Rattle.nv_laws_sound.specs.Counted.{IsCounted}
use Rattle.nv_mem.specs.GuestMap.{Mapping}
use Rattle.nv_model.specs.declared.reply.Reply.{Reply}
use Rattle.nv_ns.specs.Extents.{Namespace, is_namespace}
use Rattle.nv_world_model.specs.declared.event.Event.{Event}
use Rattle.nv_world_model.specs.declared.event.Event.TheVariants as event
use Rattle.nv_world_model.specs.declared.logged.Logged.{Logged}
use Rattle.nv_world_model.specs.Geometry.{Geometry, Guest}
use Rattle.nv_world_model.specs.Headline.{Headline}
use Rattle.nv_world_model.specs.Log.{IsReplay}
use Rattle.nv_world_model.specs.SetUp.{SetUp, refusal_of, world_at_start}
use Rattle.nv_world_model.specs.Step.{step}
use Rattle.nv_world_model.specs.World.{World}

-- ---- what a mediator keeps

-- what the code holds: what stays as it is, and the state on lists
pub record Hosted : Type 0 where
  pub geometry : Geometry
  pub state : State

-- its set-up
abbrev pub setup_of : Hosted → SetUp
setup_of h = record { host_bytes = length h.state.host; lanes = length h.state.lanes; geometry = h.geometry }

-- the world that it is
abbrev pub hosted_world : Hosted → World
hosted_world h = world_of h.state

-- a log leads here from the start of the set-up, and each status with which it fails a command is one that a completion holds, as each
-- value of the code's type is
pub record IsLog (log : List Logged) (h : Hosted) : Type 0 where
  pub replayed : IsReplay h.geometry (world_at_start (setup_of h)) log (world_of h.state)
  pub fitting : All (λ l. HasFittingStatus l.event) log

-- some log does
pub record HasLog (h : Hosted) : Type 0 where
  pub log : List Logged
  pub leads : IsLog log h

-- its set-up was not refused, its parts are that set-up's, its world is consistent, and some log leads to it
pub record IsHosted (h : Hosted) : Type 0 where
  pub accepted : refusal_of (setup_of h) ≡ None
  pub of : IsOf h.geometry h.state
  pub counted : IsCounted h.geometry (world_of h.state)
  pub led : HasLog h

-- ---- what is promised

-- of every log that leads here the whole promise holds: what each disciplined guest none of whose commands failed has seen, and has, is a
-- run of its own private controller's, and each step is contained
abbrev pub IsPromised : Hosted → Type 0
IsPromised h = (log : List Logged) → IsLog log h → Headline h.geometry (world_at_start (setup_of h)) log (world_of h.state)

-- ---- a step

-- at the start of a set-up
pub record IsAtStart (s : SetUp) (h : Hosted) : Type 0 where
  pub setup : setup_of h ≡ s
  pub world : world_of h.state ≡ world_at_start s

-- the event was carried out as the definition's step, reply and whole world, in the same set-up; and it may be in a log
pub record IsMade (e : Event) (old : Hosted) (r : Reply) (new : Hosted) : Type 0 where
  pub after : record { world = world_of new.state; reply = r } ≡ step old.geometry e (world_of old.state)
  pub setup : setup_of new ≡ setup_of old
  pub fitting : HasFittingStatus e

-- the world is as it was, in the same set-up
pub record IsSame (old new : Hosted) : Type 0 where
  pub world : world_of new.state ≡ world_of old.state
  pub setup : setup_of new ≡ setup_of old

-- whether an event may want memory: for a load's bytes that a reply does not hold in itself, for what is read of a list, for a plan, and
-- for a command in the physical controller
abbrev pub may_want : Event → Bool
may_want (event.Guest guest a) = is_long_load a
may_want (event.Admin guest) = false
may_want (event.Take guest queue lane) = false
may_want (event.List lane tag addr len) = true
may_want (event.Submit lane tag) = true
may_want (event.GiveUp lane tag) = false
may_want (event.DevTake lane) = true
may_want (event.DevMove lane slot number) = false
may_want (event.DevPost lane slot) = false
may_want (event.DevFail lane slot st) = false
may_want (event.Keep block) = false
may_want (event.Reap lane) = false
may_want (event.Post lane tag) = false

-- ---- what the calls below need

-- the state's world is as it was, in parts as large as they were
pub record IsUnchanged (old new : State) : Type 0 where
  pub world : world_of new ≡ world_of old
  pub size : IsSameSize old new

-- one more taken command of each queue of each guest can be counted
abbrev pub CanCount : State → Type 0
CanCount s = (guest : ℕ) → CountsMore guest s

-- ---- what a guest has

abbrev pub map_of : Option Guest → Option Mapping
map_of None = None
map_of (Some guest) = Some guest.memory_map

abbrev pub range_of : Option Guest → Option Namespace
range_of None = None
range_of (Some guest) = Some guest.namespace

abbrev pub limit_of : Option Guest → Option ℕ
limit_of None = None
limit_of (Some guest) = Some guest.limit

-- what a guest is to have may be given to it: its extents are a namespace, and its limit on descriptors may be
pub record MayBeGiven (guest : Guest) : Type 0 where
  pub blocks : is_namespace guest.namespace ≡ true
  pub limit : IsLimit guest.limit
