-- The mediator as its callers see it: its set-up, the log of what has happened, and the world after it (profile).
use Rattle.std.specs.Prelude.{◌≡◌, ◌⊎◌, List, [], ◌∷◌, ◌++◌, length}
use Rattle.nv_core.specs.State.{State, world_of}
use Rattle.nv_core.specs.Submit.{IsCurrent}
use Rattle.nv_mediator.specs.Hosted.{Hosted, IsLog}
pub use Rattle.nv_mediator.specs.Hosted.{map_of, range_of, limit_of}
use Rattle.nv_model.specs.declared.reply.Reply.{Reply}
use Rattle.nv_model.specs.declared.reply.Reply.TheVariants as reply
use Rattle.nv_plan.specs.Made.{MadePlan}
use Rattle.nv_world_model.specs.declared.event.Event.{Event}
use Rattle.nv_world_model.specs.declared.event.Event.TheVariants as event
use Rattle.nv_world_model.specs.declared.logged.Logged.{Logged}
use Rattle.nv_world_model.specs.Geometry.{Geometry}
use Rattle.nv_world_model.specs.Headline.{AreContained, Headline}
use Rattle.nv_world_model.specs.SetUp.{SetUp, world_at_start}
use Rattle.nv_world_model.specs.Step.{step}
use Rattle.nv_world_model.specs.World.{World}

pub record Mediated : Type 0 where
  pub setup : SetUp
  pub log : List Logged
  pub world : World

-- at the start of a set-up nothing has happened
abbrev pub opened : SetUp → Mediated
opened s = record { setup = s; log = []; world = world_at_start s }

-- ---- a step

-- the event was carried out, and is in the log with its reply
pub record IsLogged (e : Event) (old : Mediated) (r : Reply) (new : Mediated) : Type 0 where
  pub after : record { world = new.world; reply = r } ≡ step old.setup.geometry e old.world
  pub log : new.log ≡ old.log ++ record { event = e; reply = r } ∷ []
  pub setup : new.setup ≡ old.setup

-- or there was no memory for it, and nothing has changed
abbrev pub IsStepped : Event → (old : Mediated) → Reply → (new : Mediated) → Type 0
IsStepped e old r new = (r ≡ reply.NoMemory) × (new ≡ old) ⊎ IsLogged e old r new

-- the event was carried out, whatever its reply
abbrev pub IsAdvanced : Event → (old new : Mediated) → Type 0
IsAdvanced e old new = (r : Reply) × IsLogged e old r new

-- a plan that was made elsewhere was the Submit of its tag, where what it was made of is current; or nothing has changed
abbrev pub IsSubmitted : MadePlan → (old : Mediated) → Reply → (new : Mediated) → Type 0
IsSubmitted plan old r new =
    (r ≡ reply.NoMemory) × (new ≡ old)
    ⊎ (r ≡ reply.Stale) × (new ≡ old) × (IsCurrent old.setup.geometry old.world plan → ⊥)
    ⊎ IsCurrent old.setup.geometry old.world plan × IsLogged (event.Submit plan.job.lane plan.job.tag) old r new

-- these events one after another, and what they are answered
unfoldable pub AreStepped : List Event → (old : Mediated) → List Reply → (new : Mediated) → Type 0
AreStepped [] old [] new = new ≡ old
AreStepped [] old (r ∷ rs) new = ⊥
AreStepped (e ∷ es) old [] new = ⊥
AreStepped (e ∷ es) old (r ∷ rs) new = (between : Mediated) × (IsStepped e old r between × AreStepped es between rs new)

-- and these replies were appended to others
pub record AreAnswered (es : List Event) (old : Mediated) (before after : List Reply) (new : Mediated) : Type 0 where
  pub replies : List Reply
  pub stepped : AreStepped es old replies new
  pub joined : after ≡ before ++ replies

-- ---- what a mediator keeps

-- what the code holds: what stays as it is, the state on lists, and the log
pub record Kept : Type 0 where
  pub geometry : Geometry
  pub state : State
  pub log : List Logged

-- its set-up
abbrev pub setup_of : Kept → SetUp
setup_of k = record { host_bytes = length k.state.host; lanes = length k.state.lanes; geometry = k.geometry }

-- what it is to its callers
abbrev pub mediated : Kept → Mediated
mediated k = record { setup = setup_of k; log = k.log; world = world_of k.state }

-- what of it is a mediator without a log
abbrev pub hosted : Kept → Hosted
hosted k = record { geometry = k.geometry; state = k.state }

-- the log leads to it: the mediator keeps all else
abbrev pub IsRunning : Kept → Type 0
IsRunning k = IsLog k.log (hosted k)

-- each step of its log is contained, whole
abbrev pub IsContained : Kept → Type 0
IsContained k = AreContained k.geometry k.log (world_at_start (setup_of k))

-- its log keeps the whole promise: what each disciplined guest none of whose commands failed has seen, and has, is a run of
-- its own private controller's, and each step is contained
abbrev pub KeepsPromise : Kept → Type 0
KeepsPromise k = Headline k.geometry (world_at_start (setup_of k)) k.log (world_of k.state)
