-- What the calls below `HostMediator::work` say of each other (profile).
use Rattle.std.specs.Prelude.{◌≡◌, ℕ, true, slice_get, IsSome, Some}
use Rattle.nv_core.specs.Jobs.{holder_in, job_in}
use Rattle.nv_core.specs.Submit.{IsLimit}
use Rattle.nv_core.specs.declared.holding.Holder.{Holder}
use Rattle.nv_host.specs.Work.{HasEnded, IsIn, IsWanting, Leads, NotDue, Rests, Scene, Waits}
use Rattle.nv_host.specs.declared.planning.GrantCopy.{GrantCopy}
use Rattle.nv_host.specs.declared.planning.Stride.{Stride}
use Rattle.nv_host.specs.declared.planning.Stride.TheVariants as stride
use Rattle.nv_host.specs.declared.worked.Scope.{Scope}
use Rattle.nv_host.specs.declared.worked.Scope.TheVariants as scope
use Rattle.nv_host.specs.declared.worked.Round.{Round}
use Rattle.nv_host.specs.declared.worked.Why.TheVariants as why
use Rattle.nv_host.specs.declared.worked.Worked.{Worked}
use Rattle.nv_model.specs.Transcript.{Settled}
use Rattle.nv_plan.specs.Fed.{UnderWay}
use Rattle.nv_plan.specs.Made.{outcome_of}
use Rattle.nv_plan.specs.declared.job.Job.{Job}
use Rattle.nv_world_model.specs.Geometry.{Guest}
use Rattle.nv_world_model.specs.Plan.{Plan}
use Rattle.nv_world_model.specs.World.{tag_in}
use Rattle.nv_world_model.specs.declared.event.Event.TheVariants as event

-- one pass over a part of the work: where it made no event, and nothing stopped it, this much is known of what it found
abbrev pub IsPass : Scope → (nothing : Type 0) → (most : ℕ) → Worked → (old new : Scene) → Type 0
IsPass sc nothing most worked old new = HasEnded sc most worked.done (worked.done ≡ 0 → nothing) worked.why old new

-- one round of a scope: where it made no event, and nothing stopped it, nothing was due; and nothing is left where that is known
pub record IsRoundOf (sc : Scope) (most : ℕ) (round : Round) (old new : Scene) : Type 0 where
  pub pass : IsPass sc (Rests sc old) most round.worked old new
  pub rest : round.rests ≡ true → (round.worked.why ≡ why.Enough) × Rests sc new

-- no command of a guest's waits for its plan by that tag, by any tag of a lane, and by any at all below a lane
abbrev pub NoneWaitsAt : Scene → (guest lane tag : ℕ) → Type 0
NoneWaitsAt s guest lane tag = (job : Job) (given : Guest) → Waits s lane tag job given → job.guest ≡ guest → ⊥

abbrev pub NoneWaits : Scene → (guest lane : ℕ) → Type 0
NoneWaits s guest lane = (tag : ℕ) → NoneWaitsAt s guest lane tag

-- of a guest's queues nothing is due
pub record QueuesRest (s : Scene) (guest : ℕ) : Type 0 where
  pub admin : NotDue s (event.Admin guest)
  pub takes : (queue lane : ℕ) → NotDue s (event.Take guest queue lane)

-- no command at all waits for its plan by that tag
abbrev pub NothingWaitsAt : Scene → (lane tag : ℕ) → Type 0
NothingWaitsAt s lane tag = (guest : ℕ) → NoneWaitsAt s guest lane tag

-- no command of a lane may be posted to its guest
abbrev pub NonePosts : Scene → (lane : ℕ) → Type 0
NonePosts s lane = (tag : ℕ) → NotDue s (event.Post lane tag)

-- nothing is due of a lane, and none of its commands waits for its plan
abbrev pub LaneRests : Scene → (lane : ℕ) → Type 0
LaneRests s lane = Rests (scope.Lane lane) s × ((tag : ℕ) → NothingWaitsAt s lane tag)

-- that guest's command goes by that tag
abbrev pub IsOwn : Scene → (guest lane tag : ℕ) → Type 0
IsOwn s guest lane tag = holder_in (tag_in (slice_get s.served.side.lanes lane) tag) ≡ Some (let h : Holder = record { guest = guest; leader = tag } in h)

-- a command of a guest's waits for its plan, and the guest was given this
pub record IsWaiting (guest : ℕ) (s : Scene) (job : Job) (given : Guest) : Type 0 where
  pub waits : Waits s job.lane job.tag job given
  pub own : IsIn (scope.Guest guest) s (event.GiveUp job.lane job.tag)

-- a command of a guest's may be given up
pub record MayGiveUp (guest : ℕ) (s : Scene) (lane tag : ℕ) : Type 0 where
  pub own : IsIn (scope.Guest guest) s (event.GiveUp lane tag)
  pub waits : IsSome (job_in lane tag (tag_in (slice_get s.served.side.lanes lane) tag))

-- a copy of what a guest was given, with a limit that may be
pub record IsGiven (s : Scene) (guest : ℕ) (copy : GrantCopy) : Type 0 where
  pub is : slice_get s.served.setup.geometry.guests guest ≡ Some (record { memory_map = copy.map; namespace = copy.ns; limit = copy.limit })
  pub limit : IsLimit copy.limit

-- a plan under way is that of such a command
abbrev pub IsReading : (guest : ℕ) → Scene → UnderWay → Type 0
IsReading guest s p = IsWaiting guest s p.job p.given

-- one more read was made for a plan under way, which has it; or its plan can be made, or there was no memory, and nothing has changed; or one
-- event was made that the plan has not got
abbrev pub IsStride : (guest : ℕ) → (old : Scene) → (before : UnderWay) → Stride → (new : Scene) → (after : UnderWay) → Type 0
IsStride guest old before stride.Read new after = Leads (scope.Guest guest) 1 old new × IsReading guest new after
IsStride guest old before stride.Planned new after =
    (new ≡ old) × (after ≡ before) × ((plan : Plan) × (outcome_of before.given before.job ≡ Settled plan))
IsStride guest old before stride.Starved new after = (new ≡ old) × (after ≡ before)
IsStride guest old before stride.Full new after = (new ≡ old) × IsWanting (scope.Guest guest) old
IsStride guest old before stride.Lost new after = Leads (scope.Guest guest) 1 old new
