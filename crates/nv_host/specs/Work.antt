-- What `HostMediator::work` does: what is due of a scope, event by event, until nothing is or as many were made as were asked for (profile).
use Rattle.std.specs.Prelude.{◌≡◌, ◌<◌, ◌≤◌, ◌&&◌, ℕ, ⊤, Bool, true, List, slice_get, IsSome, IsTrue, Option, Some, None, option_map}
use Rattle.nv_core.specs.Front.{IsBeside, IsReaped}
use Rattle.nv_core.specs.Jobs.{holder_in, job_in}
use Rattle.nv_core.specs.Reaping.{answer_of, waits_in}
use Rattle.nv_host.specs.InRow.{LeadsBy, LeadsUpBy}
use Rattle.nv_host.specs.Served.{IsDone, IsNext, IsUnreached, Served, has_share, is_offered}
use Rattle.nv_host.specs.declared.worked.Scope.{Scope}
use Rattle.nv_host.specs.declared.worked.Scope.TheVariants as scope
use Rattle.nv_host.specs.declared.worked.Why.{Why}
use Rattle.nv_host.specs.declared.worked.Why.TheVariants as why
use Rattle.nv_host.specs.declared.worked.Worked.{Worked}
use Rattle.nv_mediator.specs.Hosted.{may_want}
use Rattle.nv_model.specs.Transcript.{Settled, Wanted}
use Rattle.nv_model.specs.declared.reply.Reply.{Reply}
use Rattle.nv_plan.specs.Made.{outcome_of}
use Rattle.nv_plan.specs.declared.job.Job.{Job}
use Rattle.nv_world_model.specs.Due.{due}
use Rattle.nv_world_model.specs.Geometry.{Guest}
use Rattle.nv_world_model.specs.Plan.{Plan}
use Rattle.nv_world_model.specs.World.{Lane, World, tag_in}
use Rattle.nv_world_model.specs.declared.event.Event.{Event}
use Rattle.nv_world_model.specs.declared.event.Event.TheVariants as event

-- the mediator, and the memory that its calls are lent
pub record Scene : Type 0 where
  pub served : Served
  pub memory : List ℕ

abbrev pub scene : Served → (memory : List ℕ) → Scene
scene h memory = record { served = h; memory = memory }

-- ---- scopes

-- whose side of the mediator an event is, where it is a guest's: its admin commands, the taking of its others, and what they want for their plans
abbrev pub guest_served : List Lane → Event → Option ℕ
guest_served ls (event.Admin guest) = Some guest
guest_served ls (event.Take guest queue lane) = Some guest
guest_served ls (event.List lane tag addr len) = option_map (λ h. h.guest) (holder_in (tag_in (slice_get ls lane) tag))
guest_served ls (event.Submit lane tag) = option_map (λ h. h.guest) (holder_in (tag_in (slice_get ls lane) tag))
guest_served ls (event.GiveUp lane tag) = option_map (λ h. h.guest) (holder_in (tag_in (slice_get ls lane) tag))
guest_served ls _ = None

-- the lane, where it is a lane's: the drive's completions, and those of the lane's commands
abbrev pub lane_served : Event → Option ℕ
lane_served (event.Reap lane) = Some lane
lane_served (event.Post lane tag) = Some lane
lane_served _ = None

-- an event is of a scope
abbrev pub IsIn : Scope → Scene → Event → Type 0
IsIn (scope.Guest guest) s e = guest_served s.served.side.lanes e ≡ Some guest
IsIn (scope.Lane lane) s e = lane_served e ≡ Some lane
IsIn scope.All s e = ⊤

-- ---- what is due

-- a command goes by that tag and waits for its plan, and its guest was given this
pub record Waits (s : Scene) (lane tag : ℕ) (job : Job) (given : Guest) : Type 0 where
  pub taken : job_in lane tag (tag_in (slice_get s.served.side.lanes lane) tag) ≡ Some job
  pub whose : slice_get s.served.setup.geometry.guests job.guest ≡ Some given

-- whether an event may be made now, and a guest that it takes a command of has room for it in its share of the lane
abbrev pub is_allowed : Served → Event → Bool
is_allowed h (event.Take guest queue lane) = is_offered h (event.Take guest queue lane) && has_share h guest lane
is_allowed h e = is_offered h e

-- an event is due in a world: it is what a command wants that waits for its plan, bytes of its list or to be handed on; or a completion of the drive
-- waits; or it would be done there, and may be made. No act of a guest's is, no event of the drive's, and no command that is given up
abbrev pub IsDueIn : Scene → World → Event → Type 0
IsDueIn s w (event.List lane tag addr len) =
    (job : Job) × (given : Guest) × Waits s lane tag job given × (outcome_of given job ≡ Wanted addr len)
IsDueIn s w (event.Submit lane tag) =
    (job : Job) × (given : Guest) × (plan : Plan) × Waits s lane tag job given × (outcome_of given job ≡ Settled plan)
IsDueIn s w (event.Reap lane) = waits_in s.served.setup.geometry lane (slice_get s.served.side.lanes lane) s.memory ≡ true
IsDueIn s w e = (is_allowed s.served e ≡ true) × (due s.served.setup.geometry e w ≡ true)

-- in each world in which the mediator and the memory may be at all, so in each that a log leads to; and in none of them
abbrev pub IsDue : Scene → Event → Type 0
IsDue s e = (w : World) → IsBeside s.served.side s.memory w → IsDueIn s w e

abbrev pub NotDue : Scene → Event → Type 0
NotDue s e = (w : World) → IsBeside s.served.side s.memory w → IsDueIn s w e → ⊥

-- it is due, and of that scope
pub record IsWork (sc : Scope) (s : Scene) (e : Event) : Type 0 where
  pub own : IsIn sc s e
  pub due_now : IsDue s e

-- nothing of that scope is due
abbrev pub Rests : Scope → Scene → Type 0
Rests sc s = (e : Event) → IsIn sc s e → NotDue s e

-- an event is due of that scope that may want memory: bytes of a command's list, or a command that is handed on. None of a lane's may
pub record IsWanting (sc : Scope) (s : Scene) : Type 0 where
  pub event : Event
  pub work : IsWork sc s event
  pub wants : IsTrue (may_want event)

-- ---- what is done

-- a completion of the drive was read: it is the next event of each log that leads there, and its part has ended whatever led there
pub record IsRead (lane : ℕ) (old : Scene) (r : Reply) (new : Scene) : Type 0 where
  pub next : IsNext (event.Reap lane) old.served old.memory r new.served new.memory
  pub ended : IsReaped old.served.setup.geometry lane old.served.side new.served.side old.memory
  pub memory : new.memory ≡ old.memory

-- an event was made, as the call that makes it says
abbrev pub IsMade : Event → (old : Scene) → Reply → (new : Scene) → Type 0
IsMade (event.Reap lane) old r new = IsRead lane old r new
IsMade e old r new = IsDone e old.served old.memory r new.served new.memory

-- an event was made that was work then
pub record IsOneMade (sc : Scope) (e : Event) (old new : Scene) : Type 0 where
  pub work : IsWork sc old e
  pub reply : Reply
  pub made : IsMade e old reply new

-- so many lead from one scene to the other
abbrev pub Leads : Scope → (count : ℕ) → (old new : Scene) → Type 0
Leads sc count old new = LeadsBy Scene (IsOneMade sc) count old new

-- a command of the scope was given up that waited for its plan
pub record GivesUp (sc : Scope) (old new : Scene) : Type 0 where
  pub lane : ℕ
  pub tag : ℕ
  pub own : IsIn sc old (event.GiveUp lane tag)
  pub waits : IsSome (job_in lane tag (tag_in (slice_get old.served.side.lanes lane) tag))
  pub reply : Reply
  pub made : IsMade (event.GiveUp lane tag) old reply new

-- so many lead there, of which the last gives such a command up
abbrev pub LeadsUp : Scope → (count : ℕ) → (old new : Scene) → Type 0
LeadsUp sc count old new = LeadsUpBy Scene (IsOneMade sc) (GivesUp sc) count old new

-- a completion of a lane of the scope names no command that the drive has, and no log leads there
pub record IsStray (sc : Scope) (s : Scene) (lane : ℕ) : Type 0 where
  pub own : IsIn sc s (event.Reap lane)
  pub stray : answer_of s.served.setup.geometry lane (slice_get s.served.side.lanes lane) s.memory ≡ None
  pub unreached : IsUnreached s.served s.memory

-- how a call ended after so many events: with enough, which says that much besides; without memory for what is left and may want some; after a command was given up,
-- since there was no memory for its plan; or at a stray completion
abbrev pub HasEnded : Scope → (most done : ℕ) → (enough : Type 0) → Why → (old new : Scene) → Type 0
HasEnded sc most done enough why.Enough old new = Leads sc done old new × (done ≤ most) × enough
HasEnded sc most done enough why.Starved old new = Leads sc done old new × (done < most) × IsWanting sc new
HasEnded sc most done enough why.GaveUp old new = LeadsUp sc done old new × (done ≤ most)
HasEnded sc most done enough (why.Stray lane) old new = Leads sc done old new × (done < most) × IsStray sc new lane

-- as many events as were asked for are enough, or fewer where nothing is left
abbrev pub IsWorked : Scope → (most : ℕ) → Worked → (old new : Scene) → Type 0
IsWorked sc most worked old new = HasEnded sc most worked.done (worked.done < most → Rests sc new) worked.why old new
