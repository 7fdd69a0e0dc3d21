-- What a call from C does to a mediator that is lent the host's memory, and what its answer says.
use Rattle.std.specs.Prelude.{◌≡◌, ◌+◌, ◌≢◌, ◌⊎◌, ◌<◌, ◌≤◌, ℕ, true, false, ◌&&◌, if◌then◌else◌, IsTrue, length, List, map, Option, Some, None, option_map, slice_get, slice_set}
use Rattle.nv_c.specs.Calls.{bad_size, closed, dword_told, idle, ignored, no_memory, no_such, ok, status_of, stray}
use Rattle.nv_c.specs.Names.{Names}
use Rattle.nv_c.specs.declared.event.Event as c
use Rattle.nv_c.specs.declared.rings.Rings.{Rings}
use Rattle.nv_c.specs.declared.working.Scope.{Scope}
use Rattle.nv_c.specs.declared.working.Scope.TheVariants as scope
use Rattle.nv_core.specs.Front.{IsBeside, IsReaped}
use Rattle.nv_core.specs.Reaping.{answer_of, waits_in}
use Rattle.nv_core.specs.Seat.{bytes_told}
use Rattle.nv_host.specs.Closing.{AreDone, IsEndedBy, IsLaneAlone, IsOver, IsRingAlone}
use Rattle.nv_host.specs.Served.{IsDone, IsNext, IsUnreached, LeadsTo, Served, is_closed, is_offered, is_reap, is_served}
use Rattle.nv_host.specs.Sharing.{IsShare, IsShareRefused}
use Rattle.nv_host.specs.Work.{IsWorked, scene}
use Rattle.nv_host.specs.declared.shares.ShareRefusal.{ShareRefusal}
use Rattle.nv_host.specs.declared.shares.ShareRefusal.TheVariants as refusal
use Rattle.nv_host.specs.declared.worked.Scope.{Scope as Hosts}
use Rattle.nv_host.specs.declared.worked.Scope.TheVariants as hosts
use Rattle.nv_host.specs.declared.worked.Why.{Why}
use Rattle.nv_host.specs.declared.worked.Why.TheVariants as why
use Rattle.nv_host.specs.declared.worked.Worked.{Worked}
use Rattle.nv_mediator.specs.Hosted.{Hosted, may_want}
use Rattle.nv_model.specs.Controller.{Controller, pending, queue_count}
use Rattle.nv_model.specs.declared.reply.Reply.{Reply}
use Rattle.nv_model.specs.declared.reply.Reply.TheVariants as reply
use Rattle.nv_world_model.specs.Area.{completion_slot, ring_size, submission_slot}
use Rattle.nv_world_model.specs.Due.{due}
use Rattle.nv_world_model.specs.World.{World}
use Rattle.nv_world_model.specs.declared.event.Event.{Event}
use Rattle.nv_world_model.specs.declared.event.Event.TheVariants as event
use Rattle.nv_world_model.specs.declared.logged.Logged.{Logged}

-- ---- what a call does

-- the event was made, whole, and is answered by its reply
abbrev pub IsServed : Event → (before after : List ℕ) → (old : Served) → (status : ℕ) → (new : Served) → Type 0
IsServed e before after old status new = (r : Reply) × (status ≡ status_of r) × IsDone e old before r new after

-- nothing was done, and it is answered so
abbrev pub IsNotDone : (why : ℕ) → (before after : List ℕ) → (old : Served) → (status : ℕ) → (new : Served) → Type 0
IsNotDone why before after old status new = (status ≡ why) × (new ≡ old) × (after ≡ before)

-- what is known of an event that was made, whatever is in memory: of a Reap, that the next completion of the lane is answered so, that it was read where it
-- was new, and that memory is as it was
abbrev pub IsAnswered : Event → (before after : List ℕ) → (old : Served) → Reply → (new : Served) → Type 0
IsAnswered (event.Reap lane) before after old r new =
    (answer_of old.setup.geometry lane (slice_get old.side.lanes lane) before ≡ Some r) × (after ≡ before)
    × (r ≡ reply.Done → IsReaped old.setup.geometry lane old.side new.side before) × ((r ≡ reply.Done → ⊥) → new ≡ old)
IsAnswered e before after old r new = IsDone e old before r new after

-- the next completion of a lane names no command
abbrev pub HasStray : Event → (before : List ℕ) → (old : Served) → Type 0
HasStray (event.Reap lane) before old = answer_of old.setup.geometry lane (slice_get old.side.lanes lane) before ≡ None
HasStray e before old = ⊥

-- what an event that is no guest's act comes to. A Reap of a completion that names no command is answered so; then no log leads there. So is a Take for
-- a lane that was closed, an event of the drive's, and one for which there was no memory
abbrev pub IsStepped : Event → (before after : List ℕ) → (old : Served) → (status : ℕ) → (new : Served) → Type 0
IsStepped e before after old status new =
    ((r : Reply) × (status ≡ status_of r) × IsNext e old before r new after × IsAnswered e before after old r new)
    ⊎ HasStray e before old × IsUnreached old before × IsNotDone stray before after old status new
    ⊎ (is_offered old e ≡ false) × IsTrue (is_served e) × IsNotDone closed before after old status new
    ⊎ (is_served e ≡ false) × IsNotDone no_such before after old status new
    ⊎ IsTrue (may_want e) × IsTrue (is_served e) × IsNotDone no_memory before after old status new

-- of the event that a struct names
abbrev pub IsNamedStep : c.Event → (before after : List ℕ) → (old : Served) → (status : ℕ) → (new : Served) → Type 0
IsNamedStep named before after old status new = (e : Event) × Names named e × IsStepped e before after old status new

-- the event was made, and the value after it is the dword that was read
abbrev pub IsRead : Event → (value : ℕ) → (before after : List ℕ) → (old : Served) → (status : ℕ) → (new : Served) → Type 0
IsRead e value before after old status new =
    (r : Reply) × (status ≡ status_of r) × IsDone e old before r new after × (value ≡ dword_told r)

-- the bytes of a load are in the room; or none were loaded, and the room is as it was. Nothing else changes
abbrev pub IsLoaded : Event → (room filled : List ℕ) → (before after : List ℕ) → (old : Served) → (status : ℕ) → (new : Served) → Type 0
IsLoaded e room filled before after old status new =
    (r : Reply) × (status ≡ status_of r) × (new ≡ old)
    × ((r ≡ reply.Done) × IsDone e old before (reply.Bytes filled) old after ⊎ (bytes_told r ≡ None) × (filled ≡ room) × IsDone e old before r old after)

-- it was reported whether the event is due in each world of a log that leads there, and, but for a Reap, in each in which the mediator may be at all; and of
-- a Reap whether a completion of the lane waits, whatever led there. None is due for a lane that was closed. Nothing has changed
abbrev pub IsTold : Event → (told : ℕ) → (before after : List ℕ) → (old : Served) → (status : ℕ) → (new : Served) → Type 0
IsTold e told before after old status new =
    (status ≡ ok) × (new ≡ old) × (after ≡ before)
    × ((first : World) (log : List Logged) (z : World) → LeadsTo old first before log z → told ≡ (if is_offered old e && due old.setup.geometry e z then 1 else 0))
    × ((w : World) → IsBeside old.side before w → is_reap e ≡ false → told ≡ (if is_offered old e && due old.setup.geometry e w then 1 else 0))
    × ((lane : ℕ) → e ≡ event.Reap lane → told ≡ (if waits_in old.setup.geometry lane (slice_get old.side.lanes lane) before then 1 else 0))

-- of the event that a struct names
abbrev pub IsNamedTold : c.Event → (told : ℕ) → (before after : List ℕ) → (old : Served) → (status : ℕ) → (new : Served) → Type 0
IsNamedTold named told before after old status new = (e : Event) × Names named e × IsTold e told before after old status new

-- ---- work

-- a scope, as the host's mediator has it
abbrev pub hosts_scope : Scope → Hosts
hosts_scope (scope.Guest guest) = hosts.Guest guest
hosts_scope (scope.Lane lane) = hosts.Lane lane
hosts_scope scope.All = hosts.All

-- what a call that carries out what is due returns, by why it ended
abbrev pub status_of_why : Why → ℕ
status_of_why why.Enough = ok
status_of_why why.Starved = no_memory
status_of_why why.GaveUp = no_memory
status_of_why (why.Stray lane) = stray

-- what is due of a scope was carried out, so many events
abbrev pub IsWorkLent : Scope → (most done : ℕ) → (before after : List ℕ) → (old : Served) → (status : ℕ) → (new : Served) → Type 0
IsWorkLent s most done before after old status new =
    (worked : Worked) × (worked.done ≡ done) × (status ≡ status_of_why worked.why)
    × IsWorked (hosts_scope s) most worked (scene old before) (scene new after)

-- ---- the drive's queues

-- where a lane's rings lie and how long they are, what their doorbells are to have, and whether the lane was closed
pub record AreRings (h : Served) (lane : ℕ) (rings : Rings) : Type 0 where
  pub there : lane < h.setup.lanes
  pub submission : rings.submission ≡ submission_slot h.setup.geometry.mediator lane 0
  pub completion : rings.completion ≡ completion_slot h.setup.geometry.mediator lane 0
  pub entries : rings.entries ≡ ring_size
  pub tail : Some rings.tail ≡ slice_get h.side.tails lane
  pub head : Some rings.head ≡ option_map (λ l. l.head) (slice_get h.side.lanes lane)
  pub closed : rings.closed ≡ (if is_closed h lane then 1 else 0)

-- they were reported, or there is no such lane; nothing has changed
abbrev pub IsRingsTold : (lane : ℕ) → (before after : Rings) → (old : Served) → (status : ℕ) → (new : Served) → Type 0
IsRingsTold lane before after old status new =
    (new ≡ old) × ((status ≡ ok) × AreRings old lane after ⊎ (old.setup.lanes ≤ lane) × (status ≡ no_such) × (after ≡ before))

-- the vector that one of a guest's completion queues raises: it was reported, or the queue raises none, or there is no such queue or guest
abbrev pub IsVector : Option (Option ℕ) → (before after status : ℕ) → Type 0
IsVector None before after status = (status ≡ no_such) × (after ≡ before)
IsVector (Some None) before after status = (status ≡ idle) × (after ≡ before)
IsVector (Some (Some vector)) before after status = (status ≡ ok) × (after ≡ vector)

abbrev pub IsRaised : (queue : ℕ) → Option Controller → (before after status : ℕ) → Type 0
IsRaised queue None before after status = (status ≡ ignored) × (after ≡ before)
IsRaised queue (Some c) before after status = IsVector (slice_get (pending c) queue) before after status

-- and nothing has changed
abbrev pub IsRaisedTold : (guest queue before after : ℕ) → (old : Served) → (status : ℕ) → (new : Served) → Type 0
IsRaisedTold guest queue before after old status new = (new ≡ old) × IsRaised queue (slice_get old.side.controllers guest) before after status

-- a vector as a host keeps it: counted from 1, and 0 where there is none
abbrev pub vector_kept : Option ℕ → ℕ
vector_kept None = 0
vector_kept (Some vector) = vector + 1

-- the vectors of a guest's completion queues, of which these were kept, are kept now; it was reported whether they are others; or there is no such guest, or
-- there is no room for exactly these
abbrev pub IsSeen : Option Controller → (before after : List ℕ) → (status : ℕ) → Type 0
IsSeen None before after status = (status ≡ ignored) × (after ≡ before)
IsSeen (Some c) before after status =
    (length before ≢ queue_count) × (status ≡ no_such) × (after ≡ before)
    ⊎ (after ≡ map vector_kept (pending c)) × ((status ≡ idle) × (after ≡ before) ⊎ (status ≡ ok) × (after ≢ before))

-- and nothing has changed
abbrev pub IsSeenTold : (guest : ℕ) → (before after : List ℕ) → (old : Served) → (status : ℕ) → (new : Served) → Type 0
IsSeenTold guest before after old status new = (new ≡ old) × IsSeen (slice_get old.side.controllers guest) before after status

-- why a guest is not given a share, as it is answered
abbrev pub status_of_share : ShareRefusal → ℕ
status_of_share refusal.NoGuest = ignored
status_of_share refusal.TooSmall = bad_size
status_of_share refusal.TooLarge = bad_size

-- a guest was given a share of so many tags, or it was not, for a reason that holds
abbrev pub IsShareGiven : (guest tags : ℕ) → (old : Served) → (status : ℕ) → (new : Served) → Type 0
IsShareGiven guest tags old status new =
    (status ≡ ok) × IsShare guest tags old new
    ⊎ ((why : ShareRefusal) × (status ≡ status_of_share why) × (new ≡ old) × IsShareRefused guest tags old why)

-- a lane was closed
pub record IsShut (lane : ℕ) (before after : List ℕ) (old new : Served) : Type 0 where
  pub there : lane < old.setup.lanes
  pub logs : (first : World) (log : List Logged) (z : World) → LeadsTo old first before log z → IsEndedBy lane first log new after
  pub over : IsOver old.setup.geometry lane before old.side new.side
  pub ended : AreDone lane new.side
  pub alone : IsLaneAlone lane old.side new.side
  pub ring : IsRingAlone old.setup.geometry lane before after
  pub idle : waits_in old.setup.geometry lane (slice_get new.side.lanes lane) after ≡ false
  pub closed : new.closed ≡ slice_set old.closed lane true
  pub setup : new.setup ≡ old.setup
  pub spare : new.spare ≡ old.spare

-- or there is none, and nothing has changed
abbrev pub IsClosed : (lane : ℕ) → (before after : List ℕ) → (old : Served) → (status : ℕ) → (new : Served) → Type 0
IsClosed lane before after old status new =
    (status ≡ ok) × IsShut lane before after old new ⊎ (old.setup.lanes ≤ lane) × IsNotDone no_such before after old status new

-- a mediator whose drive is the library's own has no such lane for a host
abbrev pub HasNoRings : (before after : Rings) → (old : Hosted) → (status : ℕ) → (new : Hosted) → Type 0
HasNoRings before after old status new = (status ≡ no_such) × (new ≡ old) × (after ≡ before)

abbrev pub HasNoLane : (old : Hosted) → (status : ℕ) → (new : Hosted) → Type 0
HasNoLane old status new = (status ≡ no_such) × (new ≡ old)

-- it says nothing of interrupts
abbrev pub HasNoVector : (before after : ℕ) → (old : Hosted) → (status : ℕ) → (new : Hosted) → Type 0
HasNoVector before after old status new = (status ≡ no_such) × (new ≡ old) × (after ≡ before)

abbrev pub HasNoVectors : (before after : List ℕ) → (old : Hosted) → (status : ℕ) → (new : Hosted) → Type 0
HasNoVectors before after old status new = (status ≡ no_such) × (new ≡ old) × (after ≡ before)

-- and its guests have no shares
abbrev pub HasNoShares : (old : Hosted) → (status : ℕ) → (new : Hosted) → Type 0
HasNoShares old status new = (status ≡ no_such) × (new ≡ old)
