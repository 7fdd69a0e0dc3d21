-- What a call from C returns, and what it does to the mediator of a handle.
use Rattle.std.specs.Prelude.{◌≡◌, ◌≢◌, ◌⊎◌, ◌<◌, ◌≤◌, ◌==◌, ℕ, Bool, if◌then◌else◌, length, slice_get, IsSome, IsTrue, ⊤, List, Option, Some, None}
use Rattle.std.specs.Borrow.{Bor}
use Rattle.std.specs.Int.{from_le_bytes, w32}
use Rattle.std.specs.Ptr.{Ptr, as_ptr}
use Rattle.nv_core.specs.Seat.{bytes_told}
use Rattle.nv_core.specs.Shown.{IsBlock, mark_shown}
use Rattle.nv_c.specs.declared.event.Event as c
use Rattle.nv_c.specs.declared.held.Held.{Held}
use Rattle.nv_c.specs.declared.held.Held.TheVariants.{Serving, Simulated}
use Rattle.nv_c.specs.Names.{Names}
use Rattle.nv_c.specs.Promise.{IsKept}
use Rattle.nv_c.specs.Work.{IsWorkedFor}
use Rattle.nv_c.specs.declared.working.Scope.{Scope}
use Rattle.nv_c.specs.declared.working.Why.{Why}
use Rattle.nv_c.specs.declared.working.Why.TheVariants as why
use Rattle.nv_host.specs.Served.{AreRingsAlone, IsAtStart as IsFirst, Served, serving_refusal_of}
use Rattle.nv_mediator.specs.Hosted.{Hosted, IsAtStart, IsMade, hosted_world, may_want}
use Rattle.nv_mediator.specs.Refused.{refused}
use Rattle.nv_mediator.specs.declared.refusal.Refusal.{Refusal}
use Rattle.nv_mediator.specs.declared.refusal.Refusal.TheVariants as refusal
use Rattle.nv_mem.specs.MapRefusal.{refusal_of as map_refused}
use Rattle.nv_mem.specs.declared.map_error.MapError.{MapError}
use Rattle.nv_mem.specs.declared.map_error.MapError.TheVariants as map
use Rattle.nv_model.specs.declared.reply.Reply.{Reply}
use Rattle.nv_model.specs.declared.reply.Reply.TheVariants as reply
use Rattle.nv_world_model.specs.declared.event.Event.{Event}
use Rattle.nv_world_model.specs.Geometry.{Guest}
use Rattle.nv_world_model.specs.SetUp.{Refusal as Reason, SetUp, refusal_of}
use Rattle.nv_world_model.specs.Due.{due}

-- ---- the numbers of `enum nvmed_status`, as the header has them

abbrev pub ok : ℕ
ok = 0

abbrev pub idle : ℕ
idle = 1

abbrev pub busy : ℕ
busy = 2

abbrev pub held : ℕ
held = 3

abbrev pub stale : ℕ
stale = 4

abbrev pub unmapped : ℕ
unmapped = 5

abbrev pub ignored : ℕ
ignored = 6

abbrev pub no_memory : ℕ
no_memory = 8

abbrev pub too_many_guests : ℕ
too_many_guests = 9

abbrev pub ranges_meet : ℕ
ranges_meet = 10

abbrev pub maps_meet : ℕ
maps_meet = 11

abbrev pub bad_size : ℕ
bad_size = 12

abbrev pub unaligned : ℕ
unaligned = 13

abbrev pub overlap : ℕ
overlap = 14

abbrev pub outside_host : ℕ
outside_host = 15

abbrev pub no_mediator : ℕ
no_mediator = 16

abbrev pub in_use : ℕ
in_use = 17

abbrev pub no_such : ℕ
no_such = 18

abbrev pub other_memory : ℕ
other_memory = 20

abbrev pub closed : ℕ
closed = 21

abbrev pub stray : ℕ
stray = 22

-- any of them but NVMED_OK: what a call was to hand out is then not there
abbrev pub IsError : (status : ℕ) → Type 0
IsError status = status ≡ ok → ⊥

-- what a guest's regions are answered that are no map
abbrev pub status_of_map : MapError → ℕ
status_of_map map.Unaligned = unaligned
status_of_map map.Overlap = overlap
status_of_map map.OutsideHost = outside_host

-- what a set-up is answered that is no world
abbrev pub status_of_refusal : Refusal → ℕ
status_of_refusal refusal.NoMemory = no_memory
status_of_refusal refusal.TooManyGuests = too_many_guests
status_of_refusal refusal.ExtentsMeet = ranges_meet
status_of_refusal refusal.MapsMeet = maps_meet
status_of_refusal refusal.BadSize = bad_size

-- what an event is answered
abbrev pub status_of : Reply → ℕ
status_of reply.Done = ok
status_of (reply.Bytes bytes) = ok
status_of reply.Idle = idle
status_of reply.Busy = busy
status_of reply.Held = held
status_of reply.Stale = stale
status_of reply.Unmapped = unmapped
status_of reply.Ignored = ignored
status_of reply.NoMemory = no_memory

-- the dword that a reply returns, 0 where it returns none
abbrev pub dword_told : Reply → ℕ
dword_told (reply.Bytes bytes) = if length bytes == 4 then from_le_bytes w32 bytes else 0
dword_told reply.Done = 0
dword_told reply.Idle = 0
dword_told reply.Busy = 0
dword_told reply.Held = 0
dword_told reply.Stale = 0
dword_told reply.Unmapped = 0
dword_told reply.Ignored = 0
dword_told reply.NoMemory = 0

-- ---- what a call does

-- the event was made, whole, and is answered by its reply
abbrev pub IsDone : Event → (old : Hosted) → (status : ℕ) → (new : Hosted) → Type 0
IsDone e old status new = (r : Reply) × (status ≡ status_of r) × IsMade e old r new

-- or, of an event that may need memory, there was none for it, and nothing has changed
abbrev pub IsStepped : Event → (old : Hosted) → (status : ℕ) → (new : Hosted) → Type 0
IsStepped e old status new = IsDone e old status new ⊎ IsTrue (may_want e) × (status ≡ no_memory) × (new ≡ old)

-- the event was made, and the value after it is the dword that was read; it needs no memory
abbrev pub IsRead : Event → (after : ℕ) → (old : Hosted) → (status : ℕ) → (new : Hosted) → Type 0
IsRead e after old status new = (r : Reply) × (status ≡ status_of r) × IsMade e old r new × (after ≡ dword_told r)

-- of the event that a struct names, which is no guest's act
abbrev pub IsNamedStep : c.Event → (old : Hosted) → (status : ℕ) → (new : Hosted) → Type 0
IsNamedStep named old status new = (e : Event) × Names named e × IsStepped e old status new

-- what a call that carries out what is due returns, by why it ended
abbrev pub status_of_end : Why → ℕ
status_of_end why.Enough = 0
status_of_end why.Starved = no_memory
status_of_end why.GaveUp = no_memory

-- what is due of a scope was carried out, so many events; the answer says whether there was memory
abbrev pub IsWorkTold : Scope → (most done : ℕ) → (old : Hosted) → (status : ℕ) → (new : Hosted) → Type 0
IsWorkTold s most done old status new =
    (end : Why) × (status ≡ status_of_end end) × IsWorkedFor s most done end old new

-- the bytes of a load are in the room; or none were loaded, and the room is as it was. Nothing else changes
abbrev pub IsLoaded : Event → (before after : List ℕ) → (old : Hosted) → (status : ℕ) → (new : Hosted) → Type 0
IsLoaded e before after old status new =
    (r : Reply) × (status ≡ status_of r) × (new ≡ old)
    × ((r ≡ reply.Done) × IsMade e old (reply.Bytes after) old ⊎ (bytes_told r ≡ None) × (after ≡ before) × IsMade e old r old)

-- it was reported whether the event is due, and nothing has changed
abbrev pub IsTold : Event → (told : ℕ) → (old : Hosted) → (status : ℕ) → (new : Hosted) → Type 0
IsTold e told old status new =
    (status ≡ ok) × (new ≡ old) × (told ≡ (if due old.geometry e (hosted_world old) then 1 else 0))

-- of the event that a struct names
abbrev pub IsNamedTold : c.Event → (told : ℕ) → (old : Hosted) → (status : ℕ) → (new : Hosted) → Type 0
IsNamedTold named told old status new = (e : Event) × Names named e × IsTold e told old status new

-- it was reported whether the block is kept, or that the disk has no such block; nothing has changed
abbrev pub IsMark : Option Bool → (mark status : ℕ) → Type 0
IsMark None mark status = status ≡ no_such
IsMark (Some is) mark status = (status ≡ ok) × (mark ≡ (if is then 1 else 0))

abbrev pub IsKeptTold : (block mark : ℕ) → (old : Hosted) → (status : ℕ) → (new : Hosted) → Type 0
IsKeptTold block mark old status new =
    (new ≡ old) × IsMark (mark_shown old.geometry.disk_blocks (hosted_world old) block) mark status

-- a reference to the bytes of a block was handed out, by its pointer
abbrev pub IsBlockShown : Hosted → (block : ℕ) → (shown : Bor (List ℕ)) → (at : Ptr) → Type 0
IsBlockShown h block shown at = IsBlock h.geometry.disk_blocks (hosted_world h) block shown.now × (at ≡ as_ptr shown)

-- it was, or the disk has no such block; nothing has changed
abbrev pub IsBlockTold : (block : ℕ) → (at : Ptr) → (old : Hosted) → (status : ℕ) → (new : Hosted) → Type 0
IsBlockTold block at old status new =
    (new ≡ old)
    × ((status ≡ ok) × ((shown : Bor (List ℕ)) × IsBlockShown old block shown at)
    ⊎ (status ≡ no_such) × (old.geometry.disk_blocks ≤ block))

-- what a call does to a mediator that is lent the host's memory, where that is as long as the set-up says; and else it does nothing
abbrev pub Lent : (Serves : List ℕ → List ℕ → Served → ℕ → Served → Type 0) → (lent left : List ℕ) → (old : Served) → (status : ℕ) → (new : Served) → Type 0
Lent Serves lent left old status new =
    (length lent ≡ old.setup.host_bytes) × (length left ≡ length lent) × Serves lent left old status new
    ⊎ (length lent ≢ old.setup.host_bytes) × (status ≡ other_memory) × (new ≡ old) × (left ≡ lent)

-- a call does this to a mediator that has a memory of its own, and that to one that is lent the host's. It never turns one into the other
abbrev pub Either : (Does : Hosted → ℕ → Hosted → Type 0) → (Serves : Served → ℕ → Served → Type 0) → (old : Held) → (status : ℕ) → (new : Held) → Type 0
Either Does Serves (Simulated old) status (Simulated new) = Does old status new
Either Does Serves (Simulated old) status (Serving new) = ⊥
Either Does Serves (Serving old) status (Serving new) = Serves old status new
Either Does Serves (Serving old) status (Simulated new) = ⊥

-- it has no memory or disk of its own to be shown
abbrev pub HasNone : (old : Served) → (status : ℕ) → (new : Served) → Type 0
HasNone old status new = (status ≡ no_such) × (new ≡ old)

-- what is done to the mediator of a handle, of which the promise holds afterwards; a handle without one is answered so, and stays without
abbrev pub On : (Does : Held → ℕ → Held → Type 0) → (before : Option Held) → (status : ℕ) → (after : Option Held) → Type 0
On Does before status after =
    (before ≡ None) × (after ≡ None) × (status ≡ no_mediator)
    ⊎ ((old : Held) × (new : Held) × (before ≡ Some old) × (after ≡ Some new) × Does old status new × IsKept new)

-- a call that names a guest or a lane; a number above 255 alone is answered so, and nothing is done
abbrev pub OfGuest : (number : ℕ) → (Does : Held → ℕ → Held → Type 0) → (before : Option Held) → (status : ℕ) → (after : Option Held) → Type 0
OfGuest number Does before status after =
    (256 ≤ number) × (status ≡ no_such) × (after ≡ before) ⊎ (number < 256) × On Does before status after

-- the memory that is lent is left as it was, but by a mediator that is lent it
abbrev pub IsLeft : Option Held → (lent left : List ℕ) → Type 0
IsLeft None lent left = left ≡ lent
IsLeft (Some (Simulated h)) lent left = left ≡ lent
IsLeft (Some (Serving h)) lent left = ⊤

-- what a guest was to have was refused, and the answer gives a reason that holds: there was no memory, or its regions are no map
abbrev pub IsGuestRefused : Guest → (status : ℕ) → Type 0
IsGuestRefused guest status =
    (status ≡ no_memory)
    ⊎ ((error : MapError) × (map_refused guest.memory_map.host_len guest.memory_map.regions ≡ Some error) × (status ≡ status_of_map error))

-- so was a set-up: a guest's part of it, or the whole, by these limits
abbrev pub IsRefused : (refusals : SetUp → Option Reason) → SetUp → (status : ℕ) → Type 0
IsRefused refusals s status =
    (status ≡ no_memory)
    ⊎ ((number : ℕ) × (guest : Guest) × (slice_get s.geometry.guests number ≡ Some guest) × IsGuestRefused guest status)
    ⊎ ((reason : Refusal) × (refused (refusals s) ≡ Some reason) × (status ≡ status_of_refusal reason))

-- a handle that held no mediator holds one with a memory of its own at the start of the set-up, which was accepted, and the promise holds of it; or it
-- stays without, since the set-up was refused; one that held one keeps it
abbrev pub IsOpened : SetUp → (before : Option Held) → (status : ℕ) → (after : Option Held) → Type 0
IsOpened s before status after =
    ((status ≡ ok) × (before ≡ None) × (refusal_of s ≡ None) × ((h : Hosted) × (after ≡ Some (Simulated h)) × IsAtStart s h × IsKept (Simulated h)))
    ⊎ ((before ≡ None) × (after ≡ None) × IsRefused refusal_of s status)
    ⊎ (IsSome before × (after ≡ before) × (status ≡ in_use))

-- the same with one that is lent the host's memory, by the limits of a host and the shares of its guests; the memory that is lent is as long as the set-up says
abbrev pub IsServing : SetUp → (lent left : List ℕ) → (before : Option Held) → (status : ℕ) → (after : Option Held) → Type 0
IsServing s lent left before status after =
    ((status ≡ ok) × (before ≡ None) × (length lent ≡ s.host_bytes) × ((h : Served) × (after ≡ Some (Serving h)) × IsFirst s h left × IsKept (Serving h)))
    ⊎ ((before ≡ None) × (after ≡ None) × IsRefused serving_refusal_of s status)
    ⊎ ((before ≡ None) × (after ≡ None) × (length lent ≢ s.host_bytes) × (status ≡ other_memory))
    ⊎ (IsSome before × (after ≡ before) × (status ≡ in_use))

-- the lanes' completion rings alone were cleared, for a mediator that was made, or for which there was no memory; else no byte has changed
abbrev pub IsCleared : SetUp → (status : ℕ) → (lent left : List ℕ) → Type 0
IsCleared s status lent left = ((status ≡ ok) ⊎ (status ≡ no_memory)) × AreRingsAlone s lent left ⊎ (left ≡ lent)
