-- Where a part is that was handed on, as far as the physical controller and the lane's rings show it: the mediator keeps no such place (profile).
use Rattle.std.specs.Prelude.{ℕ, zero, suc, ◌+◌, ◌&&◌, ◌==◌, nat_lt, Bool, if◌then◌else◌, List, [], ◌∷◌, Option, Some, None}
use Rattle.std.specs.List.{slice_index_or}
use Rattle.nv_entry.specs.Completion.{cid_of as completed_cid}
use Rattle.nv_entry.specs.Submission.{cid_of}
use Rattle.nv_model.specs.Memory.{bytes_from}
use Rattle.nv_model.specs.Queue.{ahead, cqe_size, sqe_size}
use Rattle.nv_world_model.specs.Area.{completion_slot, ring_size, submission_slot}
use Rattle.nv_world_model.specs.Device.{DeviceLane, Held}
use Rattle.nv_world_model.specs.World.{Answered, Ended, Flying, Free, InDevice, Lane, Queued, Standing, Tag, Taken}

-- the last of so many slots that passes a test
unfoldable pub slot_where : (test : ℕ → Bool) → (count : ℕ) → Option ℕ
slot_where test zero = None
slot_where test (suc slot) = if test slot then Some slot else slot_where test slot

-- whether a slot lies between two positions of a ring, going round
abbrev pub is_between : (from to slot : ℕ) → Bool
is_between from to slot = nat_lt (ahead ring_size from slot) (ahead ring_size from to)

-- the slot of the submission ring whose entry has the tag as its identifier, and that of the completion ring whose completion names it
abbrev pub entry_slot : (mediator lane tag : ℕ) → (host : ℕ → ℕ) → DeviceLane → Option ℕ
entry_slot mediator lane tag host d =
    slot_where (λ slot. is_between d.head d.tail slot && cid_of (bytes_from host (submission_slot mediator lane slot) sqe_size) == tag) ring_size

abbrev pub completed_slot : (mediator lane tag : ℕ) → (host : ℕ → ℕ) → (head : ℕ) → DeviceLane → Option ℕ
completed_slot mediator lane tag host head d =
    slot_where (λ slot. is_between head d.posted slot && completed_cid (bytes_from host (completion_slot mediator lane slot) cqe_size) == tag) ring_size

-- the place of a part: in the physical controller where that holds a command under its tag, else in one of these slots
abbrev pub place_by : Option Held → (entry completed : Option ℕ) → Standing
place_by (Some h) entry completed = InDevice
place_by None (Some slot) completed = Queued slot
place_by None None (Some slot) = Answered slot
place_by None None None = InDevice

abbrev pub place_of : (mediator lane tag : ℕ) → (host : ℕ → ℕ) → (head : ℕ) → DeviceLane → Standing
place_of mediator lane tag host head d =
    place_by (slice_index_or d.held tag None) (entry_slot mediator lane tag host d) (completed_slot mediator lane tag host head d)

-- the tags of a lane from one on, each part in its place
abbrev pub placed_tag : Standing → Tag → Tag
placed_tag place Free = Free
placed_tag place (Taken command reads) = Taken command reads
placed_tag place (Flying command share before) = Flying command share place
placed_tag place (Ended command st share) = Ended command st share

abbrev pub placed_tags : (place : ℕ → Standing) → (tag : ℕ) → List Tag → List Tag
placed_tags place tag [] = []
placed_tags place tag (t ∷ tags) = placed_tag (place tag) t ∷ placed_tags place (tag + 1) tags

abbrev pub placed_lane : (mediator lane : ℕ) → (host : ℕ → ℕ) → DeviceLane → Lane → Lane
placed_lane mediator lane host d l = record l { tags = placed_tags (λ tag. place_of mediator lane tag host l.head d) 0 l.tags }

-- the lanes from one on
abbrev pub placed_lanes : (mediator lane : ℕ) → (host : ℕ → ℕ) → List DeviceLane → List Lane → List Lane
placed_lanes mediator lane host ds [] = []
placed_lanes mediator lane host [] (l ∷ ls) = l ∷ ls
placed_lanes mediator lane host (d ∷ ds) (l ∷ ls) = placed_lane mediator lane host d l ∷ placed_lanes mediator (lane + 1) host ds ls
