-- How a Reap is answered whatever is in memory, by the lane and the bytes of its next completion alone (Base Specification 2.0, "Completion Queue
-- Entry"; profile).
use Rattle.std.specs.Prelude.{ℕ, ◌==◌, ◌&&◌, Bool, false, if◌then◌else◌, List, Option, None, Some, slice_get}
use Rattle.nv_core.specs.Tags.{is_flying}
use Rattle.nv_entry.specs.Completion.{cid_of, phase_of, sqid_of}
use Rattle.nv_entry.specs.Status.{bit}
use Rattle.nv_machine.specs.Machine as machine
use Rattle.nv_model.specs.Memory.{byte_in, bytes_from}
use Rattle.nv_model.specs.Queue.{cqe_size}
use Rattle.nv_model.specs.declared.reply.Reply.{Reply}
use Rattle.nv_model.specs.declared.reply.Reply.TheVariants as reply
use Rattle.nv_world_model.specs.Area.{completion_slot, queue_pair}
use Rattle.nv_world_model.specs.Geometry.{Geometry}
use Rattle.nv_world_model.specs.World.{Lane}

-- the bytes of the slot that a lane reads next
abbrev pub next_completion : Geometry → (lane : ℕ) → Lane → (memory : List ℕ) → List ℕ
next_completion geometry lane l memory = bytes_from (byte_in memory) (completion_slot geometry.mediator lane l.head) cqe_size

-- a completion is new: it has the phase tag that the lane wants
abbrev pub is_new : Lane → (completion : List ℕ) → Bool
is_new l completion = phase_of completion == bit l.phase

-- it names a command that the physical controller has, by the lane's submission queue and by a tag whose part was handed on
abbrev pub names_command : (lane : ℕ) → Lane → (completion : List ℕ) → Bool
names_command lane l completion = sqid_of completion == queue_pair lane && is_flying (slice_get l.tags (cid_of completion))

-- the reply; none is that the completion is stray
abbrev pub answer_to : (lane : ℕ) → Lane → (completion : List ℕ) → Option Reply
answer_to lane l completion =
    if is_new l completion then (if names_command lane l completion then Some reply.Done else None) else Some reply.Idle

abbrev pub answer_of : Geometry → (lane : ℕ) → Option Lane → (memory : List ℕ) → Option Reply
answer_of geometry lane None memory = Some reply.Ignored
answer_of geometry lane (Some l) memory = answer_to lane l (next_completion geometry lane l memory)

-- whether a completion waits to be reaped
abbrev pub waits_in : Geometry → (lane : ℕ) → Option Lane → (memory : List ℕ) → Bool
waits_in geometry lane None memory = false
waits_in geometry lane (Some l) memory = is_new l (next_completion geometry lane l memory)

-- ---- without a memory

-- whether the dword that was fetched first has the phase tag that the lane wants
abbrev pub is_wanted : Option Lane → (dword : List ℕ) → Bool
is_wanted None dword = false
is_wanted (Some l) dword = machine.is_new l dword

-- the reply where it hasn't
abbrev pub idle_at : Option Lane → Reply
idle_at None = reply.Ignored
idle_at (Some l) = reply.Idle
