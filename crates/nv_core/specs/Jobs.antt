-- The job of a tag, as whoever plans its command is given it, and whose command a tag has (profile).
use Rattle.std.specs.Prelude.{ℕ, ◌==◌, if◌then◌else◌, List, Option, Some, None, option_map}
use Rattle.nv_core.specs.Tags.{command_at}
use Rattle.nv_core.specs.declared.holding.Holder.{Holder}
use Rattle.nv_model.specs.Transcript.{ReadDone}
use Rattle.nv_plan.specs.declared.job.Job.{Job}
use Rattle.nv_world_model.specs.World.{Command, Ended, Flying, Free, Tag, Taken, World, tag_of}

-- the job of a command that was taken, with what was read of its lists so far
abbrev pub job_with : (lane tag : ℕ) → Command → List ReadDone → Job
job_with lane tag command reads = record { lane = lane; tag = tag; guest = command.guest; sqe = command.entry; reads = reads }

-- it is that of the tag that its command goes by
abbrev pub job_in : (lane tag : ℕ) → Option Tag → Option Job
job_in lane tag None = None
job_in lane tag (Some Free) = None
job_in lane tag (Some (Taken command reads)) = if command.leader == tag then Some (job_with lane tag command reads) else None
job_in lane tag (Some (Flying command share at)) = None
job_in lane tag (Some (Ended command st share)) = None

abbrev pub job_of : World → (lane tag : ℕ) → Option Job
job_of w lane tag = job_in lane tag (tag_of w lane tag)

-- whose a command is, and the tag that it goes by
abbrev pub held_by : Command → Holder
held_by command = record { guest = command.guest; leader = command.leader }

abbrev pub holder_in : Option Tag → Option Holder
holder_in t = option_map held_by (command_at t)

abbrev pub holder_of : World → (lane tag : ℕ) → Option Holder
holder_of w lane tag = holder_in (tag_of w lane tag)
