-- What a List makes of the job of a command of a simulation that waits for its plan.
use Rattle.std.proofs.Common.{◌≡◌, ℕ, List, Some}
use Rattle.nv_core.specs.Jobs.{job_of}
use Rattle.nv_host.proofs.ListJobs.{job_read, step-job}
use Rattle.nv_mediator.specs.Hosted.{Hosted, IsMade, hosted_world}
use Rattle.nv_model.specs.declared.reply.Reply.TheVariants as reply
use Rattle.nv_plan.specs.declared.job.Job.{Job}
use Rattle.nv_world_model.specs.declared.event.Event.TheVariants as event

-- a List that replies with bytes adds them to what was read for the command
pub list-job : (old new : Hosted) (lane tag addr len : ℕ) (job : Job) (bytes : List ℕ) → job_of (hosted_world old) lane tag ≡ Some job
    → IsMade (event.List lane tag addr len) old (reply.Bytes bytes) new
    → job_of (hosted_world new) lane tag ≡ Some (job_read job addr bytes)
list-job old new lane tag addr len job bytes is made =
    step-job old.geometry (hosted_world old) lane tag addr len job bytes (hosted_world new) is made.after
