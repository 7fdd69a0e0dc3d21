-- What comes of a job, and what a plan keeps (profile)
use Rattle.std.specs.Prelude.{◌≡◌}
use Rattle.nv_model.specs.Transcript.{Settled, Wanted}
use Rattle.nv_world_model.specs.Geometry.{Guest}
use Rattle.nv_world_model.specs.Plan.{Plan}
use Rattle.nv_plan.specs.Made.{outcome_of}
use Rattle.nv_plan.specs.Outline.{outline_of}
use Rattle.nv_plan.specs.declared.job.Job.{Job}
use Rattle.nv_plan.specs.declared.planned.Planned.{Planned}
use Rattle.nv_plan.specs.declared.planned.Planned.TheVariants as planned

-- what is answered for a job of a guest that was given this: the next want; or the plan, which has the job and says what the
-- definition says; or that there was no memory. The job is as it was.
abbrev pub IsPlanned : Planned → Job → Guest → Type 0
IsPlanned (planned.Need back addr len) job given = (back ≡ job) × (outcome_of given job ≡ Wanted addr len)
IsPlanned (planned.Plan made) job given =
    (plan : Plan) × ((outcome_of given job ≡ Settled plan)
    × (made ≡ record { job = job; given = given; outline = outline_of given.namespace job.sqe plan }))
IsPlanned (planned.NoMemory back) job given = back ≡ job
