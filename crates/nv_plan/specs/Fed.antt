-- A plan that is fed: what it is, and what it wants next (profile).
use Rattle.std.specs.Prelude.{◌≡◌, [], ◌∷◌, ◌++◌}
use Rattle.nv_model.specs.Transcript.{ReadDone, Settled, Wanted}
use Rattle.nv_world_model.specs.Geometry.{Guest}
use Rattle.nv_world_model.specs.Plan.{Plan}
use Rattle.nv_plan.specs.Made.{outcome_of}
use Rattle.nv_plan.specs.declared.job.Job.{Job}
use Rattle.nv_plan.specs.declared.next.Next.{Next}
use Rattle.nv_plan.specs.declared.next.Next.TheVariants as next

-- a plan under way: its job, with what was read so far, and what the guest was given
pub record UnderWay : Type 0 where
  pub job : Job
  pub given : Guest

-- what its job wants, or that a plan has come of it
abbrev pub IsNext : Next → UnderWay → Type 0
IsNext (next.Read addr len) p = outcome_of p.given p.job ≡ Wanted addr len
IsNext next.Done p = (plan : Plan) × (outcome_of p.given p.job ≡ Settled plan)

-- with one more read
abbrev pub with_read : UnderWay → ReadDone → UnderWay
with_read p read = record p { job = record p.job { reads = p.job.reads ++ read ∷ [] } }
