-- A plan as its type keeps it: it is the definition's value of its job and of what the guest was given (profile).
use Rattle.std.specs.Prelude.{◌≡◌, ℕ, false, List, Option, slice_get}
use Rattle.nv_model.specs.Transcript.{Outcome, Settled, Wanted}
use Rattle.nv_world_model.specs.Geometry.{Guest}
use Rattle.nv_world_model.specs.Plan.{Answer, Plan, plan_over}
use Rattle.nv_world_model.specs.Share.{Share, shares_of}
use Rattle.nv_plan.specs.Outline.{Outline, outlined}
use Rattle.nv_plan.specs.declared.job.Job.{Job}

-- its job, what the guest was given, and what it says
pub record MadePlan : Type 0 where
  pub job : Job
  pub given : Guest
  pub outline : Outline

-- what has come of a job
abbrev pub outcome_of : Guest → Job → Outcome Plan
outcome_of given job = plan_over given job.sqe job.reads

-- a plan says what the definition says of its job and of what its guest was given
pub record IsJobsPlan (p : MadePlan) : Type 0 where
  pub settled : outlined p.given.namespace p.job.sqe (outcome_of p.given p.job) ≡ Settled p.outline

-- the plan that has come of a job; a plan's type keeps that one has
abbrev pub plan_come : Outcome Plan → Plan
plan_come (Wanted addr len) = Answer (record { sct = 0; sc = 0; dnr = false })
plan_come (Settled plan) = plan

abbrev pub plan_made : MadePlan → Plan
plan_made p = plan_come (outcome_of p.given p.job)

-- the shares of a plan, one for each physical command
abbrev pub shares_made : MadePlan → List Share
shares_made p = shares_of p.given.namespace p.job.sqe (plan_made p)

-- one of them
abbrev pub share_made : (part : ℕ) → MadePlan → Option Share
share_made part p = slice_get (shares_made p) part
