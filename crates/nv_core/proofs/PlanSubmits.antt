-- A plan that was made of what stands, and the tag that it is for.
use Rattle.std.proofs.Common.{◌≡◌, ℕ, slice_get, Option, Some, None, refl, sym, subst}
use Rattle.nv_core.proofs.GroupWorlds.{IsTakenHere}
use Rattle.nv_core.proofs.MadeParts.{made-said}
use Rattle.nv_core.proofs.SubmitJobs.{outcome-is}
use Rattle.nv_core.specs.State.{State, world_of}
use Rattle.nv_core.specs.Submit.{IsCurrent, IsJobOf, IsOfTag}
use Rattle.nv_model.specs.Transcript.{Settled}
use Rattle.nv_plan.specs.Made.{IsJobsPlan, MadePlan, plan_made}
use Rattle.nv_plan.specs.declared.job.Job.{Job}
use Rattle.nv_world_model.specs.Geometry.{Geometry}
use Rattle.nv_world_model.specs.Plan.{plan_over}
use Rattle.nv_world_model.specs.World.{Ended, Flying, Free, Lane, Tag, Taken, tag_in, tag_of}

-- the tag of a job
pub record IsTagOf (s : State) (job : Job) : Type 0 where
  pub taken : IsTakenHere s.lanes job.lane job.tag
  pub is : IsJobOf job.lane job.tag taken.command taken.reads job

by-tag : (s : State) (job : Job) (l : Lane) (t : Option Tag) → slice_get s.lanes job.lane ≡ Some l → slice_get l.tags job.tag ≡ t → IsOfTag t job → IsTagOf s job
by-tag s job l None found there of = absurd of
by-tag s job l (Some Free) found there of = absurd of
by-tag s job l (Some (Taken command reads)) found there of =
    record { taken = record { at = l; command = command; reads = reads; found = found; there = there; led = of.0 }; is = of.1 }
by-tag s job l (Some (Flying command share at)) found there of = absurd of
by-tag s job l (Some (Ended command st share)) found there of = absurd of

by-lane : (s : State) (job : Job) (l : Option Lane) → slice_get s.lanes job.lane ≡ l → IsOfTag (tag_in l job.tag) job → IsTagOf s job
by-lane s job None found of = absurd of
by-lane s job (Some l) found of = by-tag s job l (slice_get l.tags job.tag) found refl of

module _ (geometry : Geometry) (s old : State) (p : MadePlan) (same : s ≡ old) (is : IsCurrent geometry (world_of old) p) where
  pub tag-of : IsTagOf s p.job
  tag-of =
      by-lane s p.job (slice_get s.lanes p.job.lane) refl
      (subst (λ (o : State). IsOfTag (tag_of (world_of o) p.job.lane p.job.tag) p.job) (sym same) is.of_tag)

  -- what its guest was given
  pub guest-of : slice_get geometry.guests tag-of.taken.command.guest ≡ Some p.given
  guest-of = subst (λ (n : ℕ). slice_get geometry.guests n ≡ Some p.given) tag-of.is.whose is.made_with

  -- what has come of the tag's command is the plan
  pub come-of : IsJobsPlan p → plan_over p.given tag-of.taken.command.entry tag-of.taken.reads ≡ Settled (plan_made p)
  come-of plan =
      outcome-is p.given p.given p.job.lane p.job.tag tag-of.taken.command tag-of.taken.reads p.job (Settled (plan_made p)) refl tag-of.is (made-said p plan)
