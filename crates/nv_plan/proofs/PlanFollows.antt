-- A plan follows from its job.
use Rattle.std.proofs.Common.{◌≡◌, ℕ, List, [], ◌++◌, refl, sym, ap, ◌∙◌}
use Rattle.nv_model.specs.Judge.{Verdict, judge}
use Rattle.nv_model.specs.Transcript.{Outcome as Come, ReadDone, Settled as Ended, Wanted as Asked, in_transcript}
use Rattle.nv_model.proofs.InTurn.{in_transcript-settled}
use Rattle.nv_ns.specs.Extents.{blocks_in}
use Rattle.nv_world_model.specs.Geometry.{Guest, regions_of, shape_of}
use Rattle.nv_world_model.specs.Plan.{plan_over, planned}
use Rattle.nv_plan.specs.Made.{IsJobsPlan, MadePlan}
use Rattle.nv_plan.specs.Outline.{Outline, outlined}

-- two plans of one command, what was read and what was given say the same
pub IsJobsPlan-same : (p q : MadePlan) → IsJobsPlan p → IsJobsPlan q → p.job.sqe ≡ q.job.sqe → p.job.reads ≡ q.job.reads
    → p.given ≡ q.given → p.outline ≡ q.outline
IsJobsPlan-same p q is other sqe reads given =
    ended (sym is.settled
    ∙ ap (λ (g : Guest). outlined g.namespace p.job.sqe (plan_over g p.job.sqe p.job.reads)) given
    ∙ ap (λ (e : List ℕ). outlined q.given.namespace e (plan_over q.given e p.job.reads)) sqe
    ∙ ap (λ (rs : List ReadDone). outlined q.given.namespace q.job.sqe (plan_over q.given q.job.sqe rs)) reads
    ∙ other.settled)
  where
    ended : {a b : Outline} → ◌≡◌ {A = Come Outline} (Ended a) (Ended b) → a ≡ b
    ended e = (cc)

-- what is read then changes nothing
outlined-further : (given : Guest) (entry : List ℕ) (reads more : List ReadDone) (outline : Outline)
    → outlined given.namespace entry (plan_over given entry reads) ≡ Ended outline
    → outlined given.namespace entry (plan_over given entry (reads ++ more)) ≡ Ended outline
unfolding plan_over
outlined-further given entry reads more outline settled =
    by_outcome (in_transcript (judge (shape_of given).mapped given.limit (blocks_in given.namespace) entry) [] reads) refl settled
  where
    by_outcome : (o : Come Verdict)
        → in_transcript (judge (shape_of given).mapped given.limit (blocks_in given.namespace) entry) [] reads ≡ o
        → outlined given.namespace entry (planned (regions_of given) o) ≡ Ended outline
        → outlined given.namespace entry (planned (regions_of given) (in_transcript (judge (shape_of given).mapped given.limit (blocks_in given.namespace) entry) [] (reads ++ more)))
        ≡ Ended outline
    by_outcome (Asked addr len) came e = (cc)
    by_outcome (Ended verdict) came e =
        ap (λ (o : Come Verdict). outlined given.namespace entry (planned (regions_of given) o))
        (in_transcript-settled (judge (shape_of given).mapped given.limit (blocks_in given.namespace) entry) reads more verdict came)
        ∙ e

pub IsJobsPlan-further : (p q : MadePlan) (more : List ReadDone) → IsJobsPlan p → IsJobsPlan q → p.job.sqe ≡ q.job.sqe
    → p.job.reads ++ more ≡ q.job.reads → p.given ≡ q.given → p.outline ≡ q.outline
IsJobsPlan-further p q more is other sqe reads given =
    IsJobsPlan-same (record p { job = record p.job { reads = p.job.reads ++ more } }) q
    (record { settled = outlined-further p.given p.job.sqe p.job.reads more p.outline is.settled }) other sqe reads given
