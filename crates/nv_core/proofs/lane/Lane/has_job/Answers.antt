use Rattle.std.proofs.Common.{◌≡◌, ◌∙◌, Bool, true, false, List, refl, sym, ap}
use Rattle.std.specs.Prelude.{IsTrue}
use Rattle.nv_core.specs.Submit.{IsJobOf}
use Rattle.nv_model.specs.Transcript.{ReadDone}
use Rattle.nv_plan.specs.declared.job.Job.{Job}
use Rattle.nv_tags.specs.Tags.{command_of}
use Rattle.nv_tags.specs.declared.claim.Claim.{Claim}
use Rattle.nv_world_model.specs.World.{Command}
use Rattle.nv_core.proofs.lane.Lane.has_job.Goals as goal

-- what two comparisons tell of a job
has-is : (claim : Claim) (command : Command) (kept other reads : List ReadDone) (job : Job) (b : Bool) → command_of claim command.leader ≡ command → kept ≡ reads → other ≡ job.reads
    → (job.guest ≡ claim.guest) × (job.sqe ≡ claim.entry) → (IsTrue b → kept ≡ other) × (kept ≡ other → IsTrue b)
    → (IsTrue b → IsJobOf job.lane job.tag command reads job) × (IsJobOf job.lane job.tag command reads job → IsTrue b)
has-is claim command kept other reads job b same read theirs is compared = (
  λ so. record {
    on = refl;
    under = refl;
    whose = is.0 ∙ ap (λ (d : Command). d.guest) same;
    entry = is.1 ∙ ap (λ (d : Command). d.entry) same;
    read = sym theirs ∙ sym (compared.0 so) ∙ read;
  },
  λ of. compared.1 (read ∙ sym of.read ∙ sym theirs),
)

-- or one that differs
has-not : (claim : Claim) (command : Command) (reads : List ReadDone) (job : Job) (b : Bool) → command_of claim command.leader ≡ command → b ≡ false
    → ((job.guest ≡ claim.guest) × (job.sqe ≡ claim.entry) → IsTrue b)
    → (IsTrue b → IsJobOf job.lane job.tag command reads job) × (IsJobOf job.lane job.tag command reads job → IsTrue b)
has-not claim command reads job b same none other =
    (λ so. absurd (false-true (sym none ∙ so)), λ of. other (of.whose ∙ ap (λ (d : Command). d.guest) (sym same), of.entry ∙ ap (λ (d : Command). d.entry) (sym same)))
  where
    false-true : false ≡ true → ⊥
    false-true e = cc

pub returns-then-is_claimed : goal.returns-then-is_claimed
returns-then-is_claimed c = λ command reads there.
    has-is c.claimed.result.now command c.reads-then-is_claimed.result.now c.reads-then-is_claimed-2.result.now reads c.args.job.now c.same_reads.result
    (c.claimed.ensures command reads there) (c.reads-then-is_claimed.ensures ∙ c.reads.ensures command reads there) c.reads-then-is_claimed-2.ensures
    (c.is_claimed.ensures.0 c.if-is_claimed.true) c.same_reads.ensures

pub returns-else-is_claimed : goal.returns-else-is_claimed
returns-else-is_claimed c = λ command reads there.
    has-not c.claimed.result.now command reads c.args.job.now c.is_claimed.result (c.claimed.ensures command reads there) c.if-is_claimed.false c.is_claimed.ensures.1
