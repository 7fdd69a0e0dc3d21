use Rattle.std.proofs.Common.{◌∙◌, ℕ, ap, sym, List}
use Rattle.nv_c.proofs.Rests.{all-popped, popped}
use Rattle.nv_c.specs.Work.{NoneWaitsAt}
use Rattle.nv_host.proofs.Marked.{job-not_taken}
use Rattle.nv_mediator.specs.Hosted.{hosted_world}
use Rattle.nv_tags.proofs.Rows.{is_among}
use Rattle.std.specs.Prelude.{slice_get}
use Rattle.nv_c.proofs.working.next_plan.Goals as goal

pub loop-tag-init : goal.loop-tag-init
loop-tag-init c = λ tag out job there whose.
    job-not_taken (slice_get (hosted_world c.args.mediator.now).lanes c.args.lane) c.args.lane tag
    (ap (λ (xs : List ℕ). is_among xs tag) (sym c.taken-taken.ensures) ∙ out) job there

pub loop-tag-preserved : goal.loop-tag-preserved
loop-tag-preserved c =
    popped (λ (k : ℕ). NoneWaitsAt c.args.guest c.args.lane k c.args.mediator.now) c.loop-tag.taken c.pop.new.self c.in-Some.tag c.in-Some.ensures.lowest
    c.loop-tag.invariant c.in-Nothing.ensures

pub returns : goal.returns
returns c =
    all-popped (λ (k : ℕ). NoneWaitsAt c.args.guest c.args.lane k c.args.mediator.now) c.pop.result c.loop-tag.taken c.pop.new.self c.in_default.is c.pop.ensures.lowest
    c.loop-tag.invariant
