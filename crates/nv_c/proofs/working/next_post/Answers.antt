use Rattle.std.proofs.Common.{◌≡◌, ◌∙◌, ℕ, ap, sym, List, false}
use Rattle.nv_c.proofs.Rests.{all-popped, popped}
use Rattle.nv_host.proofs.Marked.{post-not_ended}
use Rattle.nv_mediator.specs.Hosted.{hosted_world}
use Rattle.nv_tags.proofs.Rows.{is_among}
use Rattle.nv_world_model.specs.Due.{due}
use Rattle.nv_world_model.specs.declared.event.Event.TheVariants as event
use Rattle.nv_c.proofs.working.next_post.Goals as goal

pub loop-tag-init : goal.loop-tag-init
loop-tag-init c = λ tag out.
    post-not_ended c.args.mediator.now.geometry (hosted_world c.args.mediator.now) c.args.lane tag
    (ap (λ (xs : List ℕ). is_among xs tag) (sym c.ended-ended.ensures) ∙ out)

pub loop-tag-preserved : goal.loop-tag-preserved
loop-tag-preserved c =
    popped (λ (k : ℕ). due c.args.mediator.now.geometry (event.Post c.args.lane k) (hosted_world c.args.mediator.now) ≡ false)
    c.loop-tag.ended c.pop.new.self c.in-Some.tag c.in-Some.ensures.lowest c.loop-tag.invariant (sym c.due.ensures ∙ c.if-due.false)

pub returns : goal.returns
returns c =
    all-popped (λ (k : ℕ). due c.args.mediator.now.geometry (event.Post c.args.lane k) (hosted_world c.args.mediator.now) ≡ false)
    c.pop.result c.loop-tag.ended c.pop.new.self c.in_default.is c.pop.ensures.lowest c.loop-tag.invariant
