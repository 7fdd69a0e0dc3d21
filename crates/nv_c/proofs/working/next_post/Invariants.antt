use Rattle.std.proofs.Common.{◌≡◌, ℕ, false, length}
use Rattle.nv_mediator.specs.Hosted.{hosted_world}
use Rattle.nv_tags.proofs.Rows.{is_among}
use Rattle.nv_world_model.specs.Due.{due}
use Rattle.nv_world_model.specs.declared.event.Event.TheVariants as event
use Rattle.nv_c.proofs.working.next_post.Given as goal

abbrev pub invariant-loop-tag : goal.invariant-loop-tag
invariant-loop-tag l =
    (tag : ℕ) → is_among l.ended tag ≡ false → due l.mediator.geometry (event.Post l.lane tag) (hosted_world l.mediator) ≡ false

abbrev pub decreases-loop-tag : goal.decreases-loop-tag
decreases-loop-tag l = length l.ended
