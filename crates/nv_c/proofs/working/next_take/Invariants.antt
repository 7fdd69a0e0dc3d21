use Rattle.std.proofs.Common.{◌≡◌, ℕ, ◌<◌, ◌≤◌, false}
use Rattle.nv_mediator.specs.Hosted.{hosted_world}
use Rattle.nv_world_model.specs.Due.{due}
use Rattle.nv_world_model.specs.declared.event.Event.TheVariants as event
use Rattle.nv_c.proofs.working.next_take.Given as goal

abbrev pub invariant-loop-queue : goal.invariant-loop-queue
invariant-loop-queue l =
    (queue : ℕ) → 1 ≤ queue → queue < l.queue → due l.mediator.geometry (event.Take l.guest queue l.lane) (hosted_world l.mediator) ≡ false
