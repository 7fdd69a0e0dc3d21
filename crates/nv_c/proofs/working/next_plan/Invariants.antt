use Rattle.std.proofs.Common.{◌≡◌, ℕ, false, length}
use Rattle.nv_c.specs.Work.{NoneWaitsAt}
use Rattle.nv_tags.proofs.Rows.{is_among}
use Rattle.nv_c.proofs.working.next_plan.Given as goal

abbrev pub invariant-loop-tag : goal.invariant-loop-tag
invariant-loop-tag l = (tag : ℕ) → is_among l.taken tag ≡ false → NoneWaitsAt l.guest l.lane tag l.mediator

abbrev pub decreases-loop-tag : goal.decreases-loop-tag
decreases-loop-tag l = length l.taken
