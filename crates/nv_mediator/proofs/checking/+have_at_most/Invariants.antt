use Rattle.std.proofs.Common.{length}
use Rattle.nv_mediator.proofs.checking.+have_at_most.Given as goal

-- fewer extents are left
abbrev pub decreases-have_at_most : goal.decreases-have_at_most
decreases-have_at_most l = length l.extents.now
