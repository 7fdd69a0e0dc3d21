use Rattle.std.proofs.Common.{length}
use Rattle.nv_plan.proofs.DraftSteps.{IsCatchingUp}
use Rattle.nv_plan.proofs.draft.Draft.catch_up.Given as goal

abbrev pub invariant-reads : goal.invariant-reads
invariant-reads g l = IsCatchingUp l.fn.self.given l.job l.self l.reads

abbrev pub decreases-reads : goal.decreases-reads
decreases-reads g l = length l.reads
