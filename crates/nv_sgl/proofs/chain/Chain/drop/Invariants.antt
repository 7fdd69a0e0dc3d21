use Rattle.std.proofs.Common.{length}
use Rattle.nv_sgl.proofs.chain.Chain.drop.Given as goal

abbrev pub decreases-loop-older : goal.decreases-loop-older
decreases-loop-older g l = length l.self
