use Rattle.std.proofs.Common.{length}
use Rattle.nv_zeroed.proofs.zeroed.Zeroed.+load.Given as goal

abbrev pub decreases-load : goal.decreases-load
decreases-load l = length l.out.now
