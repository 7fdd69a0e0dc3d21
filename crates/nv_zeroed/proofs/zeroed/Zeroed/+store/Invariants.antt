use Rattle.std.proofs.Common.{length}
use Rattle.nv_zeroed.proofs.zeroed.Zeroed.+store.Given as goal

abbrev pub decreases-store : goal.decreases-store
decreases-store l = length l.bytes.now
