use Rattle.std.proofs.Common.{◌≡◌, ◌+◌, sum, take}
use Rattle.nv_threads.proofs.sums.without_shares.Given as goal

abbrev pub invariant-loop-share : goal.invariant-loop-share
invariant-loop-share l = l.left + sum (take l.share-index l.shares) ≡ l.events
