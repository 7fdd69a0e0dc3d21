use Rattle.std.proofs.Common.{◌≡◌, replicate}
use Rattle.nv_zeroed.proofs.zeroed.Zeroed.new.Given as goal

abbrev pub invariant-loop : goal.invariant-loop
invariant-loop l = l.chunks.items ≡ replicate l.counter (replicate 262144 0)
