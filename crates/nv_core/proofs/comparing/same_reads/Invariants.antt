use Rattle.std.proofs.Common.{◌≡◌, length}
use Rattle.nv_core.proofs.comparing.same_reads.Given as goal

abbrev pub invariant-loop-read : goal.invariant-loop-read
invariant-loop-read l = record {
  to : l.left ≡ l.right → l.reads ≡ l.others;
  from : l.reads ≡ l.others → l.left ≡ l.right;
}

abbrev pub decreases-loop-read : goal.decreases-loop-read
decreases-loop-read l = length l.left
