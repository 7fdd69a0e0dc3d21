use Rattle.std.proofs.Common.{◌≡◌, ℕ, ◌<◌, length}
use Rattle.nv_threads.specs.Finished.{IsTold}
use Rattle.nv_threads.proofs.finishing.lowest.Given as goal

abbrev pub invariant-loop-number : goal.invariant-loop-number
invariant-loop-number l = record {
  all : length l.acts-items ≡ 256;
  below : (lower : ℕ) → lower < l.number → IsTold l.log l.ports lower;
}
