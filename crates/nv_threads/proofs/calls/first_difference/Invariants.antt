use Rattle.std.proofs.Common.{◌≡◌, ◌≤◌, ◌++◌, drop, length, take}
use Rattle.nv_threads.specs.Finished.{acts_of}
use Rattle.nv_threads.proofs.calls.first_difference.Given as goal

abbrev pub invariant-loop-logged : goal.invariant-loop-logged
invariant-loop-logged l = record {
  within : l.met ≤ length l.told;
  passed : l.met ≤ l.logged-index;
  alike : acts_of l.guest l.log ≡ take l.met l.told ++ acts_of l.guest (drop l.logged-index l.log);
}
