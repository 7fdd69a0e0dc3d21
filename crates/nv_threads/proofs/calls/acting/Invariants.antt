use Rattle.std.proofs.Common.{◌≡◌, ℕ, drop, false, length, slice_get, Some}
use Rattle.nv_threads.specs.Finished.{acts_of}
use Rattle.nv_threads.proofs.calls.acting.Given as goal

abbrev pub invariant-loop-logged : goal.invariant-loop-logged
invariant-loop-logged l = record {
  all : length l.acting ≡ 256;
  none : (guest : ℕ) → slice_get l.acting guest ≡ Some false → acts_of guest l.log ≡ acts_of guest (drop l.logged-index l.log);
}
