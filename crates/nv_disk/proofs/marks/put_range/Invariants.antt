use Rattle.std.proofs.Common.{◌≡◌, ◌+◌, ◌-◌, length}
use Rattle.nv_disk.proofs.Ranged.{ranged}
use Rattle.nv_disk.proofs.marks.put_range.Given as goal

abbrev pub invariant-loop-at : goal.invariant-loop-at
invariant-loop-at l = record {
  put : ranged l.since l.at (l.start + l.count - l.at) l.number ≡ ranged l.fn.since l.start l.count l.number;
  size : length l.since ≡ length l.fn.since;
}
