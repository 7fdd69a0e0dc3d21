use Rattle.std.proofs.Common.{◌≡◌, ◌+◌, ◌-◌, length, replicate}
use Rattle.nv_disk.proofs.Ranged.{ranged}
use Rattle.nv_disk.proofs.blocks.Blocks.zero_range.Given as goal

abbrev pub invariant-loop-at : goal.invariant-loop-at
invariant-loop-at l = record {
  zeros : ranged l.self l.at (l.start + l.count - l.at) (replicate 512 0) ≡ ranged l.fn.self l.start l.count (replicate 512 0);
  size : length l.self ≡ length l.fn.self;
}
