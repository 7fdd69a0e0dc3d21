use Rattle.std.proofs.Common.{◌≡◌, ℕ, ◌+◌, ◌-◌, ◌<◌, ◌≤◌, true, slice_index}
use Rattle.nv_disk.specs.Stored.{is_blank}
use Rattle.nv_disk.proofs.blocks.count_blank.Given as goal

abbrev pub invariant-loop-count : goal.invariant-loop-count
invariant-loop-count l = record {
  some : 0 < l.count;
  most : l.count ≤ l.most;
  blank : (i : ℕ) → i < l.count → is_blank (slice_index l.entries (l.block + i)) ≡ true;
}

abbrev pub decreases-loop-count : goal.decreases-loop-count
decreases-loop-count l = l.most - l.count
