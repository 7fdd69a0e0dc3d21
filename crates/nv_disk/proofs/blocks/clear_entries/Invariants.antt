use Rattle.std.proofs.Common.{◌≡◌, ◌+◌, ◌-◌, ℕ, List, length, replicate}
use Rattle.nv_disk.proofs.Ranged.{ranged}
use Rattle.nv_disk.specs.Stored.{blocks_of, places_of}
use Rattle.nv_disk.proofs.blocks.clear_entries.Given as goal

abbrev pub invariant-loop-at : goal.invariant-loop-at
invariant-loop-at l = record {
  shown : (stored : List (List ℕ)) →
      ranged (blocks_of stored l.entries) l.at (l.start + l.count - l.at) (replicate 512 0)
      ≡ ranged (blocks_of stored l.fn.entries) l.start l.count (replicate 512 0);
  places : places_of l.entries ≡ places_of l.fn.entries;
  size : length l.entries ≡ length l.fn.entries;
}
