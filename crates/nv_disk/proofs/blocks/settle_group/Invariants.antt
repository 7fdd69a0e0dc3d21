use Rattle.std.proofs.Common.{◌≡◌, length}
use Rattle.std.specs.Vec.{vec_capacity}
use Rattle.nv_disk.specs.Stored.{IsStored, blocks_of, places_of}
use Rattle.nv_disk.proofs.blocks.settle_group.Given as goal

abbrev pub invariant-loop-at : goal.invariant-loop-at
invariant-loop-at l = record {
  stored : IsStored (vec_capacity l.stored) (places_of l.entries.items) l.stored.items;
  same : blocks_of l.stored.items l.entries.items ≡ blocks_of l.fn.stored.items l.fn.entries.items;
  count : length l.entries.items ≡ length l.fn.entries.items;
}
