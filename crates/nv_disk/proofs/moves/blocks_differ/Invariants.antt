use Rattle.std.proofs.Common.{◌≡◌, ◌+◌, ◌*◌, ◌≤◌, length, drop, take}
use Rattle.nv_model.specs.Memory.{byte_in, gathered}
use Rattle.nv_model.specs.Private.{differs}
use Rattle.nv_disk.specs.Buffer.{AreBelow}
use Rattle.nv_disk.specs.Flat.{joined}
use Rattle.nv_disk.proofs.moves.blocks_differ.Given as goal

abbrev pub invariant-loop-left : goal.invariant-loop-left
invariant-loop-left l = record {
  whole : differs (gathered (byte_in l.memory) (take (512 * l.left) l.buffer)) (joined (take l.left (drop l.at l.disk)))
      ≡ differs (gathered (byte_in l.memory) (take (512 * l.fn.count) l.fn.buffer)) (joined (take l.fn.count (drop l.fn.start l.disk)));
  below : AreBelow (length l.memory) l.buffer;
  enough : 512 * l.left ≤ length l.buffer;
  within : l.at + l.left ≤ length l.disk;
}

abbrev pub decreases-loop-left : goal.decreases-loop-left
decreases-loop-left l = l.left
