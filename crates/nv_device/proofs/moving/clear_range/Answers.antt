use Rattle.std.proofs.Common.{◌≡◌, false, arith, sym}
use Rattle.nv_entry.specs.Range.{blocks_of, start_of}
use Rattle.nv_disk.specs.Flat.{flat, moved_of}
use Rattle.nv_disk.proofs.MoveLemmas.{cleared-none}
use Rattle.nv_device.proofs.moving.clear_range.Goals as goal

pub returns-else-count-gt0-clause-moved : goal.returns-else-count-gt0-clause-moved
returns-else-count-gt0-clause-moved c = λ memory differed.
    let none : blocks_of c.args.range ≡ 0 = (let count = c.from-count.ensures in let blocks = c.blocks-2.ensures in let few = c.if-count-gt0.false in omega arith) in
    sym (cleared-none false (moved_of (flat memory c.args.disk.now c.args.kept.now) differed) (start_of c.args.range) (blocks_of c.args.range) none)
