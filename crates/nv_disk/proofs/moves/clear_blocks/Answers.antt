use Rattle.nv_disk.proofs.ClearLemmas.{cleared-range, length-range}
use Rattle.std.proofs.Common.{replicate, arith}
use Rattle.nv_disk.proofs.moves.clear_blocks.Goals as goal

pub returns : goal.returns
returns c =
    let blocks = c.requires.blocks in
    let marks = c.requires.marks in
    record {
      moved = λ memory differed.
          cleared-range memory c.args.disk.now c.clear_range.new.self c.args.kept.now c.set_range.new.self c.args.start c.args.count c.args.mark differed
          c.requires.blocks c.requires.marks c.clear_range.ensures c.set_range.ensures;
      disk_size = length-range c.args.disk.now c.clear_range.new.self c.args.start c.args.count (replicate 512 0) c.requires.blocks c.clear_range.ensures;
      marks_size = length-range c.args.kept.now c.set_range.new.self c.args.start c.args.count c.args.mark (omega arith) c.set_range.ensures;
    }
