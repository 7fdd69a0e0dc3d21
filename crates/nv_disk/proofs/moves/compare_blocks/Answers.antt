use Rattle.std.proofs.Common.{[], sym}
use Rattle.nv_disk.proofs.ReadLemmas.{compare-moved_all, raised-same}
use Rattle.nv_disk.proofs.moves.compare_blocks.Goals as goal

pub returns-then-fua-clause-moved : goal.returns-then-fua-clause-moved
returns-then-fua-clause-moved c = λ pieces at.
    compare-moved_all c.args.memory.now c.args.disk.now c.args.kept.now c.raise_marks.new.kept c.args.buffer.now c.args.start c.args.count c.args.fua c.blocks_differ-differs.result
    c.requires.blocks (λ k below. c.len-known.ensures.sized k [] below) c.requires.enough c.blocks_differ-differs.ensures
    (rw c.if-fua.true c.raise_marks.ensures.marks) pieces at

pub returns-else-fua-clause-moved : goal.returns-else-fua-clause-moved
returns-else-fua-clause-moved c = λ pieces at.
    compare-moved_all c.args.memory.now c.args.disk.now c.args.kept.now c.args.kept.now c.args.buffer.now c.args.start c.args.count c.args.fua c.blocks_differ-differs.result
    c.requires.blocks (λ k below. c.len-known.ensures.sized k [] below) c.requires.enough c.blocks_differ-differs.ensures
    (rw c.if-fua.false (sym (raised-same c.args.start c.args.count c.args.kept.now))) pieces at
