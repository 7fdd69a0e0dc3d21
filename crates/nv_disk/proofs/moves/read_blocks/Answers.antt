use Rattle.std.proofs.Common.{[], sym}
use Rattle.nv_disk.proofs.ReadLemmas.{raised-same, read-moved_all}
use Rattle.nv_disk.proofs.moves.read_blocks.Goals as goal

pub returns-then-fua-clause-moved : goal.returns-then-fua-clause-moved
returns-then-fua-clause-moved c = λ pieces at.
    read-moved_all c.args.memory.now c.put_blocks.new.memory c.args.disk.now c.args.kept.now c.raise_marks.new.kept c.args.buffer.now c.args.start c.args.count c.args.fua
    c.requires.blocks (λ k below. c.len-known.ensures.sized k [] below) c.requires.enough c.put_blocks.ensures.memory
    (rw c.if-fua.true c.raise_marks.ensures.marks) pieces at

pub returns-else-fua-clause-moved : goal.returns-else-fua-clause-moved
returns-else-fua-clause-moved c = λ pieces at.
    read-moved_all c.args.memory.now c.put_blocks.new.memory c.args.disk.now c.args.kept.now c.args.kept.now c.args.buffer.now c.args.start c.args.count c.args.fua
    c.requires.blocks (λ k below. c.len-known.ensures.sized k [] below) c.requires.enough c.put_blocks.ensures.memory
    (rw c.if-fua.false (sym (raised-same c.args.start c.args.count c.args.kept.now))) pieces at
