use Rattle.std.proofs.Common.{List, Bool, length, ap, set, ◌∙◌, arith}
use Rattle.nv_disk.proofs.MarkLemmas.{length-marks, mark-given}
use Rattle.nv_disk.proofs.marks.Marks.set.Goals as goal

pub index_mut-requires : goal.index_mut-requires
index_mut-requires c =
    let same = length-marks c.self.inside.flushes c.self.inside.since.items in
    let seen = ap (λ (ms : List Bool). length ms) c.self.view_is in
    omega arith

pub returns : goal.returns
returns c =
    mark-given c.self.inside.flushes c.self.inside.since.items c.args.block c.first_flush.result c.args.mark c.first_flush.ensures.mark
    ∙ ap (λ (ms : List Bool). set ms c.args.block c.args.mark) c.self.view_is
