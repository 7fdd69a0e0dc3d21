use Rattle.std.proofs.Common.{◌||◌, Bool, ap, ◌∙◌, sym}
use Rattle.nv_model.specs.Private.{marked}
use Rattle.nv_disk.specs.Marks.{mark_of}
use Rattle.nv_disk.proofs.MoveLemmas.{marks-raised, marks-same}
use Rattle.nv_disk.proofs.moves.raise_mark.Goals as goal

pub returns-then-fua-clause-marks : goal.returns-then-fua-clause-marks
returns-then-fua-clause-marks c =
    ap mark_of c.set.ensures
    ∙ marks-raised c.args.kept.now c.args.lba c.requires
    ∙ ap (λ (b : Bool). marked (mark_of c.args.kept.now) c.args.lba (mark_of c.args.kept.now c.args.lba || b)) (sym c.if-fua.true)

pub returns-else-fua-clause-marks : goal.returns-else-fua-clause-marks
returns-else-fua-clause-marks c =
    marks-same c.args.kept.now c.args.lba
    ∙ ap (λ (b : Bool). marked (mark_of c.args.kept.now) c.args.lba (mark_of c.args.kept.now c.args.lba || b)) (sym c.if-fua.false)
