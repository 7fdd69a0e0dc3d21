use Rattle.std.proofs.Common.{true}
use Rattle.nv_disk.proofs.ClearLemmas.{length-range, raised-range}
use Rattle.nv_disk.proofs.moves.raise_marks.Goals as goal

pub returns-clause-marks : goal.returns-clause-marks
returns-clause-marks c = raised-range c.args.kept.now c.set_range.new.self c.args.start c.args.count c.requires c.set_range.ensures

pub returns-clause-marks_size : goal.returns-clause-marks_size
returns-clause-marks_size c = length-range c.args.kept.now c.set_range.new.self c.args.start c.args.count true c.requires c.set_range.ensures
