use Rattle.nv_model.proofs.Judged.{IsMappedPlace-pieces, verdict-sound}
use Rattle.nv_model.proofs.laws.verdicts.buffer_is_mapped.Goals as goal

pub returns-clause-pieces : goal.returns-clause-pieces
returns-clause-pieces c shape memory entry work goes =
    (verdict-sound shape.mapped shape.limit shape.blocks entry memory work goes).mapped_each

pub returns-clause-places : goal.returns-clause-places
returns-clause-places c shape memory entry work goes =
    IsMappedPlace-pieces shape.mapped work.pieces (verdict-sound shape.mapped shape.limit shape.blocks entry memory work goes).mapped_each
