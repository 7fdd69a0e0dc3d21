use Rattle.nv_model.proofs.Judged.{verdict-sound}
use Rattle.nv_model.proofs.laws.verdicts.buffer_has_the_transfers_length.Goals as goal

pub returns : goal.returns
returns c shape memory entry work goes =
    (verdict-sound shape.mapped shape.limit shape.blocks entry memory work goes).total
