use Rattle.nv_model.specs.Judge.{judge}
use Rattle.nv_model.proofs.Asking.{asked-mapped, judge-asks}
use Rattle.nv_model.proofs.laws.unseen.judging_reads_mapped_memory.Goals as goal

pub returns : goal.returns
returns c shape memory entry =
    asked-mapped shape.mapped memory (judge shape.mapped shape.limit shape.blocks entry) (judge-asks shape.mapped shape.limit shape.blocks entry)
