use Rattle.nv_model.specs.Judge.{judge}
use Rattle.nv_model.proofs.Asking.{judge-asks, still_wanted-mapped}
use Rattle.nv_model.proofs.laws.unseen.judging_wants_mapped_memory.Goals as goal

pub returns : goal.returns
returns c shape memory entry =
    still_wanted-mapped shape.mapped memory (judge shape.mapped shape.limit shape.blocks entry) (judge-asks shape.mapped shape.limit shape.blocks entry)
