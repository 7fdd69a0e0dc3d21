use Rattle.nv_model.specs.Judge.{judge}
use Rattle.nv_model.proofs.InParts.{judge-in_parts}
use Rattle.nv_model.proofs.InTurn.{reads_in-settled}
use Rattle.nv_model.proofs.laws.readers.reads_in_a_memory_settle_its_verdict.Goals as goal

pub returns : goal.returns
returns c mapped limit blocks entry memory =
    reads_in-settled memory (judge mapped limit blocks entry) (judge-in_parts mapped limit blocks entry)
