use Rattle.nv_model.proofs.InTurn.{reads_in-settled}
use Rattle.nv_model.proofs.laws.readers.reads_in_a_memory_settle_its_value.Goals as goal

pub returns : goal.returns
returns g c = reads_in-settled
