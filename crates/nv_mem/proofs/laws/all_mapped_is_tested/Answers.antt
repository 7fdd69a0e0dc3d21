use Rattle.nv_mem.proofs.Counts.{Decides-all_mapped}
use Rattle.nv_mem.proofs.laws.all_mapped_is_tested.Goals as goal

pub returns : goal.returns
returns c = Decides-all_mapped
