use Rattle.nv_entry.specs.Layout.{bytes_of_dwords}
use Rattle.nv_core.proofs.physical_entry.write.Goals as goal

pub returns : goal.returns
unfolding bytes_of_dwords
returns c = c.write_u32_into.ensures
