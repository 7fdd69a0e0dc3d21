use Rattle.nv_model.specs.Sgl.{read_sgl}
use Rattle.nv_model.specs.Prp.{read_prp}
use Rattle.nv_model.proofs.Asking.{asked-mapped, read_prp-asks, read_sgl-asks}
use Rattle.nv_model.proofs.laws.lists.lists_are_read_in_mapped_memory.Goals as goal

pub returns-clause-scatter_gather : goal.returns-clause-scatter_gather
returns-clause-scatter_gather c mapped dest limit own memory =
    asked-mapped mapped memory (read_sgl mapped dest limit own) (read_sgl-asks mapped dest limit own)

pub returns-clause-region_pages : goal.returns-clause-region_pages
returns-clause-region_pages c mapped prp1 prp2 len memory =
    asked-mapped mapped memory (read_prp mapped prp1 prp2 len) (read_prp-asks mapped prp1 prp2 len)
