use Rattle.nv_model.proofs.InParts.{read_prp-in_parts, read_sgl-in_parts, read_source-in_parts}
use Rattle.nv_model.proofs.laws.parts.lists_are_asked_for_in_parts.Goals as goal

pub returns-clause-scatter_gather : goal.returns-clause-scatter_gather
returns-clause-scatter_gather c = read_sgl-in_parts

pub returns-clause-region_pages : goal.returns-clause-region_pages
returns-clause-region_pages c = read_prp-in_parts

pub returns-clause-source : goal.returns-clause-source
returns-clause-source c = read_source-in_parts
