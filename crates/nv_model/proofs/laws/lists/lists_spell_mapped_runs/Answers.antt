use Rattle.std.specs.Prelude.{All}
use Rattle.nv_model.specs.Sgl.{read_sgl}
use Rattle.nv_model.specs.Prp.{read_prp}
use Rattle.nv_model.specs.Laws.{IsMappedPiece}
use Rattle.nv_model.proofs.Spelled.{AreOfLen, read_prp-of_len, read_sgl-mapped}
use Rattle.nv_model.proofs.Judged.{pieces-ends}
use Rattle.nv_model.proofs.laws.lists.lists_spell_mapped_runs.Goals as goal

pub returns-clause-scatter_gather : goal.returns-clause-scatter_gather
returns-clause-scatter_gather c mapped dest limit own memory pieces spells =
    pieces-ends (λ ps. All (IsMappedPiece mapped) ps) memory (read_sgl mapped dest limit own) pieces (read_sgl-mapped mapped dest limit own) spells

pub returns-clause-region_pages : goal.returns-clause-region_pages
returns-clause-region_pages c mapped prp1 prp2 len memory pieces spells =
    (pieces-ends (AreOfLen mapped len) memory (read_prp mapped prp1 prp2 len) pieces (read_prp-of_len mapped prp1 prp2 len) spells).mapped_each
