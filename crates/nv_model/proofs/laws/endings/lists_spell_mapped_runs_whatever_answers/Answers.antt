use Rattle.std.proofs.Common.{All}
use Rattle.nv_model.specs.Laws.{IsMappedPiece}
use Rattle.nv_model.specs.Prp.{read_prp}
use Rattle.nv_model.specs.Reading.{Spells}
use Rattle.nv_model.specs.Sgl.{read_sgl}
use Rattle.nv_model.proofs.AnyAnswers.{MayEndIn-has}
use Rattle.nv_model.proofs.Endings.{OfPieces}
use Rattle.nv_model.proofs.Spelled.{AreOfLen, read_prp-of_len, read_sgl-mapped}
use Rattle.nv_model.proofs.laws.endings.lists_spell_mapped_runs_whatever_answers.Goals as goal

pub returns-clause-scatter_gather : goal.returns-clause-scatter_gather
returns-clause-scatter_gather c mapped dest limit own pieces may =
    MayEndIn-has (OfPieces (λ ps. All (IsMappedPiece mapped) ps)) (read_sgl mapped dest limit own) (Spells pieces) (read_sgl-mapped mapped dest limit own) may

pub returns-clause-region_pages : goal.returns-clause-region_pages
returns-clause-region_pages c mapped prp1 prp2 len pieces may =
    (MayEndIn-has (OfPieces (AreOfLen mapped len)) (read_prp mapped prp1 prp2 len) (Spells pieces) (read_prp-of_len mapped prp1 prp2 len) may).mapped_each
