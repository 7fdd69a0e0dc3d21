use Rattle.nv_model.specs.Prp.{read_prp}
use Rattle.nv_model.specs.Reading.{Spells}
use Rattle.nv_model.proofs.AnyAnswers.{MayEndIn-has}
use Rattle.nv_model.proofs.Endings.{OfPieces}
use Rattle.nv_model.proofs.Spelled.{AreOfLen, read_prp-of_len}
use Rattle.nv_model.proofs.laws.endings.region_pages_have_the_transfers_length_whatever_answers.Goals as goal

pub returns : goal.returns
returns c mapped prp1 prp2 len pieces may =
    (MayEndIn-has (OfPieces (AreOfLen mapped len)) (read_prp mapped prp1 prp2 len) (Spells pieces) (read_prp-of_len mapped prp1 prp2 len) may).total
