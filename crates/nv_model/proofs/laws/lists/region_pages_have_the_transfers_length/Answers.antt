use Rattle.nv_model.specs.Prp.{read_prp}
use Rattle.nv_model.proofs.Spelled.{AreOfLen, read_prp-of_len}
use Rattle.nv_model.proofs.Judged.{pieces-ends}
use Rattle.nv_model.proofs.laws.lists.region_pages_have_the_transfers_length.Goals as goal

pub returns : goal.returns
returns c mapped prp1 prp2 len memory pieces spells =
    (pieces-ends (AreOfLen mapped len) memory (read_prp mapped prp1 prp2 len) pieces (read_prp-of_len mapped prp1 prp2 len) spells).total
