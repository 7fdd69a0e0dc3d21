use Rattle.nv_model.proofs.PrpAddressed.{read_prp-at}
use Rattle.nv_model.proofs.laws.addresses.region_pages_name_each_byte.Goals as goal

pub returns : goal.returns
returns c mapped memory prp1 prp2 len pieces i spells below =
    read_prp-at mapped memory prp1 prp2 len pieces i spells below
