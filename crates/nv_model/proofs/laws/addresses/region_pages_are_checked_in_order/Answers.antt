use Rattle.nv_model.proofs.PrpDecided.{read_prp-faulty, read_prp-spells}
use Rattle.nv_model.proofs.laws.addresses.region_pages_are_checked_in_order.Goals as goal

pub returns-clause-faulty : goal.returns-clause-faulty
returns-clause-faulty c = read_prp-faulty

pub returns-clause-spells : goal.returns-clause-spells
returns-clause-spells c = read_prp-spells
