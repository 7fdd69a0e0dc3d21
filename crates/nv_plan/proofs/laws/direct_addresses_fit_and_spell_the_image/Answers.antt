use Rattle.nv_plan.proofs.PartLaws.{bounced-unfit, direct-addresses, direct-fit, direct-spelled}
use Rattle.nv_plan.proofs.laws.direct_addresses_fit_and_spell_the_image.Goals as goal

pub returns-clause-fit : goal.returns-clause-fit
returns-clause-fit c = direct-fit

pub returns-clause-bounced : goal.returns-clause-bounced
returns-clause-bounced c = bounced-unfit

pub returns-clause-addresses : goal.returns-clause-addresses
returns-clause-addresses c = direct-addresses

pub returns-clause-spelled : goal.returns-clause-spelled
returns-clause-spelled c = direct-spelled
