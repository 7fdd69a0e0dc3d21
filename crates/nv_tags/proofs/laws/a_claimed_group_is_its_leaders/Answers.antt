use Rattle.nv_tags.proofs.GroupLaws.{claimed-count, claimed-group, claimed-led}
use Rattle.nv_tags.proofs.laws.a_claimed_group_is_its_leaders.Goals as goal

pub returns-clause-count : goal.returns-clause-count
returns-clause-count c = claimed-count

pub returns-clause-group : goal.returns-clause-group
returns-clause-group c = claimed-group

pub returns-clause-led : goal.returns-clause-led
returns-clause-led c = claimed-led
