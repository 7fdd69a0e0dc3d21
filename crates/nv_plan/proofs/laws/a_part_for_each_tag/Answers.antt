use Rattle.nv_plan.proofs.laws.a_part_for_each_tag.Goals as goal
use Rattle.nv_plan.proofs.MadeShares.{made-tags, made-few}

pub returns-clause-tags : goal.returns-clause-tags
returns-clause-tags c p work is has = made-tags p work is has

pub returns-clause-most : goal.returns-clause-most
returns-clause-most c p is kept = made-few p is kept
