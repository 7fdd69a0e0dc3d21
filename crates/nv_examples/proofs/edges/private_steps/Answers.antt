use Rattle.std.proofs.Common.{refl}
use Rattle.nv_world_model.specs.World.{opening_world}
use Rattle.nv_examples.proofs.edges.private_steps.Goals as goal

pub returns-clause-judged_by_its_guest : goal.returns-clause-judged_by_its_guest
unfolding opening_world
returns-clause-judged_by_its_guest c = refl

pub returns-clause-given_up_by_its_guest : goal.returns-clause-given_up_by_its_guest
unfolding opening_world
returns-clause-given_up_by_its_guest c = refl

pub returns-clause-judged_by_no_other : goal.returns-clause-judged_by_no_other
unfolding opening_world
returns-clause-judged_by_no_other c = refl

pub returns-clause-given_up_by_no_other : goal.returns-clause-given_up_by_no_other
unfolding opening_world
returns-clause-given_up_by_no_other c = refl
