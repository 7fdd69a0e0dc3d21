use Rattle.std.proofs.Common.{refl}
use Rattle.nv_examples_host.proofs.tags.points.Goals as goal

pub returns-clause-taken : goal.returns-clause-taken
returns-clause-taken c = refl

pub returns-clause-flying : goal.returns-clause-flying
returns-clause-flying c = refl

pub returns-clause-ended : goal.returns-clause-ended
returns-clause-ended c = refl

pub returns-clause-none_of_an_idle_lane : goal.returns-clause-none_of_an_idle_lane
returns-clause-none_of_an_idle_lane c = refl

pub returns-clause-none_without_a_lane : goal.returns-clause-none_without_a_lane
returns-clause-none_without_a_lane c = refl

pub returns-clause-of_each_tag : goal.returns-clause-of_each_tag
returns-clause-of_each_tag c = refl

pub returns-clause-that_ended : goal.returns-clause-that_ended
returns-clause-that_ended c = refl

pub returns-clause-no_tag_flies : goal.returns-clause-no_tag_flies
returns-clause-no_tag_flies c = refl
