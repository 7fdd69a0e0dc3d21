use Rattle.std.proofs.Common.{refl}
use Rattle.nv_examples_host.proofs.tags.held.Goals as goal

pub returns-clause-the_first : goal.returns-clause-the_first
returns-clause-the_first c = refl

pub returns-clause-the_second : goal.returns-clause-the_second
returns-clause-the_second c = refl

pub returns-clause-another : goal.returns-clause-another
returns-clause-another c = refl

pub returns-clause-free_ones : goal.returns-clause-free_ones
returns-clause-free_ones c = refl

pub returns-clause-no_lane : goal.returns-clause-no_lane
returns-clause-no_lane c = refl

pub returns-clause-each_of_the_first : goal.returns-clause-each_of_the_first
returns-clause-each_of_the_first c = refl
