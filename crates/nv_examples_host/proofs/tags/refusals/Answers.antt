use Rattle.std.proofs.Common.{refl}
use Rattle.nv_examples_host.proofs.tags.refusals.Goals as goal

pub returns-clause-one_that_waits : goal.returns-clause-one_that_waits
returns-clause-one_that_waits c = refl

pub returns-clause-by_another_tag : goal.returns-clause-by_another_tag
returns-clause-by_another_tag c = refl

pub returns-clause-by_a_lower_tag : goal.returns-clause-by_a_lower_tag
returns-clause-by_a_lower_tag c = refl

pub returns-clause-a_free_tag : goal.returns-clause-a_free_tag
returns-clause-a_free_tag c = refl

pub returns-clause-one_in_flight : goal.returns-clause-one_in_flight
returns-clause-one_in_flight c = refl

pub returns-clause-one_that_has_ended : goal.returns-clause-one_that_has_ended
returns-clause-one_that_has_ended c = refl

pub returns-clause-no_tag : goal.returns-clause-no_tag
returns-clause-no_tag c = refl

pub returns-clause-ended : goal.returns-clause-ended
returns-clause-ended c = refl

pub returns-clause-ended_by_another_tag : goal.returns-clause-ended_by_another_tag
returns-clause-ended_by_another_tag c = refl

pub returns-clause-that_waits_yet : goal.returns-clause-that_waits_yet
returns-clause-that_waits_yet c = refl

pub returns-clause-that_flies_yet : goal.returns-clause-that_flies_yet
returns-clause-that_flies_yet c = refl

pub returns-clause-that_is_free : goal.returns-clause-that_is_free
returns-clause-that_is_free c = refl

pub returns-clause-that_is_not_there : goal.returns-clause-that_is_not_there
returns-clause-that_is_not_there c = refl
