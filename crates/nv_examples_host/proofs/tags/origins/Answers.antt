use Rattle.std.proofs.Common.{refl}
use Rattle.nv_examples_host.proofs.tags.origins.Goals as goal

pub returns-clause-first_by_queue_1 : goal.returns-clause-first_by_queue_1
returns-clause-first_by_queue_1 c = refl

pub returns-clause-first_by_queue_2 : goal.returns-clause-first_by_queue_2
returns-clause-first_by_queue_2 c = refl

pub returns-clause-second_by_queue_1 : goal.returns-clause-second_by_queue_1
returns-clause-second_by_queue_1 c = refl

pub returns-clause-second_by_queue_2 : goal.returns-clause-second_by_queue_2
returns-clause-second_by_queue_2 c = refl

pub returns-clause-by_no_queue : goal.returns-clause-by_no_queue
returns-clause-by_no_queue c = refl

pub returns-clause-by_the_admin_queue : goal.returns-clause-by_the_admin_queue
returns-clause-by_the_admin_queue c = refl

pub returns-clause-of_a_free_tag : goal.returns-clause-of_a_free_tag
returns-clause-of_a_free_tag c = refl

pub returns-clause-of_one_in_flight : goal.returns-clause-of_one_in_flight
returns-clause-of_one_in_flight c = refl

pub returns-clause-of_one_that_waits : goal.returns-clause-of_one_that_waits
returns-clause-of_one_that_waits c = refl

pub returns-clause-of_one_that_has_ended : goal.returns-clause-of_one_that_has_ended
returns-clause-of_one_that_has_ended c = refl

pub returns-clause-of_no_command : goal.returns-clause-of_no_command
returns-clause-of_no_command c = refl

pub returns-clause-of_no_tag : goal.returns-clause-of_no_tag
returns-clause-of_no_tag c = refl
