use Rattle.std.proofs.Common.{refl}
use Rattle.nv_model.specs.Memory.{byte_in}
use Rattle.nv_examples_host.proofs.ends.closed.Goals as goal

pub returns-clause-handed_on : goal.returns-clause-handed_on
unfolding byte_in
returns-clause-handed_on c = refl

pub returns-clause-handed_on_in_the_ring : goal.returns-clause-handed_on_in_the_ring
unfolding byte_in
returns-clause-handed_on_in_the_ring c = refl

pub returns-clause-waiting : goal.returns-clause-waiting
unfolding byte_in
returns-clause-waiting c = refl

pub returns-clause-waiting_further_on : goal.returns-clause-waiting_further_on
unfolding byte_in
returns-clause-waiting_further_on c = refl

pub returns-clause-waiting_before_it : goal.returns-clause-waiting_before_it
unfolding byte_in
returns-clause-waiting_before_it c = refl

pub returns-clause-ended : goal.returns-clause-ended
unfolding byte_in
returns-clause-ended c = refl

pub returns-clause-ended_without_a_part : goal.returns-clause-ended_without_a_part
unfolding byte_in
returns-clause-ended_without_a_part c = refl

pub returns-clause-free : goal.returns-clause-free
unfolding byte_in
returns-clause-free c = refl

pub returns-clause-a_failure_of_one_that_waits : goal.returns-clause-a_failure_of_one_that_waits
unfolding byte_in
returns-clause-a_failure_of_one_that_waits c = refl

pub returns-clause-giving_up_one_in_flight : goal.returns-clause-giving_up_one_in_flight
unfolding byte_in
returns-clause-giving_up_one_in_flight c = refl
