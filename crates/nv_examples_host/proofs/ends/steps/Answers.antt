use Rattle.std.proofs.Common.{refl}
use Rattle.nv_model.specs.Memory.{byte_in}
use Rattle.nv_examples_host.proofs.ends.steps.Goals as goal

pub returns-clause-that_one_fails : goal.returns-clause-that_one_fails
unfolding byte_in
returns-clause-that_one_fails c = refl

pub returns-clause-another_does_not : goal.returns-clause-another_does_not
unfolding byte_in
returns-clause-another_does_not c = refl

pub returns-clause-nor_one_before_it : goal.returns-clause-nor_one_before_it
unfolding byte_in
returns-clause-nor_one_before_it c = refl

pub returns-clause-that_one_is_given_up : goal.returns-clause-that_one_is_given_up
unfolding byte_in
returns-clause-that_one_is_given_up c = refl

pub returns-clause-in_the_tag_that_it_goes_by : goal.returns-clause-in_the_tag_that_it_goes_by
unfolding byte_in
returns-clause-in_the_tag_that_it_goes_by c = refl

pub returns-clause-another_is_not : goal.returns-clause-another_is_not
unfolding byte_in
returns-clause-another_is_not c = refl

pub returns-clause-nor_one_that_goes_by_a_lower_tag : goal.returns-clause-nor_one_that_goes_by_a_lower_tag
unfolding byte_in
returns-clause-nor_one_that_goes_by_a_lower_tag c = refl

pub returns-clause-nor_one_in_flight : goal.returns-clause-nor_one_in_flight
unfolding byte_in
returns-clause-nor_one_in_flight c = refl

pub returns-clause-nor_one_that_has_ended : goal.returns-clause-nor_one_that_has_ended
unfolding byte_in
returns-clause-nor_one_that_has_ended c = refl

pub returns-clause-nor_a_free_one : goal.returns-clause-nor_a_free_one
unfolding byte_in
returns-clause-nor_a_free_one c = refl
