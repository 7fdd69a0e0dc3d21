use Rattle.std.proofs.Common.{refl}
use Rattle.nv_model.specs.Memory.{byte_in}
use Rattle.nv_examples_host.proofs.ends.places.Goals as goal

pub returns-clause-of_one_in_the_ring : goal.returns-clause-of_one_in_the_ring
unfolding byte_in
returns-clause-of_one_in_the_ring c = refl

pub returns-clause-of_one_that_is_answered : goal.returns-clause-of_one_that_is_answered
unfolding byte_in
returns-clause-of_one_that_is_answered c = refl

pub returns-clause-of_one_that_waits : goal.returns-clause-of_one_that_waits
unfolding byte_in
returns-clause-of_one_that_waits c = refl

pub returns-clause-of_one_that_has_ended : goal.returns-clause-of_one_that_has_ended
unfolding byte_in
returns-clause-of_one_that_has_ended c = refl

pub returns-clause-of_a_free_tag : goal.returns-clause-of_a_free_tag
unfolding byte_in
returns-clause-of_a_free_tag c = refl

pub returns-clause-of_a_lane : goal.returns-clause-of_a_lane
unfolding byte_in
returns-clause-of_a_lane c = refl

pub returns-clause-its_head_stays : goal.returns-clause-its_head_stays
unfolding byte_in
returns-clause-its_head_stays c = refl

pub returns-clause-its_phase_stays : goal.returns-clause-its_phase_stays
unfolding byte_in
returns-clause-its_phase_stays c = refl

pub returns-clause-of_a_world : goal.returns-clause-of_a_world
unfolding byte_in
returns-clause-of_a_world c = refl

pub returns-clause-rings_stay : goal.returns-clause-rings_stay
unfolding byte_in
returns-clause-rings_stay c = refl

pub returns-clause-a_reply_stays : goal.returns-clause-a_reply_stays
unfolding byte_in
returns-clause-a_reply_stays c = refl
