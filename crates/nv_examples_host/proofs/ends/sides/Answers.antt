use Rattle.std.proofs.Common.{refl}
use Rattle.nv_model.specs.Memory.{byte_in}
use Rattle.nv_examples_host.proofs.ends.sides.Goals as goal

pub returns-clause-tails : goal.returns-clause-tails
unfolding byte_in
returns-clause-tails c = refl

pub returns-clause-written : goal.returns-clause-written
unfolding byte_in
returns-clause-written c = refl

pub returns-clause-a_tail_too_few : goal.returns-clause-a_tail_too_few
unfolding byte_in
returns-clause-a_tail_too_few c = refl

pub returns-clause-a_tail_too_many : goal.returns-clause-a_tail_too_many
unfolding byte_in
returns-clause-a_tail_too_many c = refl

pub returns-clause-the_drives_head_stays : goal.returns-clause-the_drives_head_stays
unfolding byte_in
returns-clause-the_drives_head_stays c = refl

pub returns-clause-another_tail : goal.returns-clause-another_tail
unfolding byte_in
returns-clause-another_tail c = refl

pub returns-clause-another_byte : goal.returns-clause-another_byte
unfolding byte_in
returns-clause-another_byte c = refl

pub returns-clause-another_lane : goal.returns-clause-another_lane
unfolding byte_in
returns-clause-another_lane c = refl

pub returns-clause-other_controllers : goal.returns-clause-other_controllers
unfolding byte_in
returns-clause-other_controllers c = refl

pub returns-clause-the_same_block : goal.returns-clause-the_same_block
unfolding byte_in
returns-clause-the_same_block c = refl

pub returns-clause-at_the_start : goal.returns-clause-at_the_start
unfolding byte_in
returns-clause-at_the_start c = refl

pub returns-clause-controllers_at_the_start : goal.returns-clause-controllers_at_the_start
unfolding byte_in
returns-clause-controllers_at_the_start c = refl

pub returns-clause-lanes_at_the_start : goal.returns-clause-lanes_at_the_start
unfolding byte_in
returns-clause-lanes_at_the_start c = refl
