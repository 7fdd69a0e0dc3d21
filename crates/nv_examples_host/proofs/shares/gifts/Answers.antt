use Rattle.std.proofs.Common.{refl}
use Rattle.nv_entry.specs.Layout.{bits}
use Rattle.nv_model.specs.Controller.{front, opening}
use Rattle.nv_world_model.specs.SetUp.{host_refusal_of}
use Rattle.nv_examples_host.proofs.shares.gifts.Goals as goal

pub returns-clause-to_its_guest : goal.returns-clause-to_its_guest
unfolding front bits opening host_refusal_of
returns-clause-to_its_guest c = refl

pub returns-clause-to_the_second : goal.returns-clause-to_the_second
unfolding front bits opening host_refusal_of
returns-clause-to_the_second c = refl

pub returns-clause-to_another : goal.returns-clause-to_another
unfolding front bits opening host_refusal_of
returns-clause-to_another c = refl

pub returns-clause-to_one_before_it : goal.returns-clause-to_one_before_it
unfolding front bits opening host_refusal_of
returns-clause-to_one_before_it c = refl

pub returns-clause-on_a_lane_before_it : goal.returns-clause-on_a_lane_before_it
unfolding front bits opening host_refusal_of
returns-clause-on_a_lane_before_it c = refl

pub returns-clause-on_another_lane : goal.returns-clause-on_another_lane
unfolding front bits opening host_refusal_of
returns-clause-on_another_lane c = refl

pub returns-clause-to_nobody : goal.returns-clause-to_nobody
unfolding front bits opening host_refusal_of
returns-clause-to_nobody c = refl

pub returns-clause-no_other_event : goal.returns-clause-no_other_event
unfolding front bits opening host_refusal_of
returns-clause-no_other_event c = refl
