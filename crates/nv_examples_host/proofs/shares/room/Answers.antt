use Rattle.std.proofs.Common.{refl}
use Rattle.nv_entry.specs.Layout.{bits}
use Rattle.nv_model.specs.Controller.{front, opening}
use Rattle.nv_world_model.specs.SetUp.{host_refusal_of}
use Rattle.nv_examples_host.proofs.shares.room.Goals as goal

pub returns-clause-as_many : goal.returns-clause-as_many
unfolding front bits opening host_refusal_of
returns-clause-as_many c = refl

pub returns-clause-one_more : goal.returns-clause-one_more
unfolding front bits opening host_refusal_of
returns-clause-one_more c = refl

pub returns-clause-none_yet : goal.returns-clause-none_yet
unfolding front bits opening host_refusal_of
returns-clause-none_yet c = refl

pub returns-clause-nobodys : goal.returns-clause-nobodys
unfolding front bits opening host_refusal_of
returns-clause-nobodys c = refl

pub returns-clause-of_the_first : goal.returns-clause-of_the_first
unfolding front bits opening host_refusal_of
returns-clause-of_the_first c = refl

pub returns-clause-too_little : goal.returns-clause-too_little
unfolding front bits opening host_refusal_of
returns-clause-too_little c = refl

pub returns-clause-of_the_second : goal.returns-clause-of_the_second
unfolding front bits opening host_refusal_of
returns-clause-of_the_second c = refl

pub returns-clause-too_little_of_the_second : goal.returns-clause-too_little_of_the_second
unfolding front bits opening host_refusal_of
returns-clause-too_little_of_the_second c = refl

pub returns-clause-on_the_second_lane : goal.returns-clause-on_the_second_lane
unfolding front bits opening host_refusal_of
returns-clause-on_the_second_lane c = refl

pub returns-clause-of_nobody : goal.returns-clause-of_nobody
unfolding front bits opening host_refusal_of
returns-clause-of_nobody c = refl

pub returns-clause-another_share : goal.returns-clause-another_share
unfolding front bits opening host_refusal_of
returns-clause-another_share c = refl

pub returns-clause-the_least : goal.returns-clause-the_least
unfolding front bits opening host_refusal_of
returns-clause-the_least c = refl

pub returns-clause-of_the_other : goal.returns-clause-of_the_other
unfolding front bits opening host_refusal_of
returns-clause-of_the_other c = refl

pub returns-clause-lanes_stay : goal.returns-clause-lanes_stay
unfolding front bits opening host_refusal_of
returns-clause-lanes_stay c = refl
