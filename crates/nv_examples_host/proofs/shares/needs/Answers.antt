use Rattle.std.proofs.Common.{refl}
use Rattle.nv_entry.specs.Layout.{bits}
use Rattle.nv_model.specs.Controller.{front, opening}
use Rattle.nv_world_model.specs.SetUp.{host_refusal_of}
use Rattle.nv_examples_host.proofs.shares.needs.Goals as goal

pub returns-clause-a_tag_for_each_extent : goal.returns-clause-a_tag_for_each_extent
unfolding front bits opening host_refusal_of
returns-clause-a_tag_for_each_extent c = refl

pub returns-clause-one_of_each_guest : goal.returns-clause-one_of_each_guest
unfolding front bits opening host_refusal_of
returns-clause-one_of_each_guest c = refl

pub returns-clause-of_a_guest : goal.returns-clause-of_a_guest
unfolding front bits opening host_refusal_of
returns-clause-of_a_guest c = refl

pub returns-clause-of_nobody : goal.returns-clause-of_nobody
unfolding front bits opening host_refusal_of
returns-clause-of_nobody c = refl

pub returns-clause-equal_shares : goal.returns-clause-equal_shares
unfolding front bits opening host_refusal_of
returns-clause-equal_shares c = refl

pub returns-clause-all_that_are_left : goal.returns-clause-all_that_are_left
unfolding front bits opening host_refusal_of
returns-clause-all_that_are_left c = refl

pub returns-clause-nothing_left : goal.returns-clause-nothing_left
unfolding front bits opening host_refusal_of
returns-clause-nothing_left c = refl

pub returns-clause-nobodys_share : goal.returns-clause-nobodys_share
unfolding front bits opening host_refusal_of
returns-clause-nobodys_share c = refl
