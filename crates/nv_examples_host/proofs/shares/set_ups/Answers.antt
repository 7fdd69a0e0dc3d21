use Rattle.std.proofs.Common.{refl}
use Rattle.nv_entry.specs.Layout.{bits}
use Rattle.nv_model.specs.Controller.{front, opening}
use Rattle.nv_world_model.specs.SetUp.{host_refusal_of}
use Rattle.nv_examples_host.proofs.shares.set_ups.Goals as goal

pub returns-clause-all_tags : goal.returns-clause-all_tags
unfolding front bits opening host_refusal_of
returns-clause-all_tags c = refl

pub returns-clause-more_than_all : goal.returns-clause-more_than_all
unfolding front bits opening host_refusal_of
returns-clause-more_than_all c = refl

pub returns-clause-that_alone : goal.returns-clause-that_alone
unfolding front bits opening host_refusal_of
returns-clause-that_alone c = refl

pub returns-clause-one_tag_more : goal.returns-clause-one_tag_more
unfolding front bits opening host_refusal_of
returns-clause-one_tag_more c = refl

pub returns-clause-its_name : goal.returns-clause-its_name
unfolding front bits opening host_refusal_of
returns-clause-its_name c = refl

pub returns-clause-no_name : goal.returns-clause-no_name
unfolding front bits opening host_refusal_of
returns-clause-no_name c = refl

pub returns-clause-another_reason : goal.returns-clause-another_reason
unfolding front bits opening host_refusal_of
returns-clause-another_reason c = refl

pub returns-clause-a_reason_without_a_crowd : goal.returns-clause-a_reason_without_a_crowd
unfolding front bits opening host_refusal_of
returns-clause-a_reason_without_a_crowd c = refl

pub returns-clause-of_one_guest : goal.returns-clause-of_one_guest
unfolding front bits opening host_refusal_of
returns-clause-of_one_guest c = refl

pub returns-clause-of_two_that_meet : goal.returns-clause-of_two_that_meet
unfolding front bits opening host_refusal_of
returns-clause-of_two_that_meet c = refl

pub returns-clause-the_largest : goal.returns-clause-the_largest
unfolding front bits opening host_refusal_of
returns-clause-the_largest c = refl

pub returns-clause-a_larger_host : goal.returns-clause-a_larger_host
unfolding front bits opening host_refusal_of
returns-clause-a_larger_host c = refl

pub returns-clause-a_larger_disk : goal.returns-clause-a_larger_disk
unfolding front bits opening host_refusal_of
returns-clause-a_larger_disk c = refl

pub returns-clause-a_disk_without_blocks : goal.returns-clause-a_disk_without_blocks
unfolding front bits opening host_refusal_of
returns-clause-a_disk_without_blocks c = refl
