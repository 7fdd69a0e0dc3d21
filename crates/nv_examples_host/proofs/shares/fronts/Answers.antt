use Rattle.std.proofs.Common.{refl}
use Rattle.nv_entry.specs.Layout.{bits}
use Rattle.nv_model.specs.Controller.{front, opening}
use Rattle.nv_world_model.specs.SetUp.{host_refusal_of}
use Rattle.nv_examples_host.proofs.shares.fronts.Goals as goal

pub returns-clause-one_waits : goal.returns-clause-one_waits
unfolding front bits opening host_refusal_of
returns-clause-one_waits c = refl

pub returns-clause-none_was_submitted : goal.returns-clause-none_was_submitted
unfolding front bits opening host_refusal_of
returns-clause-none_was_submitted c = refl

pub returns-clause-of_no_queue : goal.returns-clause-of_no_queue
unfolding front bits opening host_refusal_of
returns-clause-of_no_queue c = refl

pub returns-clause-of_nobody : goal.returns-clause-of_nobody
unfolding front bits opening host_refusal_of
returns-clause-of_nobody c = refl

pub returns-clause-after_a_reset : goal.returns-clause-after_a_reset
unfolding front bits opening host_refusal_of
returns-clause-after_a_reset c = refl
