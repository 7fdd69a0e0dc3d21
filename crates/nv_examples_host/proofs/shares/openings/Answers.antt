use Rattle.std.proofs.Common.{refl}
use Rattle.nv_entry.specs.Layout.{bits}
use Rattle.nv_model.specs.Controller.{front, opening}
use Rattle.nv_world_model.specs.SetUp.{host_refusal_of}
use Rattle.nv_examples_host.proofs.shares.openings.Goals as goal

pub returns-clause-shares : goal.returns-clause-shares
unfolding front bits opening host_refusal_of
returns-clause-shares c = refl

pub returns-clause-lanes : goal.returns-clause-lanes
unfolding front bits opening host_refusal_of
returns-clause-lanes c = refl

pub returns-clause-tails : goal.returns-clause-tails
unfolding front bits opening host_refusal_of
returns-clause-tails c = refl
