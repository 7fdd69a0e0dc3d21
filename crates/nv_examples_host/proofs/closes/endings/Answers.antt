use Rattle.std.proofs.Common.{Bool, false, refl, true, ◌≡◌}
use Rattle.nv_entry.specs.StatusCode.{done_with}
use Rattle.nv_entry.specs.declared.status_code.StatusCode.TheVariants.{InternalError, Success}
use Rattle.nv_examples_host.proofs.Probes.{ending-is}
use Rattle.nv_host.specs.Closing.{Fails, GivesUp, Reads, Takes}
use Rattle.nv_world_model.specs.declared.event.Event.TheVariants as event
use Rattle.nv_examples_host.proofs.closes.endings.Goals as goal

pub returns-clause-a_reap : goal.returns-clause-a_reap
returns-clause-a_reap c = Reads refl

pub returns-clause-a_take_by_the_drive : goal.returns-clause-a_take_by_the_drive
returns-clause-a_take_by_the_drive c = Takes refl

pub returns-clause-a_failure : goal.returns-clause-a_failure
returns-clause-a_failure c = Fails 5 refl

pub returns-clause-one_given_up : goal.returns-clause-one_given_up
returns-clause-one_given_up c = GivesUp 5 refl

pub returns-clause-a_reap_of_another_lane : goal.returns-clause-a_reap_of_another_lane
returns-clause-a_reap_of_another_lane c p = (let bad : ◌≡◌ {A = Bool} false true = ending-is (event.Reap 0) p in absurd (cc))

pub returns-clause-a_take_from_another_lane : goal.returns-clause-a_take_from_another_lane
returns-clause-a_take_from_another_lane c p = (let bad : ◌≡◌ {A = Bool} false true = ending-is (event.DevTake 0) p in absurd (cc))

pub returns-clause-a_failure_on_another_lane : goal.returns-clause-a_failure_on_another_lane
returns-clause-a_failure_on_another_lane c p = (let bad : ◌≡◌ {A = Bool} false true = ending-is (event.DevFail 0 5 (done_with InternalError)) p in absurd (cc))

pub returns-clause-one_given_up_on_another_lane : goal.returns-clause-one_given_up_on_another_lane
returns-clause-one_given_up_on_another_lane c p = (let bad : ◌≡◌ {A = Bool} false true = ending-is (event.GiveUp 0 5) p in absurd (cc))

pub returns-clause-another_status : goal.returns-clause-another_status
returns-clause-another_status c p = (let bad : ◌≡◌ {A = Bool} false true = ending-is (event.DevFail 1 5 (done_with Success)) p in absurd (cc))

pub returns-clause-a_take : goal.returns-clause-a_take
returns-clause-a_take c p = (let bad : ◌≡◌ {A = Bool} false true = ending-is (event.Take 0 1 1) p in absurd (cc))

pub returns-clause-a_post : goal.returns-clause-a_post
returns-clause-a_post c p = (let bad : ◌≡◌ {A = Bool} false true = ending-is (event.Post 1 5) p in absurd (cc))

pub returns-clause-of_a_log : goal.returns-clause-of_a_log
returns-clause-of_a_log c lane first log h memory b = (b.added, b.world, b.ending, b.leads)
