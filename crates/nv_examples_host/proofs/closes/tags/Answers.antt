use Rattle.std.proofs.Common.{Bool, List, Option, ap, arith, false, is_some, length, refl, true, ℕ, ◌≡◌}
use Rattle.std.specs.Prelude.{slice_index}
use Rattle.nv_core.specs.Held.{held_in}
use Rattle.nv_core.specs.Tags.{command_at, is_flying}
use Rattle.nv_model.specs.Controller.{Controller}
use Rattle.nv_plan.specs.declared.job.Job.{Job}
use Rattle.nv_world_model.specs.World.{Tag}
use Rattle.nv_examples_host.proofs.closes.tags.Goals as goal

pub returns-clause-as_before : goal.returns-clause-as_before
returns-clause-as_before c a = (let bad : ◌≡◌ {A = Bool} true false = ap is_flying (a 1) in absurd (cc))

pub returns-clause-all_free : goal.returns-clause-all_free
returns-clause-all_free c a = (let bad : ◌≡◌ {A = Bool} false true = ap (λ (o : Option Tag). is_some (command_at o)) (a 1) in absurd (cc))

pub returns-clause-all_but_one : goal.returns-clause-all_but_one
returns-clause-all_but_one c a = (let bad : ◌≡◌ {A = Bool} true false = ap is_flying (a 7) in absurd (cc))

pub returns-clause-one_in_flight : goal.returns-clause-one_in_flight
returns-clause-one_in_flight c a = (let bad : ◌≡◌ {A = Bool} true false = (a 0).0 in absurd (cc))

pub returns-clause-one_that_waits : goal.returns-clause-one_that_waits
returns-clause-one_that_waits c a = (let bad : ◌≡◌ {A = Bool} true false = ap (λ (o : Option Job). is_some o) (a 0).1 in absurd (cc))

pub returns-clause-no_lane : goal.returns-clause-no_lane
returns-clause-no_lane c tag = (refl, refl)

pub returns-clause-another_lane : goal.returns-clause-another_lane
returns-clause-another_lane c i = (let bad : ◌≡◌ {A = ℕ} 3 0 = ap (held_in 0) (i.lanes 1 (λ (e : ◌≡◌ {A = ℕ} 1 0). absurd (omega (arith, e)))) in absurd (omega arith))

pub returns-clause-another_tail : goal.returns-clause-another_tail
returns-clause-another_tail c i = (let bad : ◌≡◌ {A = ℕ} 6 5 = ap (λ (xs : List ℕ). slice_index xs 0) i.tails in absurd (omega arith))

pub returns-clause-other_controllers : goal.returns-clause-other_controllers
returns-clause-other_controllers c i = (let bad : ◌≡◌ {A = ℕ} 1 0 = ap (λ (xs : List Controller). length xs) i.controllers in absurd (omega arith))
