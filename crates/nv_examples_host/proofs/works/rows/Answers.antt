use Rattle.std.proofs.Common.{[], arith, refl, ℕ, ◌∷◌, ◌≡◌}
use Rattle.nv_examples_host.proofs.Probes.{counts-by}
use Rattle.nv_host.specs.InRow.{AreMadeBy}
use Rattle.nv_world_model.specs.declared.event.Event.TheVariants as event
use Rattle.nv_examples_host.proofs.works.rows.Goals as goal

pub returns-clause-none : goal.returns-clause-none
unfolding AreMadeBy
returns-clause-none c = record { events = []; made = refl; counted = refl }

pub returns-clause-none_and_another : goal.returns-clause-none_and_another
unfolding AreMadeBy
returns-clause-none_and_another c l = (let bad : ◌≡◌ {A = ℕ} 4 3 = counts-by 0 3 4 l in absurd (omega arith))

pub returns-clause-two : goal.returns-clause-two
unfolding AreMadeBy
returns-clause-two c = record { events = event.Admin 0 ∷ event.Admin 1 ∷ []; made = (4, refl, (5, refl, refl)); counted = refl }

pub returns-clause-one : goal.returns-clause-one
unfolding AreMadeBy
returns-clause-one c l = (let bad : ◌≡◌ {A = ℕ} 5 4 = counts-by 1 3 5 l in absurd (omega arith))

pub returns-clause-three : goal.returns-clause-three
unfolding AreMadeBy
returns-clause-three c l = (let bad : ◌≡◌ {A = ℕ} 5 6 = counts-by 3 3 5 l in absurd (omega arith))

pub returns-clause-given_up : goal.returns-clause-given_up
unfolding AreMadeBy
returns-clause-given_up c = record { less = 2; before = 5; leads = record { events = event.Admin 0 ∷ event.Admin 1 ∷ []; made = (4, refl, (5, refl, refl)); counted = refl }; counted = refl; last = refl }

pub returns-clause-given_up_of_none : goal.returns-clause-given_up_of_none
unfolding AreMadeBy
returns-clause-given_up_of_none c l = (let some = l.counted in absurd (omega (arith, some)))

pub returns-clause-given_up_twice : goal.returns-clause-given_up_twice
unfolding AreMadeBy
returns-clause-given_up_twice c l = (let some = l.counted in let far = counts-by l.less 3 l.before l.leads in let back : l.before ≡ 5 = l.last in absurd (omega (arith, some, far, back)))
