use Rattle.std.proofs.Common.{Bool, IsTrue, Option, ap, arith, false, is_some, refl, true, ℕ, ◌<◌, ◌≡◌, ◌≤◌}
use Rattle.std.proofs.lemmas.Option.{none-some}
use Rattle.std.specs.Option.{unwrap_or}
use Rattle.nv_entry.specs.Completion.{completion}
use Rattle.nv_entry.specs.Layout.{bits, bytes_of_dwords, dword, number_at}
use Rattle.nv_host.proofs.Rests.{true-false}
use Rattle.nv_host.proofs.Works.{work-left}
use Rattle.nv_host.specs.Work.{IsIn, Scene}
use Rattle.nv_host.specs.declared.worked.Scope.TheVariants as scope
use Rattle.nv_mediator.specs.Hosted.{may_want}
use Rattle.nv_model.specs.Memory.{byte_in, bytes_from}
use Rattle.nv_model.specs.declared.reply.Reply.{Reply}
use Rattle.nv_world_model.specs.declared.event.Event.{Event}
use Rattle.nv_world_model.specs.declared.event.Event.TheVariants as event
use Rattle.nv_examples_host.proofs.works.ends.Goals as goal

-- no event of a lane may want memory
lane-wants-none : (s : Scene) (lane : ℕ) (e : Event) → IsIn (scope.Lane lane) s e → IsTrue (may_want e) → ⊥
lane-wants-none s lane (event.Guest g a) own wants = none-some lane own
lane-wants-none s lane (event.Admin g) own wants = none-some lane own
lane-wants-none s lane (event.Take g queue n) own wants = none-some lane own
lane-wants-none s lane (event.List n tag addr len) own wants = none-some lane own
lane-wants-none s lane (event.Submit n tag) own wants = none-some lane own
lane-wants-none s lane (event.GiveUp n tag) own wants = none-some lane own
lane-wants-none s lane (event.DevTake n) own wants = none-some lane own
lane-wants-none s lane (event.DevMove n slot number) own wants = none-some lane own
lane-wants-none s lane (event.DevPost n slot) own wants = none-some lane own
lane-wants-none s lane (event.DevFail n slot st) own wants = none-some lane own
lane-wants-none s lane (event.Keep block) own wants = none-some lane own
lane-wants-none s lane (event.Reap n) own wants = true-false false wants refl
lane-wants-none s lane (event.Post n tag) own wants = true-false false wants refl

pub returns-clause-more_than_asked : goal.returns-clause-more_than_asked
unfolding number_at dword bits bytes_of_dwords completion bytes_from byte_in
returns-clause-more_than_asked c s h = (let bad : 2 ≤ 1 = h.1 in absurd (omega (arith, bad)))

pub returns-clause-not_enough : goal.returns-clause-not_enough
unfolding number_at dword bits bytes_of_dwords completion bytes_from byte_in
returns-clause-not_enough c s h = h.2

pub returns-clause-starved_with_all_done : goal.returns-clause-starved_with_all_done
unfolding number_at dword bits bytes_of_dwords completion bytes_from byte_in
returns-clause-starved_with_all_done c s h = (let bad : 1 < 1 = h.1 in absurd (omega (arith, bad)))

pub returns-clause-starved_with_nothing_left : goal.returns-clause-starved_with_nothing_left
unfolding number_at dword bits bytes_of_dwords completion bytes_from byte_in
returns-clause-starved_with_nothing_left c s rests h = work-left scope.All s h.2.event h.2.work rests

pub returns-clause-starved_of_a_lane : goal.returns-clause-starved_of_a_lane
unfolding number_at dword bits bytes_of_dwords completion bytes_from byte_in
returns-clause-starved_of_a_lane c s lane h = lane-wants-none s lane h.2.event h.2.work.own h.2.wants

pub returns-clause-given_up_and_more : goal.returns-clause-given_up_and_more
unfolding number_at dword bits bytes_of_dwords completion bytes_from byte_in
returns-clause-given_up_and_more c s h = (let bad : 2 ≤ 1 = h.1 in absurd (omega (arith, bad)))

pub returns-clause-nothing_given_up : goal.returns-clause-nothing_given_up
unfolding number_at dword bits bytes_of_dwords completion bytes_from byte_in
returns-clause-nothing_given_up c s h = (let some = h.0.counted in absurd (omega (arith, some)))

pub returns-clause-stray_with_all_done : goal.returns-clause-stray_with_all_done
unfolding number_at dword bits bytes_of_dwords completion bytes_from byte_in
returns-clause-stray_with_all_done c s h = (let bad : 1 < 1 = h.1 in absurd (omega (arith, bad)))

pub returns-clause-stray_of_another_scope : goal.returns-clause-stray_of_another_scope
unfolding number_at dword bits bytes_of_dwords completion bytes_from byte_in
returns-clause-stray_of_another_scope c s h = (let bad : ◌≡◌ {A = ℕ} 0 1 = ap (λ (o : Option ℕ). unwrap_or o 9) h.2.own in absurd (omega arith))

pub returns-clause-stray_of_a_guest : goal.returns-clause-stray_of_a_guest
unfolding number_at dword bits bytes_of_dwords completion bytes_from byte_in
returns-clause-stray_of_a_guest c s h = (let bad : ◌≡◌ {A = ℕ} 9 0 = ap (λ (o : Option ℕ). unwrap_or o 9) h.2.own in absurd (omega arith))

pub returns-clause-an_old_one : goal.returns-clause-an_old_one
unfolding number_at dword bits bytes_of_dwords completion bytes_from byte_in
returns-clause-an_old_one c i = (let bad : ◌≡◌ {A = Bool} true false = ap (λ (o : Option Reply). is_some o) i.stray in absurd (cc))

pub returns-clause-a_new_one : goal.returns-clause-a_new_one
unfolding number_at dword bits bytes_of_dwords completion bytes_from byte_in
returns-clause-a_new_one c i = (let bad : ◌≡◌ {A = Bool} true false = ap (λ (o : Option Reply). is_some o) i.stray in absurd (cc))

pub returns-clause-of_no_log : goal.returns-clause-of_no_log
unfolding number_at dword bits bytes_of_dwords completion bytes_from byte_in
returns-clause-of_no_log c sc s lane i = i.unreached

pub returns-clause-as_many : goal.returns-clause-as_many
unfolding number_at dword bits bytes_of_dwords completion bytes_from byte_in
returns-clause-as_many c s h = (let bad : 1 ≤ 0 = h.1 in absurd (omega (arith, bad)))

pub returns-clause-fewer : goal.returns-clause-fewer
unfolding number_at dword bits bytes_of_dwords completion bytes_from byte_in
returns-clause-fewer c s h = h.2 (omega arith)

pub returns-clause-the_count : goal.returns-clause-the_count
unfolding number_at dword bits bytes_of_dwords completion bytes_from byte_in
returns-clause-the_count c sc most done old new h = h.0

pub returns-clause-the_count_given_up : goal.returns-clause-the_count_given_up
unfolding number_at dword bits bytes_of_dwords completion bytes_from byte_in
returns-clause-the_count_given_up c sc most done old new h = h.0

pub returns-clause-the_count_starved : goal.returns-clause-the_count_starved
unfolding number_at dword bits bytes_of_dwords completion bytes_from byte_in
returns-clause-the_count_starved c sc most done old new h = h.0

pub returns-clause-the_count_at_a_stray : goal.returns-clause-the_count_at_a_stray
unfolding number_at dword bits bytes_of_dwords completion bytes_from byte_in
returns-clause-the_count_at_a_stray c sc most done lane old new h = h.0
