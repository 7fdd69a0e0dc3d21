use Rattle.std.proofs.Common.{Bool, Option, ap, false, is_some, refl, true, ◌≡◌}
use Rattle.nv_entry.specs.Completion.{completion}
use Rattle.nv_entry.specs.Layout.{bits, bytes_of_dwords, dword, number_at}
use Rattle.nv_model.specs.Controller.{front, opening, took}
use Rattle.nv_model.specs.Memory.{byte_in, bytes_from, image}
use Rattle.nv_plan.specs.declared.job.Job.{Job}
use Rattle.nv_world_model.specs.Due.{due}
use Rattle.nv_world_model.specs.Step.{administered_in, replay, replies, step, taken_to}
use Rattle.nv_world_model.specs.World.{claimed, opening_world, with_tags}
use Rattle.nv_examples_host.proofs.works.dues.Goals as goal

pub returns-clause-a_new_completion : goal.returns-clause-a_new_completion
unfolding number_at dword bits bytes_of_dwords completion bytes_from byte_in front opening opening_world administered_in step replay replies due image took taken_to claimed with_tags
returns-clause-a_new_completion c = refl

pub returns-clause-an_old_one : goal.returns-clause-an_old_one
unfolding number_at dword bits bytes_of_dwords completion bytes_from byte_in front opening opening_world administered_in step replay replies due image took taken_to claimed with_tags
returns-clause-an_old_one c p = (let bad : ◌≡◌ {A = Bool} false true = p in absurd (cc))

pub returns-clause-of_another_lane : goal.returns-clause-of_another_lane
unfolding number_at dword bits bytes_of_dwords completion bytes_from byte_in front opening opening_world administered_in step replay replies due image took taken_to claimed with_tags
returns-clause-of_another_lane c p = (let bad : ◌≡◌ {A = Bool} false true = p in absurd (cc))

pub returns-clause-by_its_own_phase : goal.returns-clause-by_its_own_phase
unfolding number_at dword bits bytes_of_dwords completion bytes_from byte_in front opening opening_world administered_in step replay replies due image took taken_to claimed with_tags
returns-clause-by_its_own_phase c p = (let bad : ◌≡◌ {A = Bool} false true = p in absurd (cc))

pub returns-clause-a_closed_lane : goal.returns-clause-a_closed_lane
unfolding number_at dword bits bytes_of_dwords completion bytes_from byte_in front opening opening_world administered_in step replay replies due image took taken_to claimed with_tags
returns-clause-a_closed_lane c p = (let bad : ◌≡◌ {A = Bool} false true = p.0 in absurd (cc))

pub returns-clause-a_share_without_room : goal.returns-clause-a_share_without_room
unfolding number_at dword bits bytes_of_dwords completion bytes_from byte_in front opening opening_world administered_in step replay replies due image took taken_to claimed with_tags
returns-clause-a_share_without_room c p = (let bad : ◌≡◌ {A = Bool} false true = p.0 in absurd (cc))

pub returns-clause-no_command : goal.returns-clause-no_command
unfolding number_at dword bits bytes_of_dwords completion bytes_from byte_in front opening opening_world administered_in step replay replies due image took taken_to claimed with_tags
returns-clause-no_command c p = (let bad : ◌≡◌ {A = Bool} false true = p.1 in absurd (cc))

pub returns-clause-a_free_tag : goal.returns-clause-a_free_tag
unfolding number_at dword bits bytes_of_dwords completion bytes_from byte_in front opening opening_world administered_in step replay replies due image took taken_to claimed with_tags
returns-clause-a_free_tag c p = (let bad : ◌≡◌ {A = Bool} false true = ap (λ (o : Option Job). is_some o) p.3.taken in absurd (cc))

pub returns-clause-one_in_flight : goal.returns-clause-one_in_flight
unfolding number_at dword bits bytes_of_dwords completion bytes_from byte_in front opening opening_world administered_in step replay replies due image took taken_to claimed with_tags
returns-clause-one_in_flight c p = (let bad : ◌≡◌ {A = Bool} false true = ap (λ (o : Option Job). is_some o) p.3.taken in absurd (cc))

pub returns-clause-another_tag : goal.returns-clause-another_tag
unfolding number_at dword bits bytes_of_dwords completion bytes_from byte_in front opening opening_world administered_in step replay replies due image took taken_to claimed with_tags
returns-clause-another_tag c p = (let bad : ◌≡◌ {A = Bool} false true = ap (λ (o : Option Job). is_some o) p.3.taken in absurd (cc))

pub returns-clause-a_list_of_another_tag : goal.returns-clause-a_list_of_another_tag
unfolding number_at dword bits bytes_of_dwords completion bytes_from byte_in front opening opening_world administered_in step replay replies due image took taken_to claimed with_tags
returns-clause-a_list_of_another_tag c p = (let bad : ◌≡◌ {A = Bool} false true = ap (λ (o : Option Job). is_some o) p.2.taken in absurd (cc))

pub returns-clause-one_given_up : goal.returns-clause-one_given_up
unfolding number_at dword bits bytes_of_dwords completion bytes_from byte_in front opening opening_world administered_in step replay replies due image took taken_to claimed with_tags
returns-clause-one_given_up c p = (let bad : ◌≡◌ {A = Bool} false true = p.1 in absurd (cc))

pub returns-clause-an_act : goal.returns-clause-an_act
unfolding number_at dword bits bytes_of_dwords completion bytes_from byte_in front opening opening_world administered_in step replay replies due image took taken_to claimed with_tags
returns-clause-an_act c p = (let bad : ◌≡◌ {A = Bool} false true = p.1 in absurd (cc))

pub returns-clause-the_drives : goal.returns-clause-the_drives
unfolding number_at dword bits bytes_of_dwords completion bytes_from byte_in front opening opening_world administered_in step replay replies due image took taken_to claimed with_tags
returns-clause-the_drives c p = (let bad : ◌≡◌ {A = Bool} false true = p.0 in absurd (cc))

pub returns-clause-work : goal.returns-clause-work
unfolding number_at dword bits bytes_of_dwords completion bytes_from byte_in front opening opening_world administered_in step replay replies due image took taken_to claimed with_tags
returns-clause-work c sc s e w = (w.own, w.due_now)

pub returns-clause-rest : goal.returns-clause-rest
unfolding number_at dword bits bytes_of_dwords completion bytes_from byte_in front opening opening_world administered_in step replay replies due image took taken_to claimed with_tags
returns-clause-rest c sc s e rests work some = rests e work.own some.0 some.1 (work.due_now some.0 some.1)
