use Rattle.std.proofs.Common.{refl}
use Rattle.nv_entry.specs.Completion.{completion}
use Rattle.nv_entry.specs.Layout.{bits, bytes_of_dwords, dword, number_at}
use Rattle.nv_model.specs.Memory.{byte_in, bytes_from}
use Rattle.nv_examples_host.proofs.reaping.answers.Goals as goal

pub returns-clause-a_new_one : goal.returns-clause-a_new_one
unfolding number_at dword bits bytes_of_dwords completion bytes_from byte_in
returns-clause-a_new_one c = refl

pub returns-clause-an_old_one : goal.returns-clause-an_old_one
unfolding number_at dword bits bytes_of_dwords completion bytes_from byte_in
returns-clause-an_old_one c = refl

pub returns-clause-a_stray_one : goal.returns-clause-a_stray_one
unfolding number_at dword bits bytes_of_dwords completion bytes_from byte_in
returns-clause-a_stray_one c = refl

pub returns-clause-an_old_one_of_no_command : goal.returns-clause-an_old_one_of_no_command
unfolding number_at dword bits bytes_of_dwords completion bytes_from byte_in
returns-clause-an_old_one_of_no_command c = refl

pub returns-clause-no_lane : goal.returns-clause-no_lane
unfolding number_at dword bits bytes_of_dwords completion bytes_from byte_in
returns-clause-no_lane c = refl

pub returns-clause-the_first_slot : goal.returns-clause-the_first_slot
unfolding number_at dword bits bytes_of_dwords completion bytes_from byte_in
returns-clause-the_first_slot c = refl

pub returns-clause-the_second_slot : goal.returns-clause-the_second_slot
unfolding number_at dword bits bytes_of_dwords completion bytes_from byte_in
returns-clause-the_second_slot c = refl

pub returns-clause-the_second_slot_a_pass_later : goal.returns-clause-the_second_slot_a_pass_later
unfolding number_at dword bits bytes_of_dwords completion bytes_from byte_in
returns-clause-the_second_slot_a_pass_later c = refl

pub returns-clause-the_first_slot_a_pass_later : goal.returns-clause-the_first_slot_a_pass_later
unfolding number_at dword bits bytes_of_dwords completion bytes_from byte_in
returns-clause-the_first_slot_a_pass_later c = refl

pub returns-clause-the_bytes_of_a_slot : goal.returns-clause-the_bytes_of_a_slot
unfolding number_at dword bits bytes_of_dwords completion bytes_from byte_in
returns-clause-the_bytes_of_a_slot c = refl

pub returns-clause-it_waits : goal.returns-clause-it_waits
unfolding number_at dword bits bytes_of_dwords completion bytes_from byte_in
returns-clause-it_waits c = refl

pub returns-clause-none_waits : goal.returns-clause-none_waits
unfolding number_at dword bits bytes_of_dwords completion bytes_from byte_in
returns-clause-none_waits c = refl

pub returns-clause-none_waits_without_a_lane : goal.returns-clause-none_waits_without_a_lane
unfolding number_at dword bits bytes_of_dwords completion bytes_from byte_in
returns-clause-none_waits_without_a_lane c = refl

pub returns-clause-none_of_another_lane : goal.returns-clause-none_of_another_lane
unfolding number_at dword bits bytes_of_dwords completion bytes_from byte_in
returns-clause-none_of_another_lane c = refl
