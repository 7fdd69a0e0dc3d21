use Rattle.std.proofs.Common.{refl}
use Rattle.nv_entry.specs.Completion.{completion}
use Rattle.nv_entry.specs.Layout.{bits, bytes_of_dwords, dword, number_at}
use Rattle.nv_model.specs.Memory.{byte_in, bytes_from}
use Rattle.nv_examples_host.proofs.reaping.phases.Goals as goal

pub returns-clause-new_in_a_first_pass : goal.returns-clause-new_in_a_first_pass
unfolding number_at dword bits bytes_of_dwords completion bytes_from byte_in
returns-clause-new_in_a_first_pass c = refl

pub returns-clause-old_in_a_first_pass : goal.returns-clause-old_in_a_first_pass
unfolding number_at dword bits bytes_of_dwords completion bytes_from byte_in
returns-clause-old_in_a_first_pass c = refl

pub returns-clause-new_in_a_second_pass : goal.returns-clause-new_in_a_second_pass
unfolding number_at dword bits bytes_of_dwords completion bytes_from byte_in
returns-clause-new_in_a_second_pass c = refl

pub returns-clause-old_in_a_second_pass : goal.returns-clause-old_in_a_second_pass
unfolding number_at dword bits bytes_of_dwords completion bytes_from byte_in
returns-clause-old_in_a_second_pass c = refl

pub returns-clause-wanted_of_this_pass : goal.returns-clause-wanted_of_this_pass
unfolding number_at dword bits bytes_of_dwords completion bytes_from byte_in
returns-clause-wanted_of_this_pass c = refl

pub returns-clause-wanted_before_the_writer : goal.returns-clause-wanted_before_the_writer
unfolding number_at dword bits bytes_of_dwords completion bytes_from byte_in
returns-clause-wanted_before_the_writer c = refl

pub returns-clause-wanted_of_the_pass_before : goal.returns-clause-wanted_of_the_pass_before
unfolding number_at dword bits bytes_of_dwords completion bytes_from byte_in
returns-clause-wanted_of_the_pass_before c = refl

pub returns-clause-wanted_of_the_other_pass : goal.returns-clause-wanted_of_the_other_pass
unfolding number_at dword bits bytes_of_dwords completion bytes_from byte_in
returns-clause-wanted_of_the_other_pass c = refl

pub returns-clause-of_the_first_slot : goal.returns-clause-of_the_first_slot
unfolding number_at dword bits bytes_of_dwords completion bytes_from byte_in
returns-clause-of_the_first_slot c = refl

pub returns-clause-of_the_second_slot : goal.returns-clause-of_the_second_slot
unfolding number_at dword bits bytes_of_dwords completion bytes_from byte_in
returns-clause-of_the_second_slot c = refl

pub returns-clause-of_a_slot_that_was_never_written : goal.returns-clause-of_a_slot_that_was_never_written
unfolding number_at dword bits bytes_of_dwords completion bytes_from byte_in
returns-clause-of_a_slot_that_was_never_written c = refl

pub returns-clause-of_another_lane : goal.returns-clause-of_another_lane
unfolding number_at dword bits bytes_of_dwords completion bytes_from byte_in
returns-clause-of_another_lane c = refl
