use Rattle.std.proofs.Common.{refl}
use Rattle.nv_entry.specs.Layout.{number_at, dword, qword, bits, bytes_of_dwords}
use Rattle.nv_entry.specs.Completion.{completion}
use Rattle.nv_mem.specs.GuestMap.{everywhere}
use Rattle.nv_mem.specs.Places.{addresses}
use Rattle.nv_model.specs.Memory.{bytes_from, stored, gathered, scattered}
use Rattle.nv_model.specs.Dialogue.{in_memory, and_then}
use Rattle.nv_model.specs.Sgl.{read_array, read_sgl}
use Rattle.nv_model.specs.Judge.{move_units, judge}
use Rattle.nv_model.specs.Controller.{opening, register, reg_write, doorbell, front, took, post, ran_out}
use Rattle.nv_model.specs.Admin.{admin_command, admin}
use Rattle.nv_model.specs.Private.{start, differs, step, run_of}
use Rattle.nv_model.proofs.rows.registers.examples.Goals as goal

pub returns-clause-cap_and_vs : goal.returns-clause-cap_and_vs
unfolding number_at dword qword bits bytes_of_dwords completion everywhere addresses bytes_from stored gathered scattered in_memory and_then read_array read_sgl
    move_units judge opening register reg_write doorbell front took post ran_out admin_command admin start differs step run_of
returns-clause-cap_and_vs c = refl

pub returns-clause-the_other_registers_start_at_zero : goal.returns-clause-the_other_registers_start_at_zero
unfolding number_at dword qword bits bytes_of_dwords completion everywhere addresses bytes_from stored gathered scattered in_memory and_then read_array read_sgl
    move_units judge opening register reg_write doorbell front took post ran_out admin_command admin start differs step run_of
returns-clause-the_other_registers_start_at_zero c = refl

pub returns-clause-a_read_between_two_registers_is_ignored : goal.returns-clause-a_read_between_two_registers_is_ignored
unfolding number_at dword qword bits bytes_of_dwords completion everywhere addresses bytes_from stored gathered scattered in_memory and_then read_array read_sgl
    move_units judge opening register reg_write doorbell front took post ran_out admin_command admin start differs step run_of
returns-clause-a_read_between_two_registers_is_ignored c = refl

pub returns-clause-registers_that_are_not_written : goal.returns-clause-registers_that_are_not_written
unfolding number_at dword qword bits bytes_of_dwords completion everywhere addresses bytes_from stored gathered scattered in_memory and_then read_array read_sgl
    move_units judge opening register reg_write doorbell front took post ran_out admin_command admin start differs step run_of
returns-clause-registers_that_are_not_written c = refl

pub returns-clause-the_admin_queue_registers_read_as_written : goal.returns-clause-the_admin_queue_registers_read_as_written
unfolding number_at dword qword bits bytes_of_dwords completion everywhere addresses bytes_from stored gathered scattered in_memory and_then read_array read_sgl
    move_units judge opening register reg_write doorbell front took post ran_out admin_command admin start differs step run_of
returns-clause-the_admin_queue_registers_read_as_written c = refl

pub returns-clause-the_admin_queue_registers_are_fixed_while_enabled : goal.returns-clause-the_admin_queue_registers_are_fixed_while_enabled
unfolding number_at dword qword bits bytes_of_dwords completion everywhere addresses bytes_from stored gathered scattered in_memory and_then read_array read_sgl
    move_units judge opening register reg_write doorbell front took post ran_out admin_command admin start differs step run_of
returns-clause-the_admin_queue_registers_are_fixed_while_enabled c = refl

pub returns-clause-admin_queues_of_one_slot_fail : goal.returns-clause-admin_queues_of_one_slot_fail
unfolding number_at dword qword bits bytes_of_dwords completion everywhere addresses bytes_from stored gathered scattered in_memory and_then read_array read_sgl
    move_units judge opening register reg_write doorbell front took post ran_out admin_command admin start differs step run_of
returns-clause-admin_queues_of_one_slot_fail c = refl

pub returns-clause-an_admin_queue_that_leaves_the_memory_fails : goal.returns-clause-an_admin_queue_that_leaves_the_memory_fails
unfolding number_at dword qword bits bytes_of_dwords completion everywhere addresses bytes_from stored gathered scattered in_memory and_then read_array read_sgl
    move_units judge opening register reg_write doorbell front took post ran_out admin_command admin start differs step run_of
returns-clause-an_admin_queue_that_leaves_the_memory_fails c = refl

pub returns-clause-an_admin_queue_within_a_page_fails : goal.returns-clause-an_admin_queue_within_a_page_fails
unfolding number_at dword qword bits bytes_of_dwords completion everywhere addresses bytes_from stored gathered scattered in_memory and_then read_array read_sgl
    move_units judge opening register reg_write doorbell front took post ran_out admin_command admin start differs step run_of
returns-clause-an_admin_queue_within_a_page_fails c = refl

pub returns-clause-a_doorbell_before_bring_up_is_ignored : goal.returns-clause-a_doorbell_before_bring_up_is_ignored
unfolding number_at dword qword bits bytes_of_dwords completion everywhere addresses bytes_from stored gathered scattered in_memory and_then read_array read_sgl
    move_units judge opening register reg_write doorbell front took post ran_out admin_command admin start differs step run_of
returns-clause-a_doorbell_before_bring_up_is_ignored c = refl

pub returns-clause-a_submission_tail_is_a_slot : goal.returns-clause-a_submission_tail_is_a_slot
unfolding number_at dword qword bits bytes_of_dwords completion everywhere addresses bytes_from stored gathered scattered in_memory and_then read_array read_sgl
    move_units judge opening register reg_write doorbell front took post ran_out admin_command admin start differs step run_of
returns-clause-a_submission_tail_is_a_slot c = refl

pub returns-clause-doorbells_that_are_not_there : goal.returns-clause-doorbells_that_are_not_there
unfolding number_at dword qword bits bytes_of_dwords completion everywhere addresses bytes_from stored gathered scattered in_memory and_then read_array read_sgl
    move_units judge opening register reg_write doorbell front took post ran_out admin_command admin start differs step run_of
returns-clause-doorbells_that_are_not_there c = refl

pub returns-clause-a_completion_head_goes_up_to_the_tail : goal.returns-clause-a_completion_head_goes_up_to_the_tail
unfolding number_at dword qword bits bytes_of_dwords completion everywhere addresses bytes_from stored gathered scattered in_memory and_then read_array read_sgl
    move_units judge opening register reg_write doorbell front took post ran_out admin_command admin start differs step run_of
returns-clause-a_completion_head_goes_up_to_the_tail c = refl

pub returns-clause-acts_outside_the_memory : goal.returns-clause-acts_outside_the_memory
unfolding number_at dword qword bits bytes_of_dwords completion everywhere addresses bytes_from stored gathered scattered in_memory and_then read_array read_sgl
    move_units judge opening register reg_write doorbell front took post ran_out admin_command admin start differs step run_of
returns-clause-acts_outside_the_memory c = refl

pub returns-clause-cc_written_while_enabled : goal.returns-clause-cc_written_while_enabled
unfolding number_at dword qword bits bytes_of_dwords completion everywhere addresses bytes_from stored gathered scattered in_memory and_then read_array read_sgl
    move_units judge opening register reg_write doorbell front took post ran_out admin_command admin start differs step run_of
returns-clause-cc_written_while_enabled c = refl

pub returns-clause-cc_written_while_disabled : goal.returns-clause-cc_written_while_disabled
unfolding number_at dword qword bits bytes_of_dwords completion everywhere addresses bytes_from stored gathered scattered in_memory and_then read_array read_sgl
    move_units judge opening register reg_write doorbell front took post ran_out admin_command admin start differs step run_of
returns-clause-cc_written_while_disabled c = refl
