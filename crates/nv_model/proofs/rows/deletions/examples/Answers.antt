use Rattle.std.proofs.Common.{refl}
use Rattle.nv_entry.specs.Layout.{number_at, dword, qword, bits, bytes_of_dwords}
use Rattle.nv_entry.specs.Completion.{completion}
use Rattle.nv_mem.specs.GuestMap.{everywhere}
use Rattle.nv_mem.specs.Places.{addresses}
use Rattle.nv_model.specs.Memory.{bytes_from, stored, gathered, scattered}
use Rattle.nv_model.specs.Dialogue.{in_memory, and_then}
use Rattle.nv_model.specs.Sgl.{read_array, read_sgl}
use Rattle.nv_model.specs.Judge.{move_units, judge}
use Rattle.nv_model.specs.Controller.{opening, register, reg_write, doorbell, front, took, post, ran_out}
use Rattle.nv_model.specs.Admin.{admin_command, admin}
use Rattle.nv_model.specs.Private.{start, differs, step, run_of}
use Rattle.nv_model.proofs.rows.deletions.examples.Goals as goal

pub returns-clause-a_queue_without_taken_commands_goes_at_once : goal.returns-clause-a_queue_without_taken_commands_goes_at_once
unfolding number_at dword qword bits bytes_of_dwords completion everywhere addresses bytes_from stored gathered scattered in_memory and_then read_array read_sgl
    move_units judge opening register reg_write doorbell front took post ran_out admin_command admin start differs step run_of
returns-clause-a_queue_without_taken_commands_goes_at_once c = refl

pub returns-clause-a_closing_queue_has_no_doorbell : goal.returns-clause-a_closing_queue_has_no_doorbell
unfolding number_at dword qword bits bytes_of_dwords completion everywhere addresses bytes_from stored gathered scattered in_memory and_then read_array read_sgl
    move_units judge opening register reg_write doorbell front took post ran_out admin_command admin start differs step run_of
returns-clause-a_closing_queue_has_no_doorbell c = refl

pub returns-clause-a_deletion_waits_for_the_taken_command : goal.returns-clause-a_deletion_waits_for_the_taken_command
unfolding number_at dword qword bits bytes_of_dwords completion everywhere addresses bytes_from stored gathered scattered in_memory and_then read_array read_sgl
    move_units judge opening register reg_write doorbell front took post ran_out admin_command admin start differs step run_of
returns-clause-a_deletion_waits_for_the_taken_command c = refl

pub returns-clause-a_command_of_a_closing_queue_is_completed : goal.returns-clause-a_command_of_a_closing_queue_is_completed
unfolding number_at dword qword bits bytes_of_dwords completion everywhere addresses bytes_from stored gathered scattered in_memory and_then read_array read_sgl
    move_units judge opening register reg_write doorbell front took post ran_out admin_command admin start differs step run_of
returns-clause-a_command_of_a_closing_queue_is_completed c = refl

pub returns-clause-a_deletion_is_done_behind_the_last_command : goal.returns-clause-a_deletion_is_done_behind_the_last_command
unfolding number_at dword qword bits bytes_of_dwords completion everywhere addresses bytes_from stored gathered scattered in_memory and_then read_array read_sgl
    move_units judge opening register reg_write doorbell front took post ran_out admin_command admin start differs step run_of
returns-clause-a_deletion_is_done_behind_the_last_command c = refl

pub returns-clause-nothing_is_taken_from_a_queue_that_is_gone : goal.returns-clause-nothing_is_taken_from_a_queue_that_is_gone
unfolding number_at dword qword bits bytes_of_dwords completion everywhere addresses bytes_from stored gathered scattered in_memory and_then read_array read_sgl
    move_units judge opening register reg_write doorbell front took post ran_out admin_command admin start differs step run_of
returns-clause-nothing_is_taken_from_a_queue_that_is_gone c = refl

pub returns-clause-nothing_is_taken_from_a_closing_queue : goal.returns-clause-nothing_is_taken_from_a_closing_queue
unfolding number_at dword qword bits bytes_of_dwords completion everywhere addresses bytes_from stored gathered scattered in_memory and_then read_array read_sgl
    move_units judge opening register reg_write doorbell front took post ran_out admin_command admin start differs step run_of
returns-clause-nothing_is_taken_from_a_closing_queue c = refl

pub returns-clause-the_same_entry_is_taken_from_an_open_queue : goal.returns-clause-the_same_entry_is_taken_from_an_open_queue
unfolding number_at dword qword bits bytes_of_dwords completion everywhere addresses bytes_from stored gathered scattered in_memory and_then read_array read_sgl
    move_units judge opening register reg_write doorbell front took post ran_out admin_command admin start differs step run_of
returns-clause-the_same_entry_is_taken_from_an_open_queue c = refl
