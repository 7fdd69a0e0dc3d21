use Rattle.std.proofs.Common.{refl}
use Rattle.nv_entry.specs.Layout.{number_at, dword, qword, bits, bytes_of_dwords}
use Rattle.nv_entry.specs.Completion.{completion}
use Rattle.nv_mem.specs.GuestMap.{everywhere}
use Rattle.nv_model.specs.Memory.{bytes_from, stored}
use Rattle.nv_model.specs.Dialogue.{in_memory}
use Rattle.nv_model.specs.Controller.{opening, register, reg_write, doorbell, front, took, post, ran_out}
use Rattle.nv_model.specs.Admin.{admin_command, admin}
use Rattle.nv_model.specs.Private.{start, step, run_of}
use Rattle.nv_model.proofs.rows.admin_commands.examples.Goals as goal

pub returns-clause-deletion_of_a_completion_queue_in_use : goal.returns-clause-deletion_of_a_completion_queue_in_use
unfolding number_at dword qword bits bytes_of_dwords completion everywhere bytes_from stored in_memory opening register reg_write doorbell front took post ran_out admin_command admin start step run_of
returns-clause-deletion_of_a_completion_queue_in_use c = refl

pub returns-clause-deletion_of_queues_that_are_not_there : goal.returns-clause-deletion_of_queues_that_are_not_there
unfolding number_at dword qword bits bytes_of_dwords completion everywhere bytes_from stored in_memory opening register reg_write doorbell front took post ran_out admin_command admin start step run_of
returns-clause-deletion_of_queues_that_are_not_there c = refl

pub returns-clause-any_log_page : goal.returns-clause-any_log_page
unfolding number_at dword qword bits bytes_of_dwords completion everywhere bytes_from stored in_memory opening register reg_write doorbell front took post ran_out admin_command admin start step run_of
returns-clause-any_log_page c = refl

pub returns-clause-number_of_queues_asked_for_late : goal.returns-clause-number_of_queues_asked_for_late
unfolding number_at dword qword bits bytes_of_dwords completion everywhere bytes_from stored in_memory opening register reg_write doorbell front took post ran_out admin_command admin start step run_of
returns-clause-number_of_queues_asked_for_late c = refl

pub returns-clause-number_of_queues_of_ffffh : goal.returns-clause-number_of_queues_of_ffffh
unfolding number_at dword qword bits bytes_of_dwords completion everywhere bytes_from stored in_memory opening register reg_write doorbell front took post ran_out admin_command admin start step run_of
returns-clause-number_of_queues_of_ffffh c = refl

pub returns-clause-number_of_queues_asked_for_early : goal.returns-clause-number_of_queues_asked_for_early
unfolding number_at dword qword bits bytes_of_dwords completion everywhere bytes_from stored in_memory opening register reg_write doorbell front took post ran_out admin_command admin start step run_of
returns-clause-number_of_queues_asked_for_early c = refl

pub returns-clause-number_of_queues_asked_for_behind_a_completion_queue : goal.returns-clause-number_of_queues_asked_for_behind_a_completion_queue
unfolding number_at dword qword bits bytes_of_dwords completion everywhere bytes_from stored in_memory opening register reg_write doorbell front took post ran_out admin_command admin start step run_of
returns-clause-number_of_queues_asked_for_behind_a_completion_queue c = refl

pub returns-clause-number_of_queues_asked_for_once_all_queues_are_gone : goal.returns-clause-number_of_queues_asked_for_once_all_queues_are_gone
unfolding number_at dword qword bits bytes_of_dwords completion everywhere bytes_from stored in_memory opening register reg_write doorbell front took post ran_out admin_command admin start step run_of
returns-clause-number_of_queues_asked_for_once_all_queues_are_gone c = refl

pub returns-clause-other_features : goal.returns-clause-other_features
unfolding number_at dword qword bits bytes_of_dwords completion everywhere bytes_from stored in_memory opening register reg_write doorbell front took post ran_out admin_command admin start step run_of
returns-clause-other_features c = refl

pub returns-clause-number_of_queues_got : goal.returns-clause-number_of_queues_got
unfolding number_at dword qword bits bytes_of_dwords completion everywhere bytes_from stored in_memory opening register reg_write doorbell front took post ran_out admin_command admin start step run_of
returns-clause-number_of_queues_got c = refl

pub returns-clause-abort_aborts_nothing : goal.returns-clause-abort_aborts_nothing
unfolding number_at dword qword bits bytes_of_dwords completion everywhere bytes_from stored in_memory opening register reg_write doorbell front took post ran_out admin_command admin start step run_of
returns-clause-abort_aborts_nothing c = refl

pub returns-clause-the_fifth_event_request : goal.returns-clause-the_fifth_event_request
unfolding number_at dword qword bits bytes_of_dwords completion everywhere bytes_from stored in_memory opening register reg_write doorbell front took post ran_out admin_command admin start step run_of
returns-clause-the_fifth_event_request c = refl

pub returns-clause-an_unknown_admin_opcode : goal.returns-clause-an_unknown_admin_opcode
unfolding number_at dword qword bits bytes_of_dwords completion everywhere bytes_from stored in_memory opening register reg_write doorbell front took post ran_out admin_command admin start step run_of
returns-clause-an_unknown_admin_opcode c = refl

pub returns-clause-fuse_then_opcode_then_psdt : goal.returns-clause-fuse_then_opcode_then_psdt
unfolding number_at dword qword bits bytes_of_dwords completion everywhere bytes_from stored in_memory opening register reg_write doorbell front took post ran_out admin_command admin start step run_of
returns-clause-fuse_then_opcode_then_psdt c = refl

pub returns-clause-the_checks_of_a_new_completion_queue : goal.returns-clause-the_checks_of_a_new_completion_queue
unfolding number_at dword qword bits bytes_of_dwords completion everywhere bytes_from stored in_memory opening register reg_write doorbell front took post ran_out admin_command admin start step run_of
returns-clause-the_checks_of_a_new_completion_queue c = refl

pub returns-clause-the_checks_of_a_new_submission_queue : goal.returns-clause-the_checks_of_a_new_submission_queue
unfolding number_at dword qword bits bytes_of_dwords completion everywhere bytes_from stored in_memory opening register reg_write doorbell front took post ran_out admin_command admin start step run_of
returns-clause-the_checks_of_a_new_submission_queue c = refl

pub returns-clause-the_vector_of_a_new_completion_queue : goal.returns-clause-the_vector_of_a_new_completion_queue
unfolding number_at dword qword bits bytes_of_dwords completion everywhere bytes_from stored in_memory opening register reg_write doorbell front took post ran_out admin_command admin start step run_of
returns-clause-the_vector_of_a_new_completion_queue c = refl
