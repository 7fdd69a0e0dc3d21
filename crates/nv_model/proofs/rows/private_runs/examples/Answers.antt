use Rattle.std.proofs.Common.{refl}
use Rattle.nv_entry.specs.Layout.{number_at, dword, qword, bits, bytes_of_dwords}
use Rattle.nv_entry.specs.Completion.{completion}
use Rattle.nv_mem.specs.GuestMap.{everywhere}
use Rattle.nv_mem.specs.Places.{addresses}
use Rattle.nv_model.specs.Memory.{bytes_from, stored, gathered, scattered}
use Rattle.nv_model.specs.Dialogue.{in_memory, and_then}
use Rattle.nv_model.specs.Sgl.{read_array, read_sgl}
use Rattle.nv_model.specs.Judge.{move_units, judge}
use Rattle.nv_model.specs.Controller.{opening, register, reg_write, doorbell, front, took, post, ran_out}
use Rattle.nv_model.specs.Admin.{admin_command, admin}
use Rattle.nv_model.specs.Private.{start, differs, step, run_of}
use Rattle.nv_model.proofs.rows.private_runs.examples.Goals as goal

pub returns-clause-the_entry_that_creates_a_completion_queue : goal.returns-clause-the_entry_that_creates_a_completion_queue
unfolding number_at dword qword bits bytes_of_dwords completion everywhere addresses bytes_from stored gathered scattered in_memory and_then read_array read_sgl
    move_units judge opening register reg_write doorbell front took post ran_out admin_command admin start differs step run_of
returns-clause-the_entry_that_creates_a_completion_queue c = refl

pub returns-clause-the_entry_that_creates_a_submission_queue : goal.returns-clause-the_entry_that_creates_a_submission_queue
unfolding number_at dword qword bits bytes_of_dwords completion everywhere addresses bytes_from stored gathered scattered in_memory and_then read_array read_sgl
    move_units judge opening register reg_write doorbell front took post ran_out admin_command admin start differs step run_of
returns-clause-the_entry_that_creates_a_submission_queue c = refl

pub returns-clause-each_act_of_the_bring_up_is_done : goal.returns-clause-each_act_of_the_bring_up_is_done
unfolding number_at dword qword bits bytes_of_dwords completion everywhere addresses bytes_from stored gathered scattered in_memory and_then read_array read_sgl
    move_units judge opening register reg_write doorbell front took post ran_out admin_command admin start differs step run_of
returns-clause-each_act_of_the_bring_up_is_done c = refl

pub returns-clause-the_bring_up_posts_two_completions : goal.returns-clause-the_bring_up_posts_two_completions
unfolding number_at dword qword bits bytes_of_dwords completion everywhere addresses bytes_from stored gathered scattered in_memory and_then read_array read_sgl
    move_units judge opening register reg_write doorbell front took post ran_out admin_command admin start differs step run_of
returns-clause-the_bring_up_posts_two_completions c = refl

pub returns-clause-the_first_example_is_completed : goal.returns-clause-the_first_example_is_completed
unfolding number_at dword qword bits bytes_of_dwords completion everywhere addresses bytes_from stored gathered scattered in_memory and_then read_array read_sgl
    move_units judge opening register reg_write doorbell front took post ran_out admin_command admin start differs step run_of
returns-clause-the_first_example_is_completed c = refl

pub returns-clause-the_first_example_reads_its_block : goal.returns-clause-the_first_example_reads_its_block
unfolding number_at dword qword bits bytes_of_dwords completion everywhere addresses bytes_from stored gathered scattered in_memory and_then read_array read_sgl
    move_units judge opening register reg_write doorbell front took post ran_out admin_command admin start differs step run_of
returns-clause-the_first_example_reads_its_block c = refl

pub returns-clause-a_command_that_is_given_up : goal.returns-clause-a_command_that_is_given_up
unfolding number_at dword qword bits bytes_of_dwords completion everywhere addresses bytes_from stored gathered scattered in_memory and_then read_array read_sgl
    move_units judge opening register reg_write doorbell front took post ran_out admin_command admin start differs step run_of
returns-clause-a_command_that_is_given_up c = refl

pub returns-clause-a_judged_command_is_not_given_up : goal.returns-clause-a_judged_command_is_not_given_up
unfolding number_at dword qword bits bytes_of_dwords completion everywhere addresses bytes_from stored gathered scattered in_memory and_then read_array read_sgl
    move_units judge opening register reg_write doorbell front took post ran_out admin_command admin start differs step run_of
returns-clause-a_judged_command_is_not_given_up c = refl

pub returns-clause-a_command_with_units_left_is_not_completed : goal.returns-clause-a_command_with_units_left_is_not_completed
unfolding number_at dword qword bits bytes_of_dwords completion everywhere addresses bytes_from stored gathered scattered in_memory and_then read_array read_sgl
    move_units judge opening register reg_write doorbell front took post ran_out admin_command admin start differs step run_of
returns-clause-a_command_with_units_left_is_not_completed c = refl

pub returns-clause-a_command_that_was_not_rung_is_not_taken : goal.returns-clause-a_command_that_was_not_rung_is_not_taken
unfolding number_at dword qword bits bytes_of_dwords completion everywhere addresses bytes_from stored gathered scattered in_memory and_then read_array read_sgl
    move_units judge opening register reg_write doorbell front took post ran_out admin_command admin start differs step run_of
returns-clause-a_command_that_was_not_rung_is_not_taken c = refl

pub returns-clause-a_write_that_is_completed_before_an_earlier_read : goal.returns-clause-a_write_that_is_completed_before_an_earlier_read
unfolding number_at dword qword bits bytes_of_dwords completion everywhere addresses bytes_from stored gathered scattered in_memory and_then read_array read_sgl
    move_units judge opening register reg_write doorbell front took post ran_out admin_command admin start differs step run_of
returns-clause-a_write_that_is_completed_before_an_earlier_read c = refl

pub returns-clause-a_read_gets_the_block_as_its_unit_found_it : goal.returns-clause-a_read_gets_the_block_as_its_unit_found_it
unfolding number_at dword qword bits bytes_of_dwords completion everywhere addresses bytes_from stored gathered scattered in_memory and_then read_array read_sgl
    move_units judge opening register reg_write doorbell front took post ran_out admin_command admin start differs step run_of
returns-clause-a_read_gets_the_block_as_its_unit_found_it c = refl

pub returns-clause-a_write_that_moves_last_stays : goal.returns-clause-a_write_that_moves_last_stays
unfolding number_at dword qword bits bytes_of_dwords completion everywhere addresses bytes_from stored gathered scattered in_memory and_then read_array read_sgl
    move_units judge opening register reg_write doorbell front took post ran_out admin_command admin start differs step run_of
returns-clause-a_write_that_moves_last_stays c = refl

pub returns-clause-a_completion_queue_of_two_slots_takes_one_completion : goal.returns-clause-a_completion_queue_of_two_slots_takes_one_completion
unfolding number_at dword qword bits bytes_of_dwords completion everywhere addresses bytes_from stored gathered scattered in_memory and_then read_array read_sgl
    move_units judge opening register reg_write doorbell front took post ran_out admin_command admin start differs step run_of
returns-clause-a_completion_queue_of_two_slots_takes_one_completion c = refl

pub returns-clause-a_full_completion_queue_holds_the_second : goal.returns-clause-a_full_completion_queue_holds_the_second
unfolding number_at dword qword bits bytes_of_dwords completion everywhere addresses bytes_from stored gathered scattered in_memory and_then read_array read_sgl
    move_units judge opening register reg_write doorbell front took post ran_out admin_command admin start differs step run_of
returns-clause-a_full_completion_queue_holds_the_second c = refl

pub returns-clause-a_full_completion_queue_holds_the_third : goal.returns-clause-a_full_completion_queue_holds_the_third
unfolding number_at dword qword bits bytes_of_dwords completion everywhere addresses bytes_from stored gathered scattered in_memory and_then read_array read_sgl
    move_units judge opening register reg_write doorbell front took post ran_out admin_command admin start differs step run_of
returns-clause-a_full_completion_queue_holds_the_third c = refl

pub returns-clause-a_head_doorbell_frees_a_slot : goal.returns-clause-a_head_doorbell_frees_a_slot
unfolding number_at dword qword bits bytes_of_dwords completion everywhere addresses bytes_from stored gathered scattered in_memory and_then read_array read_sgl
    move_units judge opening register reg_write doorbell front took post ran_out admin_command admin start differs step run_of
returns-clause-a_head_doorbell_frees_a_slot c = refl

pub returns-clause-behind_the_wrap_the_phase_tag_is_inverted : goal.returns-clause-behind_the_wrap_the_phase_tag_is_inverted
unfolding number_at dword qword bits bytes_of_dwords completion everywhere addresses bytes_from stored gathered scattered in_memory and_then read_array read_sgl
    move_units judge opening register reg_write doorbell front took post ran_out admin_command admin start differs step run_of
returns-clause-behind_the_wrap_the_phase_tag_is_inverted c = refl

pub returns-clause-a_reset_while_a_command_is_taken : goal.returns-clause-a_reset_while_a_command_is_taken
unfolding number_at dword qword bits bytes_of_dwords completion everywhere addresses bytes_from stored gathered scattered in_memory and_then read_array read_sgl
    move_units judge opening register reg_write doorbell front took post ran_out admin_command admin start differs step run_of
returns-clause-a_reset_while_a_command_is_taken c = refl

pub returns-clause-a_command_runs_out_after_a_reset : goal.returns-clause-a_command_runs_out_after_a_reset
unfolding number_at dword qword bits bytes_of_dwords completion everywhere addresses bytes_from stored gathered scattered in_memory and_then read_array read_sgl
    move_units judge opening register reg_write doorbell front took post ran_out admin_command admin start differs step run_of
returns-clause-a_command_runs_out_after_a_reset c = refl

pub returns-clause-after_a_reset_nothing_is_completed : goal.returns-clause-after_a_reset_nothing_is_completed
unfolding number_at dword qword bits bytes_of_dwords completion everywhere addresses bytes_from stored gathered scattered in_memory and_then read_array read_sgl
    move_units judge opening register reg_write doorbell front took post ran_out admin_command admin start differs step run_of
returns-clause-after_a_reset_nothing_is_completed c = refl

pub returns-clause-while_enabled_nothing_runs_out : goal.returns-clause-while_enabled_nothing_runs_out
unfolding number_at dword qword bits bytes_of_dwords completion everywhere addresses bytes_from stored gathered scattered in_memory and_then read_array read_sgl
    move_units judge opening register reg_write doorbell front took post ran_out admin_command admin start differs step run_of
returns-clause-while_enabled_nothing_runs_out c = refl

pub returns-clause-a_reset_with_no_command_taken : goal.returns-clause-a_reset_with_no_command_taken
unfolding number_at dword qword bits bytes_of_dwords completion everywhere addresses bytes_from stored gathered scattered in_memory and_then read_array read_sgl
    move_units judge opening register reg_write doorbell front took post ran_out admin_command admin start differs step run_of
returns-clause-a_reset_with_no_command_taken c = refl

pub returns-clause-a_block_may_become_kept : goal.returns-clause-a_block_may_become_kept
unfolding number_at dword qword bits bytes_of_dwords completion everywhere addresses bytes_from stored gathered scattered in_memory and_then read_array read_sgl
    move_units judge opening register reg_write doorbell front took post ran_out admin_command admin start differs step run_of
returns-clause-a_block_may_become_kept c = refl

pub returns-clause-no_block_behind_the_namespace_becomes_kept : goal.returns-clause-no_block_behind_the_namespace_becomes_kept
unfolding number_at dword qword bits bytes_of_dwords completion everywhere addresses bytes_from stored gathered scattered in_memory and_then read_array read_sgl
    move_units judge opening register reg_write doorbell front took post ran_out admin_command admin start differs step run_of
returns-clause-no_block_behind_the_namespace_becomes_kept c = refl

pub returns-clause-no_command_is_taken_from_the_admin_queue : goal.returns-clause-no_command_is_taken_from_the_admin_queue
unfolding number_at dword qword bits bytes_of_dwords completion everywhere addresses bytes_from stored gathered scattered in_memory and_then read_array read_sgl
    move_units judge opening register reg_write doorbell front took post ran_out admin_command admin start differs step run_of
returns-clause-no_command_is_taken_from_the_admin_queue c = refl

pub returns-clause-a_name_in_use_is_not_taken_again : goal.returns-clause-a_name_in_use_is_not_taken_again
unfolding number_at dword qword bits bytes_of_dwords completion everywhere addresses bytes_from stored gathered scattered in_memory and_then read_array read_sgl
    move_units judge opening register reg_write doorbell front took post ran_out admin_command admin start differs step run_of
returns-clause-a_name_in_use_is_not_taken_again c = refl

pub returns-clause-no_admin_command_before_bring_up : goal.returns-clause-no_admin_command_before_bring_up
unfolding number_at dword qword bits bytes_of_dwords completion everywhere addresses bytes_from stored gathered scattered in_memory and_then read_array read_sgl
    move_units judge opening register reg_write doorbell front took post ran_out admin_command admin start differs step run_of
returns-clause-no_admin_command_before_bring_up c = refl

pub returns-clause-no_admin_command_that_was_not_rung : goal.returns-clause-no_admin_command_that_was_not_rung
unfolding number_at dword qword bits bytes_of_dwords completion everywhere addresses bytes_from stored gathered scattered in_memory and_then read_array read_sgl
    move_units judge opening register reg_write doorbell front took post ran_out admin_command admin start differs step run_of
returns-clause-no_admin_command_that_was_not_rung c = refl

pub returns-clause-a_full_admin_completion_queue_holds_the_next_command : goal.returns-clause-a_full_admin_completion_queue_holds_the_next_command
unfolding number_at dword qword bits bytes_of_dwords completion everywhere addresses bytes_from stored gathered scattered in_memory and_then read_array read_sgl
    move_units judge opening register reg_write doorbell front took post ran_out admin_command admin start differs step run_of
returns-clause-a_full_admin_completion_queue_holds_the_next_command c = refl

pub returns-clause-an_admin_head_doorbell_frees_a_slot : goal.returns-clause-an_admin_head_doorbell_frees_a_slot
unfolding number_at dword qword bits bytes_of_dwords completion everywhere addresses bytes_from stored gathered scattered in_memory and_then read_array read_sgl
    move_units judge opening register reg_write doorbell front took post ran_out admin_command admin start differs step run_of
returns-clause-an_admin_head_doorbell_frees_a_slot c = refl

pub returns-clause-after_the_bring_up_the_controller_is_ready : goal.returns-clause-after_the_bring_up_the_controller_is_ready
unfolding number_at dword qword bits bytes_of_dwords completion everywhere addresses bytes_from stored gathered scattered in_memory and_then read_array read_sgl
    move_units judge opening register reg_write doorbell front took post ran_out admin_command admin start differs step run_of
returns-clause-after_the_bring_up_the_controller_is_ready c = refl

pub returns-clause-a_full_admin_completion_queue_holds_an_event_request : goal.returns-clause-a_full_admin_completion_queue_holds_an_event_request
unfolding number_at dword qword bits bytes_of_dwords completion everywhere addresses bytes_from stored gathered scattered in_memory and_then read_array read_sgl
    move_units judge opening register reg_write doorbell front took post ran_out admin_command admin start differs step run_of
returns-clause-a_full_admin_completion_queue_holds_an_event_request c = refl

pub returns-clause-two_submission_queues_share_a_completion_queue : goal.returns-clause-two_submission_queues_share_a_completion_queue
unfolding number_at dword qword bits bytes_of_dwords completion everywhere addresses bytes_from stored gathered scattered in_memory and_then read_array read_sgl
    move_units judge opening register reg_write doorbell front took post ran_out admin_command admin start differs step run_of
returns-clause-two_submission_queues_share_a_completion_queue c = refl

pub returns-clause-a_submission_queue_goes_round : goal.returns-clause-a_submission_queue_goes_round
unfolding number_at dword qword bits bytes_of_dwords completion everywhere addresses bytes_from stored gathered scattered in_memory and_then read_array read_sgl
    move_units judge opening register reg_write doorbell front took post ran_out admin_command admin start differs step run_of
returns-clause-a_submission_queue_goes_round c = refl

pub returns-clause-a_reset_drops_the_queues : goal.returns-clause-a_reset_drops_the_queues
unfolding number_at dword qword bits bytes_of_dwords completion everywhere addresses bytes_from stored gathered scattered in_memory and_then read_array read_sgl
    move_units judge opening register reg_write doorbell front took post ran_out admin_command admin start differs step run_of
returns-clause-a_reset_drops_the_queues c = refl

pub returns-clause-a_reset_drops_the_held_requests : goal.returns-clause-a_reset_drops_the_held_requests
unfolding number_at dword qword bits bytes_of_dwords completion everywhere addresses bytes_from stored gathered scattered in_memory and_then read_array read_sgl
    move_units judge opening register reg_write doorbell front took post ran_out admin_command admin start differs step run_of
returns-clause-a_reset_drops_the_held_requests c = refl

pub returns-clause-the_vectors_that_are_pending : goal.returns-clause-the_vectors_that_are_pending
unfolding number_at dword qword bits bytes_of_dwords completion everywhere addresses bytes_from stored gathered scattered in_memory and_then read_array read_sgl
    move_units judge opening register reg_write doorbell front took post ran_out admin_command admin start differs step run_of
returns-clause-the_vectors_that_are_pending c = refl
