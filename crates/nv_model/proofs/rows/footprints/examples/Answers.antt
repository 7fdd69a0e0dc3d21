use Rattle.std.proofs.Common.{refl}
use Rattle.nv_entry.specs.Layout.{number_at, dword, qword, bits, bytes_of_dwords}
use Rattle.nv_entry.specs.Completion.{completion}
use Rattle.nv_mem.specs.GuestMap.{everywhere}
use Rattle.nv_mem.specs.Places.{addresses}
use Rattle.nv_model.specs.Memory.{bytes_from, stored, gathered, scattered}
use Rattle.nv_model.specs.Dialogue.{in_memory, asked, and_then}
use Rattle.nv_model.specs.Sgl.{read_array, read_sgl}
use Rattle.nv_model.specs.Prp.{read_entries}
use Rattle.nv_model.specs.Judge.{read_source, ranges_in, move_units, clear_units, range_units, judge}
use Rattle.nv_model.specs.Controller.{opening, register, reg_write, doorbell, front, took, post, ran_out}
use Rattle.nv_model.specs.Admin.{admin_command, admin}
use Rattle.nv_model.specs.Footprint.{footprints}
use Rattle.nv_model.specs.Private.{start, differs, step, run_of}
use Rattle.nv_model.proofs.rows.footprints.examples.Goals as goal

pub returns-clause-a_command_that_is_not_rung_names_nothing : goal.returns-clause-a_command_that_is_not_rung_names_nothing
unfolding number_at dword qword bits bytes_of_dwords completion everywhere addresses bytes_from stored gathered scattered in_memory asked and_then read_array
    read_sgl read_entries read_source ranges_in move_units clear_units range_units judge opening register reg_write doorbell front took post ran_out
    admin_command admin footprints start differs step run_of
returns-clause-a_command_that_is_not_rung_names_nothing c = refl

pub returns-clause-a_command_that_is_not_taken_names_its_entry : goal.returns-clause-a_command_that_is_not_taken_names_its_entry
unfolding number_at dword qword bits bytes_of_dwords completion everywhere addresses bytes_from stored gathered scattered in_memory asked and_then read_array
    read_sgl read_entries read_source ranges_in move_units clear_units range_units judge opening register reg_write doorbell front took post ran_out
    admin_command admin footprints start differs step run_of
returns-clause-a_command_that_is_not_taken_names_its_entry c = refl

pub returns-clause-a_taken_command_names_its_buffer : goal.returns-clause-a_taken_command_names_its_buffer
unfolding number_at dword qword bits bytes_of_dwords completion everywhere addresses bytes_from stored gathered scattered in_memory asked and_then read_array
    read_sgl read_entries read_source ranges_in move_units clear_units range_units judge opening register reg_write doorbell front took post ran_out
    admin_command admin footprints start differs step run_of
returns-clause-a_taken_command_names_its_buffer c = refl

pub returns-clause-an_ended_command_names_its_buffer : goal.returns-clause-an_ended_command_names_its_buffer
unfolding number_at dword qword bits bytes_of_dwords completion everywhere addresses bytes_from stored gathered scattered in_memory asked and_then read_array
    read_sgl read_entries read_source ranges_in move_units clear_units range_units judge opening register reg_write doorbell front took post ran_out
    admin_command admin footprints start differs step run_of
returns-clause-an_ended_command_names_its_buffer c = refl

pub returns-clause-a_completed_command_names_nothing : goal.returns-clause-a_completed_command_names_nothing
unfolding number_at dword qword bits bytes_of_dwords completion everywhere addresses bytes_from stored gathered scattered in_memory asked and_then read_array
    read_sgl read_entries read_source ranges_in move_units clear_units range_units judge opening register reg_write doorbell front took post ran_out
    admin_command admin footprints start differs step run_of
returns-clause-a_completed_command_names_nothing c = refl

pub returns-clause-a_list_is_named_by_its_descriptors : goal.returns-clause-a_list_is_named_by_its_descriptors
unfolding number_at dword qword bits bytes_of_dwords completion everywhere addresses bytes_from stored gathered scattered in_memory asked and_then read_array
    read_sgl read_entries read_source ranges_in move_units clear_units range_units judge opening register reg_write doorbell front took post ran_out
    admin_command admin footprints start differs step run_of
returns-clause-a_list_is_named_by_its_descriptors c = refl

pub returns-clause-a_refused_command_has_no_buffer : goal.returns-clause-a_refused_command_has_no_buffer
unfolding number_at dword qword bits bytes_of_dwords completion everywhere addresses bytes_from stored gathered scattered in_memory asked and_then read_array
    read_sgl read_entries read_source ranges_in move_units clear_units range_units judge opening register reg_write doorbell front took post ran_out
    admin_command admin footprints start differs step run_of
returns-clause-a_refused_command_has_no_buffer c = refl

pub returns-clause-the_buffer_of_a_write_is_a_source : goal.returns-clause-the_buffer_of_a_write_is_a_source
unfolding number_at dword qword bits bytes_of_dwords completion everywhere addresses bytes_from stored gathered scattered in_memory asked and_then read_array
    read_sgl read_entries read_source ranges_in move_units clear_units range_units judge opening register reg_write doorbell front took post ran_out
    admin_command admin footprints start differs step run_of
returns-clause-the_buffer_of_a_write_is_a_source c = refl

pub returns-clause-the_ranges_are_read_and_are_a_source : goal.returns-clause-the_ranges_are_read_and_are_a_source
unfolding number_at dword qword bits bytes_of_dwords completion everywhere addresses bytes_from stored gathered scattered in_memory asked and_then read_array
    read_sgl read_entries read_source ranges_in move_units clear_units range_units judge opening register reg_write doorbell front took post ran_out
    admin_command admin footprints start differs step run_of
returns-clause-the_ranges_are_read_and_are_a_source c = refl

pub returns-clause-a_prp_list_is_named_by_its_slots : goal.returns-clause-a_prp_list_is_named_by_its_slots
unfolding number_at dword qword bits bytes_of_dwords completion everywhere addresses bytes_from stored gathered scattered in_memory asked and_then read_array
    read_sgl read_entries read_source ranges_in move_units clear_units range_units judge opening register reg_write doorbell front took post ran_out
    admin_command admin footprints start differs step run_of
returns-clause-a_prp_list_is_named_by_its_slots c = refl

pub returns-clause-an_identify_names_its_destination : goal.returns-clause-an_identify_names_its_destination
unfolding number_at dword qword bits bytes_of_dwords completion everywhere addresses bytes_from stored gathered scattered in_memory asked and_then read_array
    read_sgl read_entries read_source ranges_in move_units clear_units range_units judge opening register reg_write doorbell front took post ran_out
    admin_command admin footprints start differs step run_of
returns-clause-an_identify_names_its_destination c = refl

pub returns-clause-a_refused_identify_names_its_entry : goal.returns-clause-a_refused_identify_names_its_entry
unfolding number_at dword qword bits bytes_of_dwords completion everywhere addresses bytes_from stored gathered scattered in_memory asked and_then read_array
    read_sgl read_entries read_source ranges_in move_units clear_units range_units judge opening register reg_write doorbell front took post ran_out
    admin_command admin footprints start differs step run_of
returns-clause-a_refused_identify_names_its_entry c = refl

pub returns-clause-other_admin_commands_name_their_entries : goal.returns-clause-other_admin_commands_name_their_entries
unfolding number_at dword qword bits bytes_of_dwords completion everywhere addresses bytes_from stored gathered scattered in_memory asked and_then read_array
    read_sgl read_entries read_source ranges_in move_units clear_units range_units judge opening register reg_write doorbell front took post ran_out
    admin_command admin footprints start differs step run_of
returns-clause-other_admin_commands_name_their_entries c = refl

pub returns-clause-untaken_commands_of_a_closing_queue_name_nothing : goal.returns-clause-untaken_commands_of_a_closing_queue_name_nothing
unfolding number_at dword qword bits bytes_of_dwords completion everywhere addresses bytes_from stored gathered scattered in_memory asked and_then read_array
    read_sgl read_entries read_source ranges_in move_units clear_units range_units judge opening register reg_write doorbell front took post ran_out
    admin_command admin footprints start differs step run_of
returns-clause-untaken_commands_of_a_closing_queue_name_nothing c = refl

pub returns-clause-a_fused_identify_names_its_entry : goal.returns-clause-a_fused_identify_names_its_entry
unfolding number_at dword qword bits bytes_of_dwords completion everywhere addresses bytes_from stored gathered scattered in_memory asked and_then read_array
    read_sgl read_entries read_source ranges_in move_units clear_units range_units judge opening register reg_write doorbell front took post ran_out
    admin_command admin footprints start differs step run_of
returns-clause-a_fused_identify_names_its_entry c = refl

pub returns-clause-an_identify_with_a_list_names_its_entry : goal.returns-clause-an_identify_with_a_list_names_its_entry
unfolding number_at dword qword bits bytes_of_dwords completion everywhere addresses bytes_from stored gathered scattered in_memory asked and_then read_array
    read_sgl read_entries read_source ranges_in move_units clear_units range_units judge opening register reg_write doorbell front took post ran_out
    admin_command admin footprints start differs step run_of
returns-clause-an_identify_with_a_list_names_its_entry c = refl
