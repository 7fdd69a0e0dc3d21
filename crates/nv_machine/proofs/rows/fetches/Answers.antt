use Rattle.std.proofs.Common.{refl}
use Rattle.nv_entry.specs.Layout.{number_at, dword, qword, bits, bytes_of_dwords}
use Rattle.nv_entry.specs.Completion.{completion}
use Rattle.nv_mem.specs.GuestMap.{everywhere}
use Rattle.nv_mem.specs.Places.{addresses}
use Rattle.nv_model.specs.Memory.{bytes_from, gathered, image, scattered, stored}
use Rattle.nv_model.specs.Dialogue.{in_memory, and_then}
use Rattle.nv_model.specs.Transcript.{first_read, in_transcript}
use Rattle.nv_model.specs.Sgl.{read_array, read_sgl}
use Rattle.nv_model.specs.Prp.{read_entries}
use Rattle.nv_model.specs.Judge.{read_source, ranges_in, move_units, clear_units, range_units, judge}
use Rattle.nv_model.specs.Controller.{opening, register, reg_write, doorbell, front, took, post, ran_out}
use Rattle.nv_model.specs.Admin.{admin_command, structure}
use Rattle.nv_prp.specs.Fits.{hosts_of, fit_behind}
use Rattle.nv_prp.specs.Built.{built}
use Rattle.nv_world_model.specs.Plan.{plan_over}
use Rattle.nv_world_model.specs.Area.{physical_entry}
use Rattle.nv_world_model.specs.World.{claimed}
use Rattle.nv_machine.specs.Doing.{tags_put}
use Rattle.nv_machine.specs.Machine.{called, fetch, fetch_then, handed_on, statuses_of}
use Rattle.nv_machine.proofs.rows.fetches.Goals as goal

pub returns-clause-an_entry : goal.returns-clause-an_entry
unfolding number_at dword qword bits bytes_of_dwords completion everywhere addresses bytes_from gathered image scattered stored in_memory and_then
    first_read in_transcript read_array read_sgl read_entries read_source ranges_in move_units clear_units range_units judge opening register
    reg_write doorbell front took post ran_out admin_command structure hosts_of fit_behind built plan_over physical_entry claimed tags_put called
    fetch fetch_then handed_on statuses_of
returns-clause-an_entry c = refl

pub returns-clause-an_entry_alone : goal.returns-clause-an_entry_alone
unfolding number_at dword qword bits bytes_of_dwords completion everywhere addresses bytes_from gathered image scattered stored in_memory and_then
    first_read in_transcript read_array read_sgl read_entries read_source ranges_in move_units clear_units range_units judge opening register
    reg_write doorbell front took post ran_out admin_command structure hosts_of fit_behind built plan_over physical_entry claimed tags_put called
    fetch fetch_then handed_on statuses_of
returns-clause-an_entry_alone c = refl

pub returns-clause-no_entry : goal.returns-clause-no_entry
unfolding number_at dword qword bits bytes_of_dwords completion everywhere addresses bytes_from gathered image scattered stored in_memory and_then
    first_read in_transcript read_array read_sgl read_entries read_source ranges_in move_units clear_units range_units judge opening register
    reg_write doorbell front took post ran_out admin_command structure hosts_of fit_behind built plan_over physical_entry claimed tags_put called
    fetch fetch_then handed_on statuses_of
returns-clause-no_entry c = refl

pub returns-clause-what_a_guest_loads : goal.returns-clause-what_a_guest_loads
unfolding number_at dword qword bits bytes_of_dwords completion everywhere addresses bytes_from gathered image scattered stored in_memory and_then
    first_read in_transcript read_array read_sgl read_entries read_source ranges_in move_units clear_units range_units judge opening register
    reg_write doorbell front took post ran_out admin_command structure hosts_of fit_behind built plan_over physical_entry claimed tags_put called
    fetch fetch_then handed_on statuses_of
returns-clause-what_a_guest_loads c = refl

pub returns-clause-no_list_over_the_end : goal.returns-clause-no_list_over_the_end
unfolding number_at dword qword bits bytes_of_dwords completion everywhere addresses bytes_from gathered image scattered stored in_memory and_then
    first_read in_transcript read_array read_sgl read_entries read_source ranges_in move_units clear_units range_units judge opening register
    reg_write doorbell front took post ran_out admin_command structure hosts_of fit_behind built plan_over physical_entry claimed tags_put called
    fetch fetch_then handed_on statuses_of
returns-clause-no_list_over_the_end c = refl

pub returns-clause-a_list_to_the_end : goal.returns-clause-a_list_to_the_end
unfolding number_at dword qword bits bytes_of_dwords completion everywhere addresses bytes_from gathered image scattered stored in_memory and_then
    first_read in_transcript read_array read_sgl read_entries read_source ranges_in move_units clear_units range_units judge opening register
    reg_write doorbell front took post ran_out admin_command structure hosts_of fit_behind built plan_over physical_entry claimed tags_put called
    fetch fetch_then handed_on statuses_of
returns-clause-a_list_to_the_end c = refl

pub returns-clause-a_phase_tag : goal.returns-clause-a_phase_tag
unfolding number_at dword qword bits bytes_of_dwords completion everywhere addresses bytes_from gathered image scattered stored in_memory and_then
    first_read in_transcript read_array read_sgl read_entries read_source ranges_in move_units clear_units range_units judge opening register
    reg_write doorbell front took post ran_out admin_command structure hosts_of fit_behind built plan_over physical_entry claimed tags_put called
    fetch fetch_then handed_on statuses_of
returns-clause-a_phase_tag c = refl

pub returns-clause-nothing_of_an_old_completion : goal.returns-clause-nothing_of_an_old_completion
unfolding number_at dword qword bits bytes_of_dwords completion everywhere addresses bytes_from gathered image scattered stored in_memory and_then
    first_read in_transcript read_array read_sgl read_entries read_source ranges_in move_units clear_units range_units judge opening register
    reg_write doorbell front took post ran_out admin_command structure hosts_of fit_behind built plan_over physical_entry claimed tags_put called
    fetch fetch_then handed_on statuses_of
returns-clause-nothing_of_an_old_completion c = refl

pub returns-clause-the_rest_of_a_new_one : goal.returns-clause-the_rest_of_a_new_one
unfolding number_at dword qword bits bytes_of_dwords completion everywhere addresses bytes_from gathered image scattered stored in_memory and_then
    first_read in_transcript read_array read_sgl read_entries read_source ranges_in move_units clear_units range_units judge opening register
    reg_write doorbell front took post ran_out admin_command structure hosts_of fit_behind built plan_over physical_entry claimed tags_put called
    fetch fetch_then handed_on statuses_of
returns-clause-the_rest_of_a_new_one c = refl

pub returns-clause-an_admin_command : goal.returns-clause-an_admin_command
unfolding number_at dword qword bits bytes_of_dwords completion everywhere addresses bytes_from gathered image scattered stored in_memory and_then
    first_read in_transcript read_array read_sgl read_entries read_source ranges_in move_units clear_units range_units judge opening register
    reg_write doorbell front took post ran_out admin_command structure hosts_of fit_behind built plan_over physical_entry claimed tags_put called
    fetch fetch_then handed_on statuses_of
returns-clause-an_admin_command c = refl

pub returns-clause-no_submit : goal.returns-clause-no_submit
unfolding number_at dword qword bits bytes_of_dwords completion everywhere addresses bytes_from gathered image scattered stored in_memory and_then
    first_read in_transcript read_array read_sgl read_entries read_source ranges_in move_units clear_units range_units judge opening register
    reg_write doorbell front took post ran_out admin_command structure hosts_of fit_behind built plan_over physical_entry claimed tags_put called
    fetch fetch_then handed_on statuses_of
returns-clause-no_submit c = refl

pub returns-clause-no_post : goal.returns-clause-no_post
unfolding number_at dword qword bits bytes_of_dwords completion everywhere addresses bytes_from gathered image scattered stored in_memory and_then
    first_read in_transcript read_array read_sgl read_entries read_source ranges_in move_units clear_units range_units judge opening register
    reg_write doorbell front took post ran_out admin_command structure hosts_of fit_behind built plan_over physical_entry claimed tags_put called
    fetch fetch_then handed_on statuses_of
returns-clause-no_post c = refl

pub returns-clause-nothing_in_another_pass : goal.returns-clause-nothing_in_another_pass
unfolding number_at dword qword bits bytes_of_dwords completion everywhere addresses bytes_from gathered image scattered stored in_memory and_then
    first_read in_transcript read_array read_sgl read_entries read_source ranges_in move_units clear_units range_units judge opening register
    reg_write doorbell front took post ran_out admin_command structure hosts_of fit_behind built plan_over physical_entry claimed tags_put called
    fetch fetch_then handed_on statuses_of
returns-clause-nothing_in_another_pass c = refl

pub returns-clause-the_rest_in_another_pass : goal.returns-clause-the_rest_in_another_pass
unfolding number_at dword qword bits bytes_of_dwords completion everywhere addresses bytes_from gathered image scattered stored in_memory and_then
    first_read in_transcript read_array read_sgl read_entries read_source ranges_in move_units clear_units range_units judge opening register
    reg_write doorbell front took post ran_out admin_command structure hosts_of fit_behind built plan_over physical_entry claimed tags_put called
    fetch fetch_then handed_on statuses_of
returns-clause-the_rest_in_another_pass c = refl

pub returns-clause-no_take_of_admin_commands : goal.returns-clause-no_take_of_admin_commands
unfolding number_at dword qword bits bytes_of_dwords completion everywhere addresses bytes_from gathered image scattered stored in_memory and_then
    first_read in_transcript read_array read_sgl read_entries read_source ranges_in move_units clear_units range_units judge opening register
    reg_write doorbell front took post ran_out admin_command structure hosts_of fit_behind built plan_over physical_entry claimed tags_put called
    fetch fetch_then handed_on statuses_of
returns-clause-no_take_of_admin_commands c = refl

pub returns-clause-no_admin_command : goal.returns-clause-no_admin_command
unfolding number_at dword qword bits bytes_of_dwords completion everywhere addresses bytes_from gathered image scattered stored in_memory and_then
    first_read in_transcript read_array read_sgl read_entries read_source ranges_in move_units clear_units range_units judge opening register
    reg_write doorbell front took post ran_out admin_command structure hosts_of fit_behind built plan_over physical_entry claimed tags_put called
    fetch fetch_then handed_on statuses_of
returns-clause-no_admin_command c = refl
