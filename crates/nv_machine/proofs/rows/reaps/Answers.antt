use Rattle.std.proofs.Common.{refl}
use Rattle.nv_entry.specs.Layout.{number_at, dword, qword, bits, bytes_of_dwords}
use Rattle.nv_entry.specs.Completion.{completion}
use Rattle.nv_mem.specs.GuestMap.{everywhere}
use Rattle.nv_mem.specs.Places.{addresses}
use Rattle.nv_model.specs.Memory.{bytes_from, gathered, image, scattered, stored}
use Rattle.nv_model.specs.Dialogue.{in_memory, and_then}
use Rattle.nv_model.specs.Transcript.{first_read, in_transcript}
use Rattle.nv_model.specs.Sgl.{read_array, read_sgl}
use Rattle.nv_model.specs.Prp.{read_entries}
use Rattle.nv_model.specs.Judge.{read_source, ranges_in, move_units, clear_units, range_units, judge}
use Rattle.nv_model.specs.Controller.{opening, register, reg_write, doorbell, front, took, post, ran_out}
use Rattle.nv_model.specs.Admin.{admin_command, structure}
use Rattle.nv_prp.specs.Fits.{hosts_of, fit_behind}
use Rattle.nv_prp.specs.Built.{built}
use Rattle.nv_world_model.specs.Plan.{plan_over}
use Rattle.nv_world_model.specs.Area.{physical_entry}
use Rattle.nv_world_model.specs.World.{claimed}
use Rattle.nv_machine.specs.Doing.{tags_put}
use Rattle.nv_machine.specs.Machine.{called, fetch, fetch_then, handed_on, statuses_of}
use Rattle.nv_machine.proofs.rows.reaps.Goals as goal

pub returns-clause-an_old_phase_tag : goal.returns-clause-an_old_phase_tag
unfolding number_at dword qword bits bytes_of_dwords completion everywhere addresses bytes_from gathered image scattered stored in_memory and_then
    first_read in_transcript read_array read_sgl read_entries read_source ranges_in move_units clear_units range_units judge opening register
    reg_write doorbell front took post ran_out admin_command structure hosts_of fit_behind built plan_over physical_entry claimed tags_put called
    fetch fetch_then handed_on statuses_of
returns-clause-an_old_phase_tag c = refl

pub returns-clause-changes_nothing : goal.returns-clause-changes_nothing
unfolding number_at dword qword bits bytes_of_dwords completion everywhere addresses bytes_from gathered image scattered stored in_memory and_then
    first_read in_transcript read_array read_sgl read_entries read_source ranges_in move_units clear_units range_units judge opening register
    reg_write doorbell front took post ran_out admin_command structure hosts_of fit_behind built plan_over physical_entry claimed tags_put called
    fetch fetch_then handed_on statuses_of
returns-clause-changes_nothing c = refl

pub returns-clause-whatever_the_others_are : goal.returns-clause-whatever_the_others_are
unfolding number_at dword qword bits bytes_of_dwords completion everywhere addresses bytes_from gathered image scattered stored in_memory and_then
    first_read in_transcript read_array read_sgl read_entries read_source ranges_in move_units clear_units range_units judge opening register
    reg_write doorbell front took post ran_out admin_command structure hosts_of fit_behind built plan_over physical_entry claimed tags_put called
    fetch fetch_then handed_on statuses_of
returns-clause-whatever_the_others_are c = refl

pub returns-clause-a_completion : goal.returns-clause-a_completion
unfolding number_at dword qword bits bytes_of_dwords completion everywhere addresses bytes_from gathered image scattered stored in_memory and_then
    first_read in_transcript read_array read_sgl read_entries read_source ranges_in move_units clear_units range_units judge opening register
    reg_write doorbell front took post ran_out admin_command structure hosts_of fit_behind built plan_over physical_entry claimed tags_put called
    fetch fetch_then handed_on statuses_of
returns-clause-a_completion c = refl

pub returns-clause-ends_its_tag : goal.returns-clause-ends_its_tag
unfolding number_at dword qword bits bytes_of_dwords completion everywhere addresses bytes_from gathered image scattered stored in_memory and_then
    first_read in_transcript read_array read_sgl read_entries read_source ranges_in move_units clear_units range_units judge opening register
    reg_write doorbell front took post ran_out admin_command structure hosts_of fit_behind built plan_over physical_entry claimed tags_put called
    fetch fetch_then handed_on statuses_of
returns-clause-ends_its_tag c = refl

pub returns-clause-a_free_identifier : goal.returns-clause-a_free_identifier
unfolding number_at dword qword bits bytes_of_dwords completion everywhere addresses bytes_from gathered image scattered stored in_memory and_then
    first_read in_transcript read_array read_sgl read_entries read_source ranges_in move_units clear_units range_units judge opening register
    reg_write doorbell front took post ran_out admin_command structure hosts_of fit_behind built plan_over physical_entry claimed tags_put called
    fetch fetch_then handed_on statuses_of
returns-clause-a_free_identifier c = refl

pub returns-clause-a_free_identifier_changes_nothing : goal.returns-clause-a_free_identifier_changes_nothing
unfolding number_at dword qword bits bytes_of_dwords completion everywhere addresses bytes_from gathered image scattered stored in_memory and_then
    first_read in_transcript read_array read_sgl read_entries read_source ranges_in move_units clear_units range_units judge opening register
    reg_write doorbell front took post ran_out admin_command structure hosts_of fit_behind built plan_over physical_entry claimed tags_put called
    fetch fetch_then handed_on statuses_of
returns-clause-a_free_identifier_changes_nothing c = refl

pub returns-clause-no_identifier : goal.returns-clause-no_identifier
unfolding number_at dword qword bits bytes_of_dwords completion everywhere addresses bytes_from gathered image scattered stored in_memory and_then
    first_read in_transcript read_array read_sgl read_entries read_source ranges_in move_units clear_units range_units judge opening register
    reg_write doorbell front took post ran_out admin_command structure hosts_of fit_behind built plan_over physical_entry claimed tags_put called
    fetch fetch_then handed_on statuses_of
returns-clause-no_identifier c = refl

pub returns-clause-another_queue : goal.returns-clause-another_queue
unfolding number_at dword qword bits bytes_of_dwords completion everywhere addresses bytes_from gathered image scattered stored in_memory and_then
    first_read in_transcript read_array read_sgl read_entries read_source ranges_in move_units clear_units range_units judge opening register
    reg_write doorbell front took post ran_out admin_command structure hosts_of fit_behind built plan_over physical_entry claimed tags_put called
    fetch fetch_then handed_on statuses_of
returns-clause-another_queue c = refl

pub returns-clause-nothing_is_done_in_memory : goal.returns-clause-nothing_is_done_in_memory
unfolding number_at dword qword bits bytes_of_dwords completion everywhere addresses bytes_from gathered image scattered stored in_memory and_then
    first_read in_transcript read_array read_sgl read_entries read_source ranges_in move_units clear_units range_units judge opening register
    reg_write doorbell front took post ran_out admin_command structure hosts_of fit_behind built plan_over physical_entry claimed tags_put called
    fetch fetch_then handed_on statuses_of
returns-clause-nothing_is_done_in_memory c = refl

pub returns-clause-a_media_error : goal.returns-clause-a_media_error
unfolding number_at dword qword bits bytes_of_dwords completion everywhere addresses bytes_from gathered image scattered stored in_memory and_then
    first_read in_transcript read_array read_sgl read_entries read_source ranges_in move_units clear_units range_units judge opening register
    reg_write doorbell front took post ran_out admin_command structure hosts_of fit_behind built plan_over physical_entry claimed tags_put called
    fetch fetch_then handed_on statuses_of
returns-clause-a_media_error c = refl

pub returns-clause-another_error : goal.returns-clause-another_error
unfolding number_at dword qword bits bytes_of_dwords completion everywhere addresses bytes_from gathered image scattered stored in_memory and_then
    first_read in_transcript read_array read_sgl read_entries read_source ranges_in move_units clear_units range_units judge opening register
    reg_write doorbell front took post ran_out admin_command structure hosts_of fit_behind built plan_over physical_entry claimed tags_put called
    fetch fetch_then handed_on statuses_of
returns-clause-another_error c = refl
