use Rattle.std.proofs.Common.{refl}
use Rattle.nv_entry.specs.Layout.{number_at, dword, qword, bits, bytes_of_dwords}
use Rattle.nv_entry.specs.Completion.{completion}
use Rattle.nv_mem.specs.GuestMap.{everywhere}
use Rattle.nv_mem.specs.Places.{addresses}
use Rattle.nv_model.specs.Memory.{bytes_from, gathered, image, scattered, stored}
use Rattle.nv_model.specs.Dialogue.{in_memory, and_then}
use Rattle.nv_model.specs.Transcript.{first_read, in_transcript}
use Rattle.nv_model.specs.Sgl.{read_array, read_sgl}
use Rattle.nv_model.specs.Prp.{read_entries}
use Rattle.nv_model.specs.Judge.{read_source, ranges_in, move_units, clear_units, range_units, judge}
use Rattle.nv_model.specs.Controller.{opening, register, reg_write, doorbell, front, took, post, ran_out}
use Rattle.nv_model.specs.Admin.{admin_command, structure}
use Rattle.nv_prp.specs.Fits.{hosts_of, fit_behind}
use Rattle.nv_prp.specs.Built.{built}
use Rattle.nv_world_model.specs.Plan.{plan_over}
use Rattle.nv_world_model.specs.Area.{physical_entry}
use Rattle.nv_world_model.specs.World.{claimed}
use Rattle.nv_machine.specs.Doing.{tags_put}
use Rattle.nv_machine.specs.Machine.{called, fetch, fetch_then, handed_on, statuses_of}
use Rattle.nv_machine.proofs.rows.submits.Goals as goal

pub returns-clause-taken : goal.returns-clause-taken
unfolding number_at dword qword bits bytes_of_dwords completion everywhere addresses bytes_from gathered image scattered stored in_memory and_then
    first_read in_transcript read_array read_sgl read_entries read_source ranges_in move_units clear_units range_units judge opening register
    reg_write doorbell front took post ran_out admin_command structure hosts_of fit_behind built plan_over physical_entry claimed tags_put called
    fetch fetch_then handed_on statuses_of
returns-clause-taken c = refl

pub returns-clause-in_the_lowest_tag : goal.returns-clause-in_the_lowest_tag
unfolding number_at dword qword bits bytes_of_dwords completion everywhere addresses bytes_from gathered image scattered stored in_memory and_then
    first_read in_transcript read_array read_sgl read_entries read_source ranges_in move_units clear_units range_units judge opening register
    reg_write doorbell front took post ran_out admin_command structure hosts_of fit_behind built plan_over physical_entry claimed tags_put called
    fetch fetch_then handed_on statuses_of
returns-clause-in_the_lowest_tag c = refl

pub returns-clause-nothing_is_done_in_memory : goal.returns-clause-nothing_is_done_in_memory
unfolding number_at dword qword bits bytes_of_dwords completion everywhere addresses bytes_from gathered image scattered stored in_memory and_then
    first_read in_transcript read_array read_sgl read_entries read_source ranges_in move_units clear_units range_units judge opening register
    reg_write doorbell front took post ran_out admin_command structure hosts_of fit_behind built plan_over physical_entry claimed tags_put called
    fetch fetch_then handed_on statuses_of
returns-clause-nothing_is_done_in_memory c = refl

pub returns-clause-a_list_over_the_end_is_not_mapped : goal.returns-clause-a_list_over_the_end_is_not_mapped
unfolding number_at dword qword bits bytes_of_dwords completion everywhere addresses bytes_from gathered image scattered stored in_memory and_then
    first_read in_transcript read_array read_sgl read_entries read_source ranges_in move_units clear_units range_units judge opening register
    reg_write doorbell front took post ran_out admin_command structure hosts_of fit_behind built plan_over physical_entry claimed tags_put called
    fetch fetch_then handed_on statuses_of
returns-clause-a_list_over_the_end_is_not_mapped c = refl

pub returns-clause-and_changes_nothing : goal.returns-clause-and_changes_nothing
unfolding number_at dword qword bits bytes_of_dwords completion everywhere addresses bytes_from gathered image scattered stored in_memory and_then
    first_read in_transcript read_array read_sgl read_entries read_source ranges_in move_units clear_units range_units judge opening register
    reg_write doorbell front took post ran_out admin_command structure hosts_of fit_behind built plan_over physical_entry claimed tags_put called
    fetch fetch_then handed_on statuses_of
returns-clause-and_changes_nothing c = refl

pub returns-clause-a_read : goal.returns-clause-a_read
unfolding number_at dword qword bits bytes_of_dwords completion everywhere addresses bytes_from gathered image scattered stored in_memory and_then
    first_read in_transcript read_array read_sgl read_entries read_source ranges_in move_units clear_units range_units judge opening register
    reg_write doorbell front took post ran_out admin_command structure hosts_of fit_behind built plan_over physical_entry claimed tags_put called
    fetch fetch_then handed_on statuses_of
returns-clause-a_read c = refl

pub returns-clause-the_doorbell : goal.returns-clause-the_doorbell
unfolding number_at dword qword bits bytes_of_dwords completion everywhere addresses bytes_from gathered image scattered stored in_memory and_then
    first_read in_transcript read_array read_sgl read_entries read_source ranges_in move_units clear_units range_units judge opening register
    reg_write doorbell front took post ran_out admin_command structure hosts_of fit_behind built plan_over physical_entry claimed tags_put called
    fetch fetch_then handed_on statuses_of
returns-clause-the_doorbell c = refl

pub returns-clause-a_read_with_a_list : goal.returns-clause-a_read_with_a_list
unfolding number_at dword qword bits bytes_of_dwords completion everywhere addresses bytes_from gathered image scattered stored in_memory and_then
    first_read in_transcript read_array read_sgl read_entries read_source ranges_in move_units clear_units range_units judge opening register
    reg_write doorbell front took post ran_out admin_command structure hosts_of fit_behind built plan_over physical_entry claimed tags_put called
    fetch fetch_then handed_on statuses_of
returns-clause-a_read_with_a_list c = refl

pub returns-clause-a_bounced_write : goal.returns-clause-a_bounced_write
unfolding number_at dword qword bits bytes_of_dwords completion everywhere addresses bytes_from gathered image scattered stored in_memory and_then
    first_read in_transcript read_array read_sgl read_entries read_source ranges_in move_units clear_units range_units judge opening register
    reg_write doorbell front took post ran_out admin_command structure hosts_of fit_behind built plan_over physical_entry claimed tags_put called
    fetch fetch_then handed_on statuses_of
returns-clause-a_bounced_write c = refl

pub returns-clause-a_bounced_read : goal.returns-clause-a_bounced_read
unfolding number_at dword qword bits bytes_of_dwords completion everywhere addresses bytes_from gathered image scattered stored in_memory and_then
    first_read in_transcript read_array read_sgl read_entries read_source ranges_in move_units clear_units range_units judge opening register
    reg_write doorbell front took post ran_out admin_command structure hosts_of fit_behind built plan_over physical_entry claimed tags_put called
    fetch fetch_then handed_on statuses_of
returns-clause-a_bounced_read c = refl
