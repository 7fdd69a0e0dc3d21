use Rattle.std.proofs.Common.{refl}
use Rattle.nv_entry.specs.Layout.{number_at, dword, qword, bits, bytes_of_dwords}
use Rattle.nv_entry.specs.Completion.{completion}
use Rattle.nv_mem.specs.GuestMap.{everywhere}
use Rattle.nv_mem.specs.Places.{addresses}
use Rattle.nv_model.specs.Memory.{bytes_from, gathered, image, scattered, stored}
use Rattle.nv_model.specs.Dialogue.{in_memory, and_then}
use Rattle.nv_model.specs.Transcript.{first_read, in_transcript}
use Rattle.nv_model.specs.Sgl.{read_array, read_sgl}
use Rattle.nv_model.specs.Prp.{read_entries}
use Rattle.nv_model.specs.Judge.{read_source, ranges_in, move_units, clear_units, range_units, judge}
use Rattle.nv_model.specs.Controller.{opening, register, reg_write, doorbell, front, took, post, ran_out}
use Rattle.nv_model.specs.Admin.{admin_command, structure}
use Rattle.nv_prp.specs.Fits.{hosts_of, fit_behind}
use Rattle.nv_prp.specs.Built.{built}
use Rattle.nv_world_model.specs.Plan.{plan_over}
use Rattle.nv_world_model.specs.Area.{physical_entry}
use Rattle.nv_world_model.specs.World.{claimed}
use Rattle.nv_machine.specs.Doing.{tags_put}
use Rattle.nv_machine.specs.Machine.{called, fetch, fetch_then, handed_on, statuses_of}
use Rattle.nv_machine.proofs.rows.owners.Goals as goal

pub returns-clause-of_an_act : goal.returns-clause-of_an_act
unfolding number_at dword qword bits bytes_of_dwords completion everywhere addresses bytes_from gathered image scattered stored in_memory and_then
    first_read in_transcript read_array read_sgl read_entries read_source ranges_in move_units clear_units range_units judge opening register
    reg_write doorbell front took post ran_out admin_command structure hosts_of fit_behind built plan_over physical_entry claimed tags_put called
    fetch fetch_then handed_on statuses_of
returns-clause-of_an_act c = refl

pub returns-clause-of_an_admin_command : goal.returns-clause-of_an_admin_command
unfolding number_at dword qword bits bytes_of_dwords completion everywhere addresses bytes_from gathered image scattered stored in_memory and_then
    first_read in_transcript read_array read_sgl read_entries read_source ranges_in move_units clear_units range_units judge opening register
    reg_write doorbell front took post ran_out admin_command structure hosts_of fit_behind built plan_over physical_entry claimed tags_put called
    fetch fetch_then handed_on statuses_of
returns-clause-of_an_admin_command c = refl

pub returns-clause-of_a_take : goal.returns-clause-of_a_take
unfolding number_at dword qword bits bytes_of_dwords completion everywhere addresses bytes_from gathered image scattered stored in_memory and_then
    first_read in_transcript read_array read_sgl read_entries read_source ranges_in move_units clear_units range_units judge opening register
    reg_write doorbell front took post ran_out admin_command structure hosts_of fit_behind built plan_over physical_entry claimed tags_put called
    fetch fetch_then handed_on statuses_of
returns-clause-of_a_take c = refl

pub returns-clause-of_a_list : goal.returns-clause-of_a_list
unfolding number_at dword qword bits bytes_of_dwords completion everywhere addresses bytes_from gathered image scattered stored in_memory and_then
    first_read in_transcript read_array read_sgl read_entries read_source ranges_in move_units clear_units range_units judge opening register
    reg_write doorbell front took post ran_out admin_command structure hosts_of fit_behind built plan_over physical_entry claimed tags_put called
    fetch fetch_then handed_on statuses_of
returns-clause-of_a_list c = refl

pub returns-clause-of_a_submit : goal.returns-clause-of_a_submit
unfolding number_at dword qword bits bytes_of_dwords completion everywhere addresses bytes_from gathered image scattered stored in_memory and_then
    first_read in_transcript read_array read_sgl read_entries read_source ranges_in move_units clear_units range_units judge opening register
    reg_write doorbell front took post ran_out admin_command structure hosts_of fit_behind built plan_over physical_entry claimed tags_put called
    fetch fetch_then handed_on statuses_of
returns-clause-of_a_submit c = refl

pub returns-clause-of_one_given_up : goal.returns-clause-of_one_given_up
unfolding number_at dword qword bits bytes_of_dwords completion everywhere addresses bytes_from gathered image scattered stored in_memory and_then
    first_read in_transcript read_array read_sgl read_entries read_source ranges_in move_units clear_units range_units judge opening register
    reg_write doorbell front took post ran_out admin_command structure hosts_of fit_behind built plan_over physical_entry claimed tags_put called
    fetch fetch_then handed_on statuses_of
returns-clause-of_one_given_up c = refl

pub returns-clause-of_a_post : goal.returns-clause-of_a_post
unfolding number_at dword qword bits bytes_of_dwords completion everywhere addresses bytes_from gathered image scattered stored in_memory and_then
    first_read in_transcript read_array read_sgl read_entries read_source ranges_in move_units clear_units range_units judge opening register
    reg_write doorbell front took post ran_out admin_command structure hosts_of fit_behind built plan_over physical_entry claimed tags_put called
    fetch fetch_then handed_on statuses_of
returns-clause-of_a_post c = refl

pub returns-clause-of_a_free_tag : goal.returns-clause-of_a_free_tag
unfolding number_at dword qword bits bytes_of_dwords completion everywhere addresses bytes_from gathered image scattered stored in_memory and_then
    first_read in_transcript read_array read_sgl read_entries read_source ranges_in move_units clear_units range_units judge opening register
    reg_write doorbell front took post ran_out admin_command structure hosts_of fit_behind built plan_over physical_entry claimed tags_put called
    fetch fetch_then handed_on statuses_of
returns-clause-of_a_free_tag c = refl

pub returns-clause-of_a_reap : goal.returns-clause-of_a_reap
unfolding number_at dword qword bits bytes_of_dwords completion everywhere addresses bytes_from gathered image scattered stored in_memory and_then
    first_read in_transcript read_array read_sgl read_entries read_source ranges_in move_units clear_units range_units judge opening register
    reg_write doorbell front took post ran_out admin_command structure hosts_of fit_behind built plan_over physical_entry claimed tags_put called
    fetch fetch_then handed_on statuses_of
returns-clause-of_a_reap c = refl

pub returns-clause-of_a_reap_of_a_free_tag : goal.returns-clause-of_a_reap_of_a_free_tag
unfolding number_at dword qword bits bytes_of_dwords completion everywhere addresses bytes_from gathered image scattered stored in_memory and_then
    first_read in_transcript read_array read_sgl read_entries read_source ranges_in move_units clear_units range_units judge opening register
    reg_write doorbell front took post ran_out admin_command structure hosts_of fit_behind built plan_over physical_entry claimed tags_put called
    fetch fetch_then handed_on statuses_of
returns-clause-of_a_reap_of_a_free_tag c = refl
