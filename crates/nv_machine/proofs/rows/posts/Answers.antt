use Rattle.std.proofs.Common.{refl}
use Rattle.nv_entry.specs.Layout.{number_at, dword, qword, bits, bytes_of_dwords}
use Rattle.nv_entry.specs.Completion.{completion}
use Rattle.nv_mem.specs.GuestMap.{everywhere}
use Rattle.nv_mem.specs.Places.{addresses}
use Rattle.nv_model.specs.Memory.{bytes_from, gathered, image, scattered, stored}
use Rattle.nv_model.specs.Dialogue.{in_memory, and_then}
use Rattle.nv_model.specs.Transcript.{first_read, in_transcript}
use Rattle.nv_model.specs.Sgl.{read_array, read_sgl}
use Rattle.nv_model.specs.Prp.{read_entries}
use Rattle.nv_model.specs.Judge.{read_source, ranges_in, move_units, clear_units, range_units, judge}
use Rattle.nv_model.specs.Controller.{opening, register, reg_write, doorbell, front, took, post, ran_out}
use Rattle.nv_model.specs.Admin.{admin_command, structure}
use Rattle.nv_prp.specs.Fits.{hosts_of, fit_behind}
use Rattle.nv_prp.specs.Built.{built}
use Rattle.nv_world_model.specs.Plan.{plan_over}
use Rattle.nv_world_model.specs.Area.{physical_entry}
use Rattle.nv_world_model.specs.World.{claimed}
use Rattle.nv_machine.specs.Doing.{tags_put}
use Rattle.nv_machine.specs.Machine.{called, fetch, fetch_then, handed_on, statuses_of}
use Rattle.nv_machine.proofs.rows.posts.Goals as goal

pub returns-clause-a_read : goal.returns-clause-a_read
unfolding number_at dword qword bits bytes_of_dwords completion everywhere addresses bytes_from gathered image scattered stored in_memory and_then
    first_read in_transcript read_array read_sgl read_entries read_source ranges_in move_units clear_units range_units judge opening register
    reg_write doorbell front took post ran_out admin_command structure hosts_of fit_behind built plan_over physical_entry claimed tags_put called
    fetch fetch_then handed_on statuses_of
returns-clause-a_read c = refl

pub returns-clause-a_failed_read : goal.returns-clause-a_failed_read
unfolding number_at dword qword bits bytes_of_dwords completion everywhere addresses bytes_from gathered image scattered stored in_memory and_then
    first_read in_transcript read_array read_sgl read_entries read_source ranges_in move_units clear_units range_units judge opening register
    reg_write doorbell front took post ran_out admin_command structure hosts_of fit_behind built plan_over physical_entry claimed tags_put called
    fetch fetch_then handed_on statuses_of
returns-clause-a_failed_read c = refl

pub returns-clause-the_tag_is_free : goal.returns-clause-the_tag_is_free
unfolding number_at dword qword bits bytes_of_dwords completion everywhere addresses bytes_from gathered image scattered stored in_memory and_then
    first_read in_transcript read_array read_sgl read_entries read_source ranges_in move_units clear_units range_units judge opening register
    reg_write doorbell front took post ran_out admin_command structure hosts_of fit_behind built plan_over physical_entry claimed tags_put called
    fetch fetch_then handed_on statuses_of
returns-clause-the_tag_is_free c = refl

pub returns-clause-held : goal.returns-clause-held
unfolding number_at dword qword bits bytes_of_dwords completion everywhere addresses bytes_from gathered image scattered stored in_memory and_then
    first_read in_transcript read_array read_sgl read_entries read_source ranges_in move_units clear_units range_units judge opening register
    reg_write doorbell front took post ran_out admin_command structure hosts_of fit_behind built plan_over physical_entry claimed tags_put called
    fetch fetch_then handed_on statuses_of
returns-clause-held c = refl

pub returns-clause-held_in_memory : goal.returns-clause-held_in_memory
unfolding number_at dword qword bits bytes_of_dwords completion everywhere addresses bytes_from gathered image scattered stored in_memory and_then
    first_read in_transcript read_array read_sgl read_entries read_source ranges_in move_units clear_units range_units judge opening register
    reg_write doorbell front took post ran_out admin_command structure hosts_of fit_behind built plan_over physical_entry claimed tags_put called
    fetch fetch_then handed_on statuses_of
returns-clause-held_in_memory c = refl

pub returns-clause-held_on_the_side : goal.returns-clause-held_on_the_side
unfolding number_at dword qword bits bytes_of_dwords completion everywhere addresses bytes_from gathered image scattered stored in_memory and_then
    first_read in_transcript read_array read_sgl read_entries read_source ranges_in move_units clear_units range_units judge opening register
    reg_write doorbell front took post ran_out admin_command structure hosts_of fit_behind built plan_over physical_entry claimed tags_put called
    fetch fetch_then handed_on statuses_of
returns-clause-held_on_the_side c = refl

pub returns-clause-an_identify : goal.returns-clause-an_identify
unfolding number_at dword qword bits bytes_of_dwords completion everywhere addresses bytes_from gathered image scattered stored in_memory and_then
    first_read in_transcript read_array read_sgl read_entries read_source ranges_in move_units clear_units range_units judge opening register
    reg_write doorbell front took post ran_out admin_command structure hosts_of fit_behind built plan_over physical_entry claimed tags_put called
    fetch fetch_then handed_on statuses_of
returns-clause-an_identify c = refl
