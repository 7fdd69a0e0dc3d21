use Rattle.std.proofs.Common.{refl}
use Rattle.nv_entry.specs.Layout.{number_at, dword, qword, bits, bytes_of_dwords}
use Rattle.nv_entry.specs.Completion.{completion}
use Rattle.nv_mem.specs.GuestMap.{everywhere}
use Rattle.nv_mem.specs.Places.{addresses}
use Rattle.nv_model.specs.Memory.{bytes_from, gathered, image, put_image, scattered, stored}
use Rattle.nv_model.specs.Dialogue.{in_memory, and_then}
use Rattle.nv_model.specs.Transcript.{first_read, in_transcript}
use Rattle.nv_model.specs.Sgl.{read_array, read_sgl}
use Rattle.nv_model.specs.Prp.{read_entries}
use Rattle.nv_model.specs.Judge.{read_source, ranges_in, move_units, clear_units, range_units, judge}
use Rattle.nv_model.specs.Carried.{units_moved}
use Rattle.nv_model.specs.Controller.{opening, register, reg_write, doorbell, front, took, post, ran_out}
use Rattle.nv_model.specs.Private.{differs}
use Rattle.nv_prp.specs.Fits.{hosts_of, fit_behind}
use Rattle.nv_prp.specs.Built.{built}
use Rattle.nv_world_model.specs.Plan.{plan_over}
use Rattle.nv_world_model.specs.Area.{physical_entry}
use Rattle.nv_world_model.specs.Device.{held_of, device_unit, completion_written}
use Rattle.nv_world_model.specs.ShareArea.{share_written}
use Rattle.nv_world_model.specs.World.{with_tags, group, claimed}
use Rattle.nv_world_model.specs.Seat.{units_behind, rest_at, rests_of, members, seat, put_back}
use Rattle.nv_world_model.specs.Step.{acted_in, administered_in, taken_to, listed, submitted, handed_on, device_took, device_moved}
use Rattle.nv_world_model.specs.Step.{device_posted, kept_block, reaped, scattered_to, delivered_all, posted_to, ran_out_of, statuses_of}
use Rattle.nv_world_model.specs.Step.{step, replay, replies}
use Rattle.nv_model.specs.Admin.{admin_command, admin}
use Rattle.nv_world_model.specs.CutDown.{cut}
use Rattle.nv_world_model.specs.Contained.{guest_standing}
use Rattle.nv_world_model.specs.View.{shown, shared_numbers}
use Rattle.nv_world_model.specs.Headline.{AreContained}
use Rattle.nv_world_model.specs.RowsSteps.{logged}
use Rattle.nv_world_model.specs.PrivateSteps.{private_steps, seen_by}
use Rattle.nv_world_model.specs.Headline.{none_failed}
use Rattle.nv_world_model.specs.World.{opening_world}
use Rattle.nv_examples.proofs.words_of_worlds.starts.Goals as goal

pub returns-clause-no_mark : goal.returns-clause-no_mark
unfolding number_at dword qword bits bytes_of_dwords completion everywhere addresses bytes_from stored gathered scattered image in_memory and_then
    first_read in_transcript read_array read_sgl read_entries read_source ranges_in move_units clear_units range_units judge units_moved opening
    register reg_write doorbell front took post ran_out differs hosts_of fit_behind built plan_over physical_entry held_of device_unit
    completion_written share_written with_tags group claimed put_image units_behind rest_at rests_of members seat put_back acted_in administered_in
    taken_to listed submitted handed_on device_took device_moved device_posted kept_block reaped scattered_to delivered_all posted_to ran_out_of
    statuses_of step replay replies admin_command admin cut shown shared_numbers guest_standing AreContained logged private_steps seen_by none_failed
    opening_world
returns-clause-no_mark c = refl

pub returns-clause-zero_blocks : goal.returns-clause-zero_blocks
unfolding number_at dword qword bits bytes_of_dwords completion everywhere addresses bytes_from stored gathered scattered image in_memory and_then
    first_read in_transcript read_array read_sgl read_entries read_source ranges_in move_units clear_units range_units judge units_moved opening
    register reg_write doorbell front took post ran_out differs hosts_of fit_behind built plan_over physical_entry held_of device_unit
    completion_written share_written with_tags group claimed put_image units_behind rest_at rests_of members seat put_back acted_in administered_in
    taken_to listed submitted handed_on device_took device_moved device_posted kept_block reaped scattered_to delivered_all posted_to ran_out_of
    statuses_of step replay replies admin_command admin cut shown shared_numbers guest_standing AreContained logged private_steps seen_by none_failed
    opening_world
returns-clause-zero_blocks c = refl

pub returns-clause-own_bytes : goal.returns-clause-own_bytes
unfolding number_at dword qword bits bytes_of_dwords completion everywhere addresses bytes_from stored gathered scattered image in_memory and_then
    first_read in_transcript read_array read_sgl read_entries read_source ranges_in move_units clear_units range_units judge units_moved opening
    register reg_write doorbell front took post ran_out differs hosts_of fit_behind built plan_over physical_entry held_of device_unit
    completion_written share_written with_tags group claimed put_image units_behind rest_at rests_of members seat put_back acted_in administered_in
    taken_to listed submitted handed_on device_took device_moved device_posted kept_block reaped scattered_to delivered_all posted_to ran_out_of
    statuses_of step replay replies admin_command admin cut shown shared_numbers guest_standing AreContained logged private_steps seen_by none_failed
    opening_world
returns-clause-own_bytes c = refl

pub returns-clause-own_blocks : goal.returns-clause-own_blocks
unfolding number_at dword qword bits bytes_of_dwords completion everywhere addresses bytes_from stored gathered scattered image in_memory and_then
    first_read in_transcript read_array read_sgl read_entries read_source ranges_in move_units clear_units range_units judge units_moved opening
    register reg_write doorbell front took post ran_out differs hosts_of fit_behind built plan_over physical_entry held_of device_unit
    completion_written share_written with_tags group claimed put_image units_behind rest_at rests_of members seat put_back acted_in administered_in
    taken_to listed submitted handed_on device_took device_moved device_posted kept_block reaped scattered_to delivered_all posted_to ran_out_of
    statuses_of step replay replies admin_command admin cut shown shared_numbers guest_standing AreContained logged private_steps seen_by none_failed
    opening_world
returns-clause-own_blocks c = refl
