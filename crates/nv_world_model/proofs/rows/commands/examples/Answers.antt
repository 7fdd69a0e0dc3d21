use Rattle.std.proofs.Common.{refl}
use Rattle.nv_entry.specs.Layout.{number_at, dword, qword, bits, bytes_of_dwords}
use Rattle.nv_entry.specs.Completion.{completion}
use Rattle.nv_mem.specs.GuestMap.{everywhere}
use Rattle.nv_mem.specs.Places.{addresses}
use Rattle.nv_model.specs.Memory.{bytes_from, gathered, image, put_image, scattered, stored}
use Rattle.nv_model.specs.Dialogue.{in_memory, and_then}
use Rattle.nv_model.specs.Transcript.{first_read, in_transcript}
use Rattle.nv_model.specs.Sgl.{read_array, read_sgl}
use Rattle.nv_model.specs.Prp.{read_entries}
use Rattle.nv_model.specs.Judge.{read_source, ranges_in, move_units, clear_units, range_units, judge}
use Rattle.nv_model.specs.Carried.{units_moved}
use Rattle.nv_model.specs.Controller.{opening, register, reg_write, doorbell, front, took, post, ran_out}
use Rattle.nv_model.specs.Private.{differs}
use Rattle.nv_prp.specs.Fits.{hosts_of, fit_behind}
use Rattle.nv_prp.specs.Built.{built}
use Rattle.nv_world_model.specs.Plan.{plan_over}
use Rattle.nv_world_model.specs.Area.{physical_entry}
use Rattle.nv_world_model.specs.Device.{held_of, device_unit, completion_written}
use Rattle.nv_world_model.specs.ShareArea.{share_written}
use Rattle.nv_world_model.specs.World.{with_tags, group, claimed}
use Rattle.nv_world_model.specs.Seat.{units_behind, rest_at, rests_of, members, seat, put_back}
use Rattle.nv_world_model.specs.Step.{acted_in, administered_in, taken_to, listed, submitted, handed_on, device_took, device_moved}
use Rattle.nv_world_model.specs.Step.{device_posted, kept_block, reaped, scattered_to, delivered_all, posted_to, ran_out_of, statuses_of}
use Rattle.nv_world_model.specs.Step.{step, replay, replies}
use Rattle.nv_world_model.proofs.rows.commands.examples.Goals as goal

pub returns-clause-taken : goal.returns-clause-taken
unfolding number_at dword qword bits bytes_of_dwords completion everywhere addresses bytes_from stored gathered scattered image in_memory and_then
    first_read in_transcript read_array read_sgl read_entries read_source ranges_in move_units clear_units range_units judge units_moved opening register
    reg_write doorbell front took post ran_out differs hosts_of fit_behind built plan_over physical_entry held_of device_unit completion_written
    share_written with_tags group claimed put_image units_behind rest_at rests_of members seat put_back acted_in administered_in taken_to listed submitted
    handed_on device_took device_moved device_posted kept_block reaped scattered_to delivered_all posted_to ran_out_of statuses_of step replay replies
returns-clause-taken c = refl

pub returns-clause-handed_on : goal.returns-clause-handed_on
unfolding number_at dword qword bits bytes_of_dwords completion everywhere addresses bytes_from stored gathered scattered image in_memory and_then
    first_read in_transcript read_array read_sgl read_entries read_source ranges_in move_units clear_units range_units judge units_moved opening register
    reg_write doorbell front took post ran_out differs hosts_of fit_behind built plan_over physical_entry held_of device_unit completion_written
    share_written with_tags group claimed put_image units_behind rest_at rests_of members seat put_back acted_in administered_in taken_to listed submitted
    handed_on device_took device_moved device_posted kept_block reaped scattered_to delivered_all posted_to ran_out_of statuses_of step replay replies
returns-clause-handed_on c = refl

pub returns-clause-in_the_device : goal.returns-clause-in_the_device
unfolding number_at dword qword bits bytes_of_dwords completion everywhere addresses bytes_from stored gathered scattered image in_memory and_then
    first_read in_transcript read_array read_sgl read_entries read_source ranges_in move_units clear_units range_units judge units_moved opening register
    reg_write doorbell front took post ran_out differs hosts_of fit_behind built plan_over physical_entry held_of device_unit completion_written
    share_written with_tags group claimed put_image units_behind rest_at rests_of members seat put_back acted_in administered_in taken_to listed submitted
    handed_on device_took device_moved device_posted kept_block reaped scattered_to delivered_all posted_to ran_out_of statuses_of step replay replies
returns-clause-in_the_device c = refl

pub returns-clause-a_range_of_the_device : goal.returns-clause-a_range_of_the_device
unfolding number_at dword qword bits bytes_of_dwords completion everywhere addresses bytes_from stored gathered scattered image in_memory and_then
    first_read in_transcript read_array read_sgl read_entries read_source ranges_in move_units clear_units range_units judge units_moved opening register
    reg_write doorbell front took post ran_out differs hosts_of fit_behind built plan_over physical_entry held_of device_unit completion_written
    share_written with_tags group claimed put_image units_behind rest_at rests_of members seat put_back acted_in administered_in taken_to listed submitted
    handed_on device_took device_moved device_posted kept_block reaped scattered_to delivered_all posted_to ran_out_of statuses_of step replay replies
returns-clause-a_range_of_the_device c = refl

pub returns-clause-a_difference_in_the_device : goal.returns-clause-a_difference_in_the_device
unfolding number_at dword qword bits bytes_of_dwords completion everywhere addresses bytes_from stored gathered scattered image in_memory and_then
    first_read in_transcript read_array read_sgl read_entries read_source ranges_in move_units clear_units range_units judge units_moved opening register
    reg_write doorbell front took post ran_out differs hosts_of fit_behind built plan_over physical_entry held_of device_unit completion_written
    share_written with_tags group claimed put_image units_behind rest_at rests_of members seat put_back acted_in administered_in taken_to listed submitted
    handed_on device_took device_moved device_posted kept_block reaped scattered_to delivered_all posted_to ran_out_of statuses_of step replay replies
returns-clause-a_difference_in_the_device c = refl

pub returns-clause-a_difference_that_is_answered : goal.returns-clause-a_difference_that_is_answered
unfolding number_at dword qword bits bytes_of_dwords completion everywhere addresses bytes_from stored gathered scattered image in_memory and_then
    first_read in_transcript read_array read_sgl read_entries read_source ranges_in move_units clear_units range_units judge units_moved opening register
    reg_write doorbell front took post ran_out differs hosts_of fit_behind built plan_over physical_entry held_of device_unit completion_written
    share_written with_tags group claimed put_image units_behind rest_at rests_of members seat put_back acted_in administered_in taken_to listed submitted
    handed_on device_took device_moved device_posted kept_block reaped scattered_to delivered_all posted_to ran_out_of statuses_of step replay replies
returns-clause-a_difference_that_is_answered c = refl

pub returns-clause-a_difference_that_is_told : goal.returns-clause-a_difference_that_is_told
unfolding number_at dword qword bits bytes_of_dwords completion everywhere addresses bytes_from stored gathered scattered image in_memory and_then
    first_read in_transcript read_array read_sgl read_entries read_source ranges_in move_units clear_units range_units judge units_moved opening register
    reg_write doorbell front took post ran_out differs hosts_of fit_behind built plan_over physical_entry held_of device_unit completion_written
    share_written with_tags group claimed put_image units_behind rest_at rests_of members seat put_back acted_in administered_in taken_to listed submitted
    handed_on device_took device_moved device_posted kept_block reaped scattered_to delivered_all posted_to ran_out_of statuses_of step replay replies
returns-clause-a_difference_that_is_told c = refl

pub returns-clause-no_difference_is_told : goal.returns-clause-no_difference_is_told
unfolding number_at dword qword bits bytes_of_dwords completion everywhere addresses bytes_from stored gathered scattered image in_memory and_then
    first_read in_transcript read_array read_sgl read_entries read_source ranges_in move_units clear_units range_units judge units_moved opening register
    reg_write doorbell front took post ran_out differs hosts_of fit_behind built plan_over physical_entry held_of device_unit completion_written
    share_written with_tags group claimed put_image units_behind rest_at rests_of members seat put_back acted_in administered_in taken_to listed submitted
    handed_on device_took device_moved device_posted kept_block reaped scattered_to delivered_all posted_to ran_out_of statuses_of step replay replies
returns-clause-no_difference_is_told c = refl

pub returns-clause-completed : goal.returns-clause-completed
unfolding number_at dword qword bits bytes_of_dwords completion everywhere addresses bytes_from stored gathered scattered image in_memory and_then
    first_read in_transcript read_array read_sgl read_entries read_source ranges_in move_units clear_units range_units judge units_moved opening register
    reg_write doorbell front took post ran_out differs hosts_of fit_behind built plan_over physical_entry held_of device_unit completion_written
    share_written with_tags group claimed put_image units_behind rest_at rests_of members seat put_back acted_in administered_in taken_to listed submitted
    handed_on device_took device_moved device_posted kept_block reaped scattered_to delivered_all posted_to ran_out_of statuses_of step replay replies
returns-clause-completed c = refl

pub returns-clause-write_zeroes_takes_the_mark : goal.returns-clause-write_zeroes_takes_the_mark
unfolding number_at dword qword bits bytes_of_dwords completion everywhere addresses bytes_from stored gathered scattered image in_memory and_then
    first_read in_transcript read_array read_sgl read_entries read_source ranges_in move_units clear_units range_units judge units_moved opening register
    reg_write doorbell front took post ran_out differs hosts_of fit_behind built plan_over physical_entry held_of device_unit completion_written
    share_written with_tags group claimed put_image units_behind rest_at rests_of members seat put_back acted_in administered_in taken_to listed submitted
    handed_on device_took device_moved device_posted kept_block reaped scattered_to delivered_all posted_to ran_out_of statuses_of step replay replies
returns-clause-write_zeroes_takes_the_mark c = refl

pub returns-clause-run_out : goal.returns-clause-run_out
unfolding number_at dword qword bits bytes_of_dwords completion everywhere addresses bytes_from stored gathered scattered image in_memory and_then
    first_read in_transcript read_array read_sgl read_entries read_source ranges_in move_units clear_units range_units judge units_moved opening register
    reg_write doorbell front took post ran_out differs hosts_of fit_behind built plan_over physical_entry held_of device_unit completion_written
    share_written with_tags group claimed put_image units_behind rest_at rests_of members seat put_back acted_in administered_in taken_to listed submitted
    handed_on device_took device_moved device_posted kept_block reaped scattered_to delivered_all posted_to ran_out_of statuses_of step replay replies
returns-clause-run_out c = refl
