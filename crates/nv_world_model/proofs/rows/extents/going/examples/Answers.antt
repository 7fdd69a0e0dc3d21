use Rattle.std.proofs.Common.{refl}
use Rattle.nv_entry.specs.Layout.{number_at, dword, qword, bits, bytes_of_dwords}
use Rattle.nv_entry.specs.Completion.{completion}
use Rattle.nv_mem.specs.GuestMap.{everywhere}
use Rattle.nv_mem.specs.Places.{addresses}
use Rattle.nv_model.specs.Memory.{bytes_from, gathered, image, put_image, scattered, stored}
use Rattle.nv_model.specs.Dialogue.{in_memory, and_then}
use Rattle.nv_model.specs.Transcript.{first_read, in_transcript}
use Rattle.nv_model.specs.Sgl.{read_array, read_sgl}
use Rattle.nv_model.specs.Prp.{read_entries}
use Rattle.nv_model.specs.Judge.{read_source, ranges_in, move_units, clear_units, range_units, judge}
use Rattle.nv_model.specs.Carried.{units_moved}
use Rattle.nv_model.specs.Controller.{opening, register, reg_write, doorbell, front, took, post, ran_out}
use Rattle.nv_model.specs.Private.{differs}
use Rattle.nv_prp.specs.Fits.{hosts_of, fit_behind}
use Rattle.nv_prp.specs.Built.{built}
use Rattle.nv_world_model.specs.Plan.{plan_over}
use Rattle.nv_world_model.specs.Area.{physical_entry}
use Rattle.nv_world_model.specs.Device.{held_of, device_unit, completion_written}
use Rattle.nv_world_model.specs.ShareArea.{share_written}
use Rattle.nv_world_model.specs.World.{with_tags, group, claimed}
use Rattle.nv_world_model.specs.Seat.{units_behind, rest_at, rests_of, members, seat, put_back}
use Rattle.nv_world_model.specs.Step.{acted_in, administered_in, taken_to, listed, submitted, handed_on, device_took, device_moved}
use Rattle.nv_world_model.specs.Step.{device_posted, kept_block, reaped, scattered_to, delivered_all, posted_to, ran_out_of, statuses_of}
use Rattle.nv_world_model.specs.Step.{step, replay, replies}
use Rattle.nv_world_model.specs.Disciplined.{taken_entries}
use Rattle.nv_world_model.proofs.rows.extents.going.examples.Goals as goal

pub returns-clause-a_direct_read : goal.returns-clause-a_direct_read
unfolding number_at dword qword bits bytes_of_dwords completion everywhere addresses bytes_from gathered image put_image scattered stored in_memory
    and_then first_read in_transcript read_array read_sgl read_entries read_source ranges_in move_units clear_units range_units judge units_moved
    opening register reg_write doorbell front took post ran_out differs hosts_of fit_behind built plan_over physical_entry held_of device_unit
    completion_written share_written with_tags group claimed units_behind rest_at rests_of members seat put_back acted_in administered_in taken_to
    listed submitted handed_on device_took device_moved device_posted kept_block reaped scattered_to delivered_all posted_to ran_out_of statuses_of
    step replay replies taken_entries
returns-clause-a_direct_read c = refl

pub returns-clause-a_bounced_read : goal.returns-clause-a_bounced_read
unfolding number_at dword qword bits bytes_of_dwords completion everywhere addresses bytes_from gathered image put_image scattered stored in_memory
    and_then first_read in_transcript read_array read_sgl read_entries read_source ranges_in move_units clear_units range_units judge units_moved
    opening register reg_write doorbell front took post ran_out differs hosts_of fit_behind built plan_over physical_entry held_of device_unit
    completion_written share_written with_tags group claimed units_behind rest_at rests_of members seat put_back acted_in administered_in taken_to
    listed submitted handed_on device_took device_moved device_posted kept_block reaped scattered_to delivered_all posted_to ran_out_of statuses_of
    step replay replies taken_entries
returns-clause-a_bounced_read c = refl

pub returns-clause-in_tags_apart : goal.returns-clause-in_tags_apart
unfolding number_at dword qword bits bytes_of_dwords completion everywhere addresses bytes_from gathered image put_image scattered stored in_memory
    and_then first_read in_transcript read_array read_sgl read_entries read_source ranges_in move_units clear_units range_units judge units_moved
    opening register reg_write doorbell front took post ran_out differs hosts_of fit_behind built plan_over physical_entry held_of device_unit
    completion_written share_written with_tags group claimed units_behind rest_at rests_of members seat put_back acted_in administered_in taken_to
    listed submitted handed_on device_took device_moved device_posted kept_block reaped scattered_to delivered_all posted_to ran_out_of statuses_of
    step replay replies taken_entries
returns-clause-in_tags_apart c = refl

pub returns-clause-a_refused_command : goal.returns-clause-a_refused_command
unfolding number_at dword qword bits bytes_of_dwords completion everywhere addresses bytes_from gathered image put_image scattered stored in_memory
    and_then first_read in_transcript read_array read_sgl read_entries read_source ranges_in move_units clear_units range_units judge units_moved
    opening register reg_write doorbell front took post ran_out differs hosts_of fit_behind built plan_over physical_entry held_of device_unit
    completion_written share_written with_tags group claimed units_behind rest_at rests_of members seat put_back acted_in administered_in taken_to
    listed submitted handed_on device_took device_moved device_posted kept_block reaped scattered_to delivered_all posted_to ran_out_of statuses_of
    step replay replies taken_entries
returns-clause-a_refused_command c = refl

pub returns-clause-its_completion : goal.returns-clause-its_completion
unfolding number_at dword qword bits bytes_of_dwords completion everywhere addresses bytes_from gathered image put_image scattered stored in_memory
    and_then first_read in_transcript read_array read_sgl read_entries read_source ranges_in move_units clear_units range_units judge units_moved
    opening register reg_write doorbell front took post ran_out differs hosts_of fit_behind built plan_over physical_entry held_of device_unit
    completion_written share_written with_tags group claimed units_behind rest_at rests_of members seat put_back acted_in administered_in taken_to
    listed submitted handed_on device_took device_moved device_posted kept_block reaped scattered_to delivered_all posted_to ran_out_of statuses_of
    step replay replies taken_entries
returns-clause-its_completion c = refl

pub returns-clause-refused_by_its_list : goal.returns-clause-refused_by_its_list
unfolding number_at dword qword bits bytes_of_dwords completion everywhere addresses bytes_from gathered image put_image scattered stored in_memory
    and_then first_read in_transcript read_array read_sgl read_entries read_source ranges_in move_units clear_units range_units judge units_moved
    opening register reg_write doorbell front took post ran_out differs hosts_of fit_behind built plan_over physical_entry held_of device_unit
    completion_written share_written with_tags group claimed units_behind rest_at rests_of members seat put_back acted_in administered_in taken_to
    listed submitted handed_on device_took device_moved device_posted kept_block reaped scattered_to delivered_all posted_to ran_out_of statuses_of
    step replay replies taken_entries
returns-clause-refused_by_its_list c = refl

pub returns-clause-its_tags_are_free : goal.returns-clause-its_tags_are_free
unfolding number_at dword qword bits bytes_of_dwords completion everywhere addresses bytes_from gathered image put_image scattered stored in_memory
    and_then first_read in_transcript read_array read_sgl read_entries read_source ranges_in move_units clear_units range_units judge units_moved
    opening register reg_write doorbell front took post ran_out differs hosts_of fit_behind built plan_over physical_entry held_of device_unit
    completion_written share_written with_tags group claimed units_behind rest_at rests_of members seat put_back acted_in administered_in taken_to
    listed submitted handed_on device_took device_moved device_posted kept_block reaped scattered_to delivered_all posted_to ran_out_of statuses_of
    step replay replies taken_entries
returns-clause-its_tags_are_free c = refl

pub returns-clause-its_tags_have_ended : goal.returns-clause-its_tags_have_ended
unfolding number_at dword qword bits bytes_of_dwords completion everywhere addresses bytes_from gathered image put_image scattered stored in_memory
    and_then first_read in_transcript read_array read_sgl read_entries read_source ranges_in move_units clear_units range_units judge units_moved
    opening register reg_write doorbell front took post ran_out differs hosts_of fit_behind built plan_over physical_entry held_of device_unit
    completion_written share_written with_tags group claimed units_behind rest_at rests_of members seat put_back acted_in administered_in taken_to
    listed submitted handed_on device_took device_moved device_posted kept_block reaped scattered_to delivered_all posted_to ran_out_of statuses_of
    step replay replies taken_entries
returns-clause-its_tags_have_ended c = refl

pub returns-clause-given_up_they_have_too : goal.returns-clause-given_up_they_have_too
unfolding number_at dword qword bits bytes_of_dwords completion everywhere addresses bytes_from gathered image put_image scattered stored in_memory
    and_then first_read in_transcript read_array read_sgl read_entries read_source ranges_in move_units clear_units range_units judge units_moved
    opening register reg_write doorbell front took post ran_out differs hosts_of fit_behind built plan_over physical_entry held_of device_unit
    completion_written share_written with_tags group claimed units_behind rest_at rests_of members seat put_back acted_in administered_in taken_to
    listed submitted handed_on device_took device_moved device_posted kept_block reaped scattered_to delivered_all posted_to ran_out_of statuses_of
    step replay replies taken_entries
returns-clause-given_up_they_have_too c = refl

pub returns-clause-given_up : goal.returns-clause-given_up
unfolding number_at dword qword bits bytes_of_dwords completion everywhere addresses bytes_from gathered image put_image scattered stored in_memory
    and_then first_read in_transcript read_array read_sgl read_entries read_source ranges_in move_units clear_units range_units judge units_moved
    opening register reg_write doorbell front took post ran_out differs hosts_of fit_behind built plan_over physical_entry held_of device_unit
    completion_written share_written with_tags group claimed units_behind rest_at rests_of members seat put_back acted_in administered_in taken_to
    listed submitted handed_on device_took device_moved device_posted kept_block reaped scattered_to delivered_all posted_to ran_out_of statuses_of
    step replay replies taken_entries
returns-clause-given_up c = refl

pub returns-clause-given_up_and_free : goal.returns-clause-given_up_and_free
unfolding number_at dword qword bits bytes_of_dwords completion everywhere addresses bytes_from gathered image put_image scattered stored in_memory
    and_then first_read in_transcript read_array read_sgl read_entries read_source ranges_in move_units clear_units range_units judge units_moved
    opening register reg_write doorbell front took post ran_out differs hosts_of fit_behind built plan_over physical_entry held_of device_unit
    completion_written share_written with_tags group claimed units_behind rest_at rests_of members seat put_back acted_in administered_in taken_to
    listed submitted handed_on device_took device_moved device_posted kept_block reaped scattered_to delivered_all posted_to ran_out_of statuses_of
    step replay replies taken_entries
returns-clause-given_up_and_free c = refl

pub returns-clause-both_are_taken : goal.returns-clause-both_are_taken
unfolding number_at dword qword bits bytes_of_dwords completion everywhere addresses bytes_from gathered image put_image scattered stored in_memory
    and_then first_read in_transcript read_array read_sgl read_entries read_source ranges_in move_units clear_units range_units judge units_moved
    opening register reg_write doorbell front took post ran_out differs hosts_of fit_behind built plan_over physical_entry held_of device_unit
    completion_written share_written with_tags group claimed units_behind rest_at rests_of members seat put_back acted_in administered_in taken_to
    listed submitted handed_on device_took device_moved device_posted kept_block reaped scattered_to delivered_all posted_to ran_out_of statuses_of
    step replay replies taken_entries
returns-clause-both_are_taken c = refl
