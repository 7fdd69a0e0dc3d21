-- What is computed of the whole log, its private run and its end
use Rattle.std.proofs.Common.{◌≡◌, ℕ, ◌+◌, ◌<◌, true, zero, suc, Some, is_some, slice_get, refl, arith}
use Rattle.nv_entry.specs.Layout.{number_at, dword, qword, bits, bytes_of_dwords}
use Rattle.nv_entry.specs.Completion.{completion}
use Rattle.nv_mem.specs.GuestMap.{everywhere}
use Rattle.nv_mem.specs.Places.{addresses}
use Rattle.nv_model.specs.Memory.{bytes_from, gathered, image, put_image, scattered, stored}
use Rattle.nv_model.specs.Dialogue.{in_memory, and_then, asked}
use Rattle.nv_model.specs.Transcript.{first_read, in_transcript}
use Rattle.nv_model.specs.Sgl.{read_array, read_sgl}
use Rattle.nv_model.specs.Prp.{read_entries}
use Rattle.nv_model.specs.Judge.{read_source, ranges_in, move_units, clear_units, range_units, judge}
use Rattle.nv_model.specs.Carried.{units_moved}
use Rattle.nv_model.specs.Controller.{opening, register, reg_write, doorbell, front, took, post, ran_out}
use Rattle.nv_model.specs.Private.{differs, start, step as private_step, run_of}
use Rattle.nv_model.specs.Footprint.{footprints, completion_slots, stores_into, loads_from_destination}
use Rattle.nv_model.specs.Admin.{admin_command, admin}
use Rattle.nv_prp.specs.Fits.{hosts_of, fit_behind}
use Rattle.nv_prp.specs.Built.{built}
use Rattle.nv_world_model.specs.Plan.{plan_over}
use Rattle.nv_world_model.specs.Area.{physical_entry}
use Rattle.nv_world_model.specs.Device.{held_of, device_unit, completion_written}
use Rattle.nv_world_model.specs.ShareArea.{share_written}
use Rattle.nv_world_model.specs.Seat.{members, put_back, rest_at, rests_of, seat, units_behind}
use Rattle.nv_world_model.specs.Step.{acted_in, administered_in, delivered_all, device_moved, device_posted, device_took, handed_on, kept_block, listed}
use Rattle.nv_world_model.specs.Step.{posted_to, ran_out_of, reaped, replay, replies, scattered_to, statuses_of, step, submitted, taken_to}
use Rattle.nv_world_model.specs.World.{claimed, group, opening_world, with_tags}
use Rattle.nv_world_model.specs.SetUp.{refusal_of}
use Rattle.nv_world_model.specs.Headline.{none_failed}
use Rattle.nv_world_model.specs.Disciplined.{is_disciplined, taken_entries}
use Rattle.nv_world_model.specs.PrivateSteps.{private_steps, seen_by}
use Rattle.nv_examples.specs.Stepping.{seen_along}
use Rattle.nv_examples.specs.Logs.{logged}
use Rattle.nv_world_model.specs.Agrees.{is_awaited}
use Rattle.nv_world_model.specs.Log.{events_of, replies_of}
use Rattle.nv_examples.specs.Guests.{first, opened, set_up}
use Rattle.nv_examples.specs.Story.{story}
use Rattle.nv_examples.specs.StoryRun.{late_private, late_world, block_at_end, bytes_at_end, bytes_at_places, controller_at_end, memory_in}
use Rattle.nv_examples.specs.StoryRun.{story_end, story_private, story_run, story_steps}

pub replies-told : replies set_up.geometry (events_of story) opened ≡ replies_of story
unfolding number_at dword qword bits bytes_of_dwords completion everywhere addresses bytes_from gathered image put_image scattered stored in_memory
    and_then asked first_read in_transcript read_array read_sgl read_entries read_source ranges_in move_units clear_units range_units judge units_moved
    opening register reg_write doorbell front took post ran_out differs start private_step run_of footprints completion_slots stores_into
    loads_from_destination admin_command admin hosts_of fit_behind built plan_over physical_entry held_of device_unit completion_written share_written
    with_tags group claimed units_behind rest_at rests_of members seat put_back acted_in administered_in taken_to listed submitted handed_on device_took
    device_moved device_posted kept_block reaped scattered_to delivered_all posted_to ran_out_of statuses_of step replay replies opening_world refusal_of
    none_failed is_disciplined taken_entries private_steps seen_by logged
replies-told = refl

pub moved-private : late_private.memory 0x0c01 ≡ 7
unfolding number_at dword qword bits bytes_of_dwords completion everywhere addresses bytes_from gathered image put_image scattered stored in_memory
    and_then asked first_read in_transcript read_array read_sgl read_entries read_source ranges_in move_units clear_units range_units judge units_moved
    opening register reg_write doorbell front took post ran_out differs start private_step run_of footprints completion_slots stores_into
    loads_from_destination admin_command admin hosts_of fit_behind built plan_over physical_entry held_of device_unit completion_written share_written
    with_tags group claimed units_behind rest_at rests_of members seat put_back acted_in administered_in taken_to listed submitted handed_on device_took
    device_moved device_posted kept_block reaped scattered_to delivered_all posted_to ran_out_of statuses_of step replay replies opening_world refusal_of
    none_failed is_disciplined taken_entries private_steps seen_by logged
moved-private = refl

pub moved-world : memory_in late_world 0x0c01 ≡ 0
unfolding number_at dword qword bits bytes_of_dwords completion everywhere addresses bytes_from gathered image put_image scattered stored in_memory
    and_then asked first_read in_transcript read_array read_sgl read_entries read_source ranges_in move_units clear_units range_units judge units_moved
    opening register reg_write doorbell front took post ran_out differs start private_step run_of footprints completion_slots stores_into
    loads_from_destination admin_command admin hosts_of fit_behind built plan_over physical_entry held_of device_unit completion_written share_written
    with_tags group claimed units_behind rest_at rests_of members seat put_back acted_in administered_in taken_to listed submitted handed_on device_took
    device_moved device_posted kept_block reaped scattered_to delivered_all posted_to ran_out_of statuses_of step replay replies opening_world refusal_of
    none_failed is_disciplined taken_entries private_steps seen_by logged
moved-world = refl

pub moved-awaited : is_awaited 0 first late_world 0x0c01 ≡ true
unfolding number_at dword qword bits bytes_of_dwords completion everywhere addresses bytes_from gathered image put_image scattered stored in_memory
    and_then asked first_read in_transcript read_array read_sgl read_entries read_source ranges_in move_units clear_units range_units judge units_moved
    opening register reg_write doorbell front took post ran_out differs start private_step run_of footprints completion_slots stores_into
    loads_from_destination admin_command admin hosts_of fit_behind built plan_over physical_entry held_of device_unit completion_written share_written
    with_tags group claimed units_behind rest_at rests_of members seat put_back acted_in administered_in taken_to listed submitted handed_on device_took
    device_moved device_posted kept_block reaped scattered_to delivered_all posted_to ran_out_of statuses_of step replay replies opening_world refusal_of
    none_failed is_disciplined taken_entries private_steps seen_by logged
moved-awaited = refl

pub the-steps : private_steps set_up.geometry 0 first story opened ≡ story_steps
unfolding number_at dword qword bits bytes_of_dwords completion everywhere addresses bytes_from gathered image put_image scattered stored in_memory
    and_then asked first_read in_transcript read_array read_sgl read_entries read_source ranges_in move_units clear_units range_units judge units_moved
    opening register reg_write doorbell front took post ran_out differs start private_step run_of footprints completion_slots stores_into
    loads_from_destination admin_command admin hosts_of fit_behind built plan_over physical_entry held_of device_unit completion_written share_written
    with_tags group claimed units_behind rest_at rests_of members seat put_back acted_in administered_in taken_to listed submitted handed_on device_took
    device_moved device_posted kept_block reaped scattered_to delivered_all posted_to ran_out_of statuses_of step replay replies opening_world refusal_of
    none_failed is_disciplined taken_entries private_steps seen_by logged
the-steps = refl

pub can-be-made : is_some story_run ≡ true
unfolding number_at dword qword bits bytes_of_dwords completion everywhere addresses bytes_from gathered image put_image scattered stored in_memory
    and_then asked first_read in_transcript read_array read_sgl read_entries read_source ranges_in move_units clear_units range_units judge units_moved
    opening register reg_write doorbell front took post ran_out differs start private_step run_of footprints completion_slots stores_into
    loads_from_destination admin_command admin hosts_of fit_behind built plan_over physical_entry held_of device_unit completion_written share_written
    with_tags group claimed units_behind rest_at rests_of members seat put_back acted_in administered_in taken_to listed submitted handed_on device_took
    device_moved device_posted kept_block reaped scattered_to delivered_all posted_to ran_out_of statuses_of step replay replies opening_world refusal_of
    none_failed is_disciplined taken_entries private_steps seen_by logged
can-be-made = refl

pub seen-logged : seen_along story_run ≡ seen_by 0 story
unfolding number_at dword qword bits bytes_of_dwords completion everywhere addresses bytes_from gathered image put_image scattered stored in_memory
    and_then asked first_read in_transcript read_array read_sgl read_entries read_source ranges_in move_units clear_units range_units judge units_moved
    opening register reg_write doorbell front took post ran_out differs start private_step run_of footprints completion_slots stores_into
    loads_from_destination admin_command admin hosts_of fit_behind built plan_over physical_entry held_of device_unit completion_written share_written
    with_tags group claimed units_behind rest_at rests_of members seat put_back acted_in administered_in taken_to listed submitted handed_on device_took
    device_moved device_posted kept_block reaped scattered_to delivered_all posted_to ran_out_of statuses_of step replay replies opening_world refusal_of
    none_failed is_disciplined taken_entries private_steps seen_by logged
seen-logged = refl

pub controller-private : story_private.controller ≡ controller_at_end
unfolding number_at dword qword bits bytes_of_dwords completion everywhere addresses bytes_from gathered image put_image scattered stored in_memory
    and_then asked first_read in_transcript read_array read_sgl read_entries read_source ranges_in move_units clear_units range_units judge units_moved
    opening register reg_write doorbell front took post ran_out differs start private_step run_of footprints completion_slots stores_into
    loads_from_destination admin_command admin hosts_of fit_behind built plan_over physical_entry held_of device_unit completion_written share_written
    with_tags group claimed units_behind rest_at rests_of members seat put_back acted_in administered_in taken_to listed submitted handed_on device_took
    device_moved device_posted kept_block reaped scattered_to delivered_all posted_to ran_out_of statuses_of step replay replies opening_world refusal_of
    none_failed is_disciplined taken_entries private_steps seen_by logged
controller-private = refl

pub controller-world : slice_get story_end.controllers 0 ≡ Some controller_at_end
unfolding number_at dword qword bits bytes_of_dwords completion everywhere addresses bytes_from gathered image put_image scattered stored in_memory
    and_then asked first_read in_transcript read_array read_sgl read_entries read_source ranges_in move_units clear_units range_units judge units_moved
    opening register reg_write doorbell front took post ran_out differs start private_step run_of footprints completion_slots stores_into
    loads_from_destination admin_command admin hosts_of fit_behind built plan_over physical_entry held_of device_unit completion_written share_written
    with_tags group claimed units_behind rest_at rests_of members seat put_back acted_in administered_in taken_to listed submitted handed_on device_took
    device_moved device_posted kept_block reaped scattered_to delivered_all posted_to ran_out_of statuses_of step replay replies opening_world refusal_of
    none_failed is_disciplined taken_entries private_steps seen_by logged
controller-world = refl

pub bytes-private : bytes_at_places story_private.memory ≡ bytes_at_end
unfolding number_at dword qword bits bytes_of_dwords completion everywhere addresses bytes_from gathered image put_image scattered stored in_memory
    and_then asked first_read in_transcript read_array read_sgl read_entries read_source ranges_in move_units clear_units range_units judge units_moved
    opening register reg_write doorbell front took post ran_out differs start private_step run_of footprints completion_slots stores_into
    loads_from_destination admin_command admin hosts_of fit_behind built plan_over physical_entry held_of device_unit completion_written share_written
    with_tags group claimed units_behind rest_at rests_of members seat put_back acted_in administered_in taken_to listed submitted handed_on device_took
    device_moved device_posted kept_block reaped scattered_to delivered_all posted_to ran_out_of statuses_of step replay replies opening_world refusal_of
    none_failed is_disciplined taken_entries private_steps seen_by logged
bytes-private = refl

pub bytes-world : bytes_at_places (memory_in story_end) ≡ bytes_at_end
unfolding number_at dword qword bits bytes_of_dwords completion everywhere addresses bytes_from gathered image put_image scattered stored in_memory
    and_then asked first_read in_transcript read_array read_sgl read_entries read_source ranges_in move_units clear_units range_units judge units_moved
    opening register reg_write doorbell front took post ran_out differs start private_step run_of footprints completion_slots stores_into
    loads_from_destination admin_command admin hosts_of fit_behind built plan_over physical_entry held_of device_unit completion_written share_written
    with_tags group claimed units_behind rest_at rests_of members seat put_back acted_in administered_in taken_to listed submitted handed_on device_took
    device_moved device_posted kept_block reaped scattered_to delivered_all posted_to ran_out_of statuses_of step replay replies opening_world refusal_of
    none_failed is_disciplined taken_entries private_steps seen_by logged
bytes-world = refl

pub block-0 : (offset : ℕ) → story_private.disk 0 offset ≡ block_at_end offset
unfolding number_at dword qword bits bytes_of_dwords completion everywhere addresses bytes_from gathered image put_image scattered stored in_memory
    and_then asked first_read in_transcript read_array read_sgl read_entries read_source ranges_in move_units clear_units range_units judge units_moved
    opening register reg_write doorbell front took post ran_out differs start private_step run_of footprints completion_slots stores_into
    loads_from_destination admin_command admin hosts_of fit_behind built plan_over physical_entry held_of device_unit completion_written share_written
    with_tags group claimed units_behind rest_at rests_of members seat put_back acted_in administered_in taken_to listed submitted handed_on device_took
    device_moved device_posted kept_block reaped scattered_to delivered_all posted_to ran_out_of statuses_of step replay replies opening_world refusal_of
    none_failed is_disciplined taken_entries private_steps seen_by logged
block-0 offset = refl

pub disk-2 : (offset : ℕ) → story_end.disk 2 offset ≡ block_at_end offset
unfolding number_at dword qword bits bytes_of_dwords completion everywhere addresses bytes_from gathered image put_image scattered stored in_memory
    and_then asked first_read in_transcript read_array read_sgl read_entries read_source ranges_in move_units clear_units range_units judge units_moved
    opening register reg_write doorbell front took post ran_out differs start private_step run_of footprints completion_slots stores_into
    loads_from_destination admin_command admin hosts_of fit_behind built plan_over physical_entry held_of device_unit completion_written share_written
    with_tags group claimed units_behind rest_at rests_of members seat put_back acted_in administered_in taken_to listed submitted handed_on device_took
    device_moved device_posted kept_block reaped scattered_to delivered_all posted_to ran_out_of statuses_of step replay replies opening_world refusal_of
    none_failed is_disciplined taken_entries private_steps seen_by logged
disk-2 offset = refl

pub block-1 : (offset : ℕ) → story_private.disk 1 offset ≡ 0
unfolding number_at dword qword bits bytes_of_dwords completion everywhere addresses bytes_from gathered image put_image scattered stored in_memory
    and_then asked first_read in_transcript read_array read_sgl read_entries read_source ranges_in move_units clear_units range_units judge units_moved
    opening register reg_write doorbell front took post ran_out differs start private_step run_of footprints completion_slots stores_into
    loads_from_destination admin_command admin hosts_of fit_behind built plan_over physical_entry held_of device_unit completion_written share_written
    with_tags group claimed units_behind rest_at rests_of members seat put_back acted_in administered_in taken_to listed submitted handed_on device_took
    device_moved device_posted kept_block reaped scattered_to delivered_all posted_to ran_out_of statuses_of step replay replies opening_world refusal_of
    none_failed is_disciplined taken_entries private_steps seen_by logged
block-1 offset = refl

pub disk-3 : (offset : ℕ) → story_end.disk 3 offset ≡ 0
unfolding number_at dword qword bits bytes_of_dwords completion everywhere addresses bytes_from gathered image put_image scattered stored in_memory
    and_then asked first_read in_transcript read_array read_sgl read_entries read_source ranges_in move_units clear_units range_units judge units_moved
    opening register reg_write doorbell front took post ran_out differs start private_step run_of footprints completion_slots stores_into
    loads_from_destination admin_command admin hosts_of fit_behind built plan_over physical_entry held_of device_unit completion_written share_written
    with_tags group claimed units_behind rest_at rests_of members seat put_back acted_in administered_in taken_to listed submitted handed_on device_took
    device_moved device_posted kept_block reaped scattered_to delivered_all posted_to ran_out_of statuses_of step replay replies opening_world refusal_of
    none_failed is_disciplined taken_entries private_steps seen_by logged
disk-3 offset = refl

pub mark-0 : story_private.kept 0 ≡ true
unfolding number_at dword qword bits bytes_of_dwords completion everywhere addresses bytes_from gathered image put_image scattered stored in_memory
    and_then asked first_read in_transcript read_array read_sgl read_entries read_source ranges_in move_units clear_units range_units judge units_moved
    opening register reg_write doorbell front took post ran_out differs start private_step run_of footprints completion_slots stores_into
    loads_from_destination admin_command admin hosts_of fit_behind built plan_over physical_entry held_of device_unit completion_written share_written
    with_tags group claimed units_behind rest_at rests_of members seat put_back acted_in administered_in taken_to listed submitted handed_on device_took
    device_moved device_posted kept_block reaped scattered_to delivered_all posted_to ran_out_of statuses_of step replay replies opening_world refusal_of
    none_failed is_disciplined taken_entries private_steps seen_by logged
mark-0 = refl

pub mark-1 : story_private.kept 1 ≡ true
unfolding number_at dword qword bits bytes_of_dwords completion everywhere addresses bytes_from gathered image put_image scattered stored in_memory
    and_then asked first_read in_transcript read_array read_sgl read_entries read_source ranges_in move_units clear_units range_units judge units_moved
    opening register reg_write doorbell front took post ran_out differs start private_step run_of footprints completion_slots stores_into
    loads_from_destination admin_command admin hosts_of fit_behind built plan_over physical_entry held_of device_unit completion_written share_written
    with_tags group claimed units_behind rest_at rests_of members seat put_back acted_in administered_in taken_to listed submitted handed_on device_took
    device_moved device_posted kept_block reaped scattered_to delivered_all posted_to ran_out_of statuses_of step replay replies opening_world refusal_of
    none_failed is_disciplined taken_entries private_steps seen_by logged
mark-1 = refl

pub disk_mark-2 : story_end.kept 2 ≡ true
unfolding number_at dword qword bits bytes_of_dwords completion everywhere addresses bytes_from gathered image put_image scattered stored in_memory
    and_then asked first_read in_transcript read_array read_sgl read_entries read_source ranges_in move_units clear_units range_units judge units_moved
    opening register reg_write doorbell front took post ran_out differs start private_step run_of footprints completion_slots stores_into
    loads_from_destination admin_command admin hosts_of fit_behind built plan_over physical_entry held_of device_unit completion_written share_written
    with_tags group claimed units_behind rest_at rests_of members seat put_back acted_in administered_in taken_to listed submitted handed_on device_took
    device_moved device_posted kept_block reaped scattered_to delivered_all posted_to ran_out_of statuses_of step replay replies opening_world refusal_of
    none_failed is_disciplined taken_entries private_steps seen_by logged
disk_mark-2 = refl

pub disk_mark-3 : story_end.kept 3 ≡ true
unfolding number_at dword qword bits bytes_of_dwords completion everywhere addresses bytes_from gathered image put_image scattered stored in_memory
    and_then asked first_read in_transcript read_array read_sgl read_entries read_source ranges_in move_units clear_units range_units judge units_moved
    opening register reg_write doorbell front took post ran_out differs start private_step run_of footprints completion_slots stores_into
    loads_from_destination admin_command admin hosts_of fit_behind built plan_over physical_entry held_of device_unit completion_written share_written
    with_tags group claimed units_behind rest_at rests_of members seat put_back acted_in administered_in taken_to listed submitted handed_on device_took
    device_moved device_posted kept_block reaped scattered_to delivered_all posted_to ran_out_of statuses_of step replay replies opening_world refusal_of
    none_failed is_disciplined taken_entries private_steps seen_by logged
disk_mark-3 = refl

pub marks : (lba : ℕ) → lba < 2 → story_private.kept lba ≡ true
marks zero h = mark-0
marks (suc zero) h = mark-1
marks (suc (suc lba)) h = absurd (omega arith)

pub disk_marks : (lba : ℕ) → lba < 2 → story_end.kept (2 + lba) ≡ true
disk_marks zero h = disk_mark-2
disk_marks (suc zero) h = disk_mark-3
disk_marks (suc (suc lba)) h = absurd (omega arith)
