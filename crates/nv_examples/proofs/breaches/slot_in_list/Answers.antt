use Rattle.std.proofs.Common.{refl}
use Rattle.nv_entry.specs.Layout.{number_at, dword, qword, bits, bytes_of_dwords}
use Rattle.nv_entry.specs.Completion.{completion}
use Rattle.nv_mem.specs.GuestMap.{everywhere}
use Rattle.nv_mem.specs.Places.{addresses}
use Rattle.nv_model.specs.Memory.{bytes_from, gathered, image, put_image, scattered, stored}
use Rattle.nv_model.specs.Dialogue.{in_memory, and_then, asked}
use Rattle.nv_model.specs.Transcript.{first_read, in_transcript}
use Rattle.nv_model.specs.Sgl.{read_array, read_sgl}
use Rattle.nv_model.specs.Prp.{read_entries}
use Rattle.nv_model.specs.Judge.{read_source, ranges_in, move_units, clear_units, range_units, judge}
use Rattle.nv_model.specs.Carried.{units_moved}
use Rattle.nv_model.specs.Controller.{opening, register, reg_write, doorbell, front, took, post, ran_out}
use Rattle.nv_model.specs.Private.{differs, start, step as private_step, run_of}
use Rattle.nv_model.specs.Footprint.{footprints, completion_slots, stores_into, loads_from_destination}
use Rattle.nv_model.specs.Admin.{admin_command, admin}
use Rattle.nv_prp.specs.Fits.{hosts_of, fit_behind}
use Rattle.nv_prp.specs.Built.{built}
use Rattle.nv_world_model.specs.Plan.{plan_over}
use Rattle.nv_world_model.specs.Area.{physical_entry}
use Rattle.nv_world_model.specs.Device.{held_of, device_unit, completion_written}
use Rattle.nv_world_model.specs.ShareArea.{share_written}
use Rattle.nv_world_model.specs.Seat.{members, put_back, rest_at, rests_of, seat, units_behind}
use Rattle.nv_world_model.specs.Step.{acted_in, administered_in, delivered_all, device_moved, device_posted, device_took, handed_on, kept_block, listed}
use Rattle.nv_world_model.specs.Step.{posted_to, ran_out_of, reaped, replay, replies, scattered_to, statuses_of, step, submitted, taken_to}
use Rattle.nv_world_model.specs.World.{claimed, group, opening_world, with_tags}
use Rattle.nv_world_model.specs.SetUp.{refusal_of}
use Rattle.nv_world_model.specs.Headline.{none_failed}
use Rattle.nv_world_model.specs.Disciplined.{is_disciplined, taken_entries}
use Rattle.nv_world_model.specs.PrivateSteps.{private_steps, seen_by}
use Rattle.nv_examples.specs.Logs.{logged}
use Rattle.nv_world_model.specs.Geometry.{shape_of}
use Rattle.nv_examples.specs.Breaches.{slot_in_list, holds_along, last_byte}
use Rattle.nv_examples.specs.Guests.{first, opened, set_up}
use Rattle.nv_examples.proofs.Blank.{own-run}
use Rattle.nv_examples.proofs.Refuting.{no-run}
use Rattle.nv_examples.proofs.breaches.slot_in_list.Goals as goal

pub returns-clause-no_command_failed : goal.returns-clause-no_command_failed
unfolding number_at dword qword bits bytes_of_dwords completion everywhere addresses bytes_from gathered image put_image scattered stored in_memory
    and_then asked first_read in_transcript read_array read_sgl read_entries read_source ranges_in move_units clear_units range_units judge units_moved
    opening register reg_write doorbell front took post ran_out differs start private_step run_of footprints completion_slots stores_into
    loads_from_destination admin_command admin hosts_of fit_behind built plan_over physical_entry held_of device_unit completion_written share_written
    with_tags group claimed units_behind rest_at rests_of members seat put_back acted_in administered_in taken_to listed submitted handed_on device_took
    device_moved device_posted kept_block reaped scattered_to delivered_all posted_to ran_out_of statuses_of step replay replies opening_world refusal_of
    none_failed is_disciplined taken_entries private_steps seen_by logged holds_along last_byte
returns-clause-no_command_failed c = refl

pub returns-clause-one_clause_is_broken : goal.returns-clause-one_clause_is_broken
unfolding number_at dword qword bits bytes_of_dwords completion everywhere addresses bytes_from gathered image put_image scattered stored in_memory
    and_then asked first_read in_transcript read_array read_sgl read_entries read_source ranges_in move_units clear_units range_units judge units_moved
    opening register reg_write doorbell front took post ran_out differs start private_step run_of footprints completion_slots stores_into
    loads_from_destination admin_command admin hosts_of fit_behind built plan_over physical_entry held_of device_unit completion_written share_written
    with_tags group claimed units_behind rest_at rests_of members seat put_back acted_in administered_in taken_to listed submitted handed_on device_took
    device_moved device_posted kept_block reaped scattered_to delivered_all posted_to ran_out_of statuses_of step replay replies opening_world refusal_of
    none_failed is_disciplined taken_entries private_steps seen_by logged holds_along last_byte
returns-clause-one_clause_is_broken c = refl

pub returns-clause-the_guest_is_not_disciplined : goal.returns-clause-the_guest_is_not_disciplined
unfolding number_at dword qword bits bytes_of_dwords completion everywhere addresses bytes_from gathered image put_image scattered stored in_memory
    and_then asked first_read in_transcript read_array read_sgl read_entries read_source ranges_in move_units clear_units range_units judge units_moved
    opening register reg_write doorbell front took post ran_out differs start private_step run_of footprints completion_slots stores_into
    loads_from_destination admin_command admin hosts_of fit_behind built plan_over physical_entry held_of device_unit completion_written share_written
    with_tags group claimed units_behind rest_at rests_of members seat put_back acted_in administered_in taken_to listed submitted handed_on device_took
    device_moved device_posted kept_block reaped scattered_to delivered_all posted_to ran_out_of statuses_of step replay replies opening_world refusal_of
    none_failed is_disciplined taken_entries private_steps seen_by logged holds_along last_byte
returns-clause-the_guest_is_not_disciplined c = refl

pub returns-clause-the_private_controller_refuses : goal.returns-clause-the_private_controller_refuses
unfolding number_at dword qword bits bytes_of_dwords completion everywhere addresses bytes_from gathered image put_image scattered stored in_memory
    and_then asked first_read in_transcript read_array read_sgl read_entries read_source ranges_in move_units clear_units range_units judge units_moved
    opening register reg_write doorbell front took post ran_out differs start private_step run_of footprints completion_slots stores_into
    loads_from_destination admin_command admin hosts_of fit_behind built plan_over physical_entry held_of device_unit completion_written share_written
    with_tags group claimed units_behind rest_at rests_of members seat put_back acted_in administered_in taken_to listed submitted handed_on device_took
    device_moved device_posted kept_block reaped scattered_to delivered_all posted_to ran_out_of statuses_of step replay replies opening_world refusal_of
    none_failed is_disciplined taken_entries private_steps seen_by logged holds_along last_byte
returns-clause-the_private_controller_refuses c = refl

pub returns-clause-it_has_no_such_run : goal.returns-clause-it_has_no_such_run
unfolding number_at dword qword bits bytes_of_dwords completion everywhere addresses bytes_from gathered image put_image scattered stored in_memory
    and_then asked first_read in_transcript read_array read_sgl read_entries read_source ranges_in move_units clear_units range_units judge units_moved
    opening register reg_write doorbell front took post ran_out differs start private_step run_of footprints completion_slots stores_into
    loads_from_destination admin_command admin hosts_of fit_behind built plan_over physical_entry held_of device_unit completion_written share_written
    with_tags group claimed units_behind rest_at rests_of members seat put_back acted_in administered_in taken_to listed submitted handed_on device_took
    device_moved device_posted kept_block reaped scattered_to delivered_all posted_to ran_out_of statuses_of step replay replies opening_world refusal_of
    none_failed is_disciplined taken_entries private_steps seen_by logged holds_along last_byte
returns-clause-it_has_no_such_run c f = no-run (run_of (shape_of first) (private_steps set_up.geometry 0 first (logged set_up.geometry slot_in_list opened) opened) start) f.run refl (own-run slot_in_list f)
