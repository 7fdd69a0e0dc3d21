use Rattle.std.proofs.Common.{refl}
use Rattle.nv_entry.specs.Layout.{number_at, dword, qword, bits, bytes_of_dwords}
use Rattle.nv_entry.specs.Completion.{completion}
use Rattle.nv_mem.specs.GuestMap.{everywhere}
use Rattle.nv_mem.specs.Places.{addresses}
use Rattle.nv_model.specs.Memory.{bytes_from, gathered, image, put_image, scattered, stored}
use Rattle.nv_model.specs.Dialogue.{in_memory, and_then, asked}
use Rattle.nv_model.specs.Transcript.{first_read, in_transcript}
use Rattle.nv_model.specs.Sgl.{read_array, read_sgl}
use Rattle.nv_model.specs.Prp.{read_entries}
use Rattle.nv_model.specs.Judge.{read_source, ranges_in, move_units, clear_units, range_units, judge}
use Rattle.nv_model.specs.Carried.{units_moved}
use Rattle.nv_model.specs.Controller.{opening, register, reg_write, doorbell, front, took, post, ran_out}
use Rattle.nv_model.specs.Private.{differs, start, step as private_step, run_of}
use Rattle.nv_model.specs.Footprint.{footprints, completion_slots, stores_into, loads_from_destination}
use Rattle.nv_model.specs.Admin.{admin_command, admin}
use Rattle.nv_prp.specs.Fits.{hosts_of, fit_behind}
use Rattle.nv_prp.specs.Built.{built}
use Rattle.nv_world_model.specs.Plan.{plan_over}
use Rattle.nv_world_model.specs.Area.{physical_entry}
use Rattle.nv_world_model.specs.Device.{held_of, device_unit, completion_written}
use Rattle.nv_world_model.specs.ShareArea.{share_written}
use Rattle.nv_world_model.specs.World.{claimed, group, opening_world, with_tags}
use Rattle.nv_world_model.specs.Seat.{members, put_back, rest_at, rests_of, seat, units_behind}
use Rattle.nv_world_model.specs.Step.{acted_in, administered_in, delivered_all, device_moved, device_posted, device_took, handed_on, kept_block, listed}
use Rattle.nv_world_model.specs.Step.{posted_to, ran_out_of, reaped, replay, replies, scattered_to, statuses_of, step, submitted, taken_to}
use Rattle.nv_world_model.specs.Headline.{none_failed}
use Rattle.nv_world_model.specs.Disciplined.{is_disciplined, taken_entries}
use Rattle.nv_world_model.specs.PrivateSteps.{private_steps, seen_by}
use Rattle.nv_examples.specs.Logs.{logged}
use Rattle.std.proofs.lemmas.Bool.{eqb-false}
use Rattle.std.proofs.Common.{ltb-true}
use Rattle.nv_examples.specs.Stepping.{disciplined_by, logged_by, replay_by, steps_by}
use Rattle.nv_examples.specs.extents.Guests.{first}
use Rattle.nv_examples.specs.extents.WrongWorlds.{all_told, run_by, whole_length, world_by, written_over}
use Rattle.nv_examples.proofs.Refuting.{other-block}
use Rattle.nv_examples.proofs.extents.wrong_worlds.a_part_with_the_whole_length.Goals as goal

pub returns-clause-disciplined : goal.returns-clause-disciplined
unfolding number_at dword qword bits bytes_of_dwords completion everywhere addresses bytes_from gathered image put_image scattered stored in_memory
    and_then asked first_read in_transcript read_array read_sgl read_entries read_source ranges_in move_units clear_units range_units judge
    units_moved opening register reg_write doorbell front took post ran_out differs start private_step run_of footprints completion_slots stores_into
    loads_from_destination admin_command admin hosts_of fit_behind built plan_over physical_entry held_of device_unit completion_written share_written
    claimed group opening_world with_tags members put_back rest_at rests_of seat units_behind acted_in administered_in delivered_all device_moved
    device_posted device_took handed_on kept_block listed posted_to ran_out_of reaped replay replies scattered_to statuses_of step submitted taken_to
    none_failed is_disciplined taken_entries private_steps seen_by logged replay_by logged_by steps_by disciplined_by all_told
returns-clause-disciplined c = refl

pub returns-clause-its_own_step : goal.returns-clause-its_own_step
unfolding number_at dword qword bits bytes_of_dwords completion everywhere addresses bytes_from gathered image put_image scattered stored in_memory
    and_then asked first_read in_transcript read_array read_sgl read_entries read_source ranges_in move_units clear_units range_units judge
    units_moved opening register reg_write doorbell front took post ran_out differs start private_step run_of footprints completion_slots stores_into
    loads_from_destination admin_command admin hosts_of fit_behind built plan_over physical_entry held_of device_unit completion_written share_written
    claimed group opening_world with_tags members put_back rest_at rests_of seat units_behind acted_in administered_in delivered_all device_moved
    device_posted device_took handed_on kept_block listed posted_to ran_out_of reaped replay replies scattered_to statuses_of step submitted taken_to
    none_failed is_disciplined taken_entries private_steps seen_by logged replay_by logged_by steps_by disciplined_by all_told
returns-clause-its_own_step c = refl

pub returns-clause-the_wrong_step : goal.returns-clause-the_wrong_step
unfolding number_at dword qword bits bytes_of_dwords completion everywhere addresses bytes_from gathered image put_image scattered stored in_memory
    and_then asked first_read in_transcript read_array read_sgl read_entries read_source ranges_in move_units clear_units range_units judge
    units_moved opening register reg_write doorbell front took post ran_out differs start private_step run_of footprints completion_slots stores_into
    loads_from_destination admin_command admin hosts_of fit_behind built plan_over physical_entry held_of device_unit completion_written share_written
    claimed group opening_world with_tags members put_back rest_at rests_of seat units_behind acted_in administered_in delivered_all device_moved
    device_posted device_took handed_on kept_block listed posted_to ran_out_of reaped replay replies scattered_to statuses_of step submitted taken_to
    none_failed is_disciplined taken_entries private_steps seen_by logged replay_by logged_by steps_by disciplined_by all_told
returns-clause-the_wrong_step c = refl

pub returns-clause-the_private_run : goal.returns-clause-the_private_run
unfolding number_at dword qword bits bytes_of_dwords completion everywhere addresses bytes_from gathered image put_image scattered stored in_memory
    and_then asked first_read in_transcript read_array read_sgl read_entries read_source ranges_in move_units clear_units range_units judge
    units_moved opening register reg_write doorbell front took post ran_out differs start private_step run_of footprints completion_slots stores_into
    loads_from_destination admin_command admin hosts_of fit_behind built plan_over physical_entry held_of device_unit completion_written share_written
    claimed group opening_world with_tags members put_back rest_at rests_of seat units_behind acted_in administered_in delivered_all device_moved
    device_posted device_took handed_on kept_block listed posted_to ran_out_of reaped replay replies scattered_to statuses_of step submitted taken_to
    none_failed is_disciplined taken_entries private_steps seen_by logged replay_by logged_by steps_by disciplined_by all_told
returns-clause-the_private_run c = refl

pub returns-clause-it_is_not_followed : goal.returns-clause-it_is_not_followed
unfolding number_at dword qword bits bytes_of_dwords completion everywhere addresses bytes_from gathered image put_image scattered stored in_memory
    and_then asked first_read in_transcript read_array read_sgl read_entries read_source ranges_in move_units clear_units range_units judge
    units_moved opening register reg_write doorbell front took post ran_out differs start private_step run_of footprints completion_slots stores_into
    loads_from_destination admin_command admin hosts_of fit_behind built plan_over physical_entry held_of device_unit completion_written share_written
    claimed group opening_world with_tags members put_back rest_at rests_of seat units_behind acted_in administered_in delivered_all device_moved
    device_posted device_took handed_on kept_block listed posted_to ran_out_of reaped replay replies scattered_to statuses_of step submitted taken_to
    none_failed is_disciplined taken_entries private_steps seen_by logged replay_by logged_by steps_by disciplined_by all_told
returns-clause-it_is_not_followed c f =
    other-block first 3 0 (run_by whole_length written_over) f.run (world_by whole_length written_over) 0 4 (ltb-true 3 4 refl) refl refl (eqb-false 0 4 refl) f.runs f.agrees

pub returns-clause-it_is_not_contained : goal.returns-clause-it_is_not_contained
unfolding number_at dword qword bits bytes_of_dwords completion everywhere addresses bytes_from gathered image put_image scattered stored in_memory
    and_then asked first_read in_transcript read_array read_sgl read_entries read_source ranges_in move_units clear_units range_units judge
    units_moved opening register reg_write doorbell front took post ran_out differs start private_step run_of footprints completion_slots stores_into
    loads_from_destination admin_command admin hosts_of fit_behind built plan_over physical_entry held_of device_unit completion_written share_written
    claimed group opening_world with_tags members put_back rest_at rests_of seat units_behind acted_in administered_in delivered_all device_moved
    device_posted device_took handed_on kept_block listed posted_to ran_out_of reaped replay replies scattered_to statuses_of step submitted taken_to
    none_failed is_disciplined taken_entries private_steps seen_by logged replay_by logged_by steps_by disciplined_by all_told
returns-clause-it_is_not_contained c k = (eqb-false 0 5 refl) (k.others.blocks 4 0 refl)
