-- What is computed of the whole log, its private run and its end
use Rattle.std.proofs.Common.{◌≡◌, ℕ, true, false, is_some, [], ◌∷◌, map, slice_get, Some, refl}
use Rattle.nv_entry.specs.Layout.{number_at, dword, qword, bits, bytes_of_dwords}
use Rattle.nv_entry.specs.Completion.{completion}
use Rattle.nv_mem.specs.GuestMap.{everywhere}
use Rattle.nv_mem.specs.Places.{addresses}
use Rattle.nv_model.specs.Memory.{bytes_from, gathered, image, put_image, scattered, stored}
use Rattle.nv_model.specs.Dialogue.{in_memory, and_then, asked}
use Rattle.nv_model.specs.Transcript.{first_read, in_transcript}
use Rattle.nv_model.specs.Sgl.{read_array, read_sgl}
use Rattle.nv_model.specs.Prp.{read_entries}
use Rattle.nv_model.specs.Judge.{read_source, ranges_in, move_units, clear_units, range_units, judge}
use Rattle.nv_model.specs.Carried.{units_moved}
use Rattle.nv_model.specs.Controller.{opening, register, reg_write, doorbell, front, took, post, ran_out}
use Rattle.nv_model.specs.Private.{differs, start, step as private_step, run_of}
use Rattle.nv_model.specs.Footprint.{footprints, completion_slots, stores_into, loads_from_destination}
use Rattle.nv_model.specs.Admin.{admin_command, admin}
use Rattle.nv_prp.specs.Fits.{hosts_of, fit_behind}
use Rattle.nv_prp.specs.Built.{built}
use Rattle.nv_world_model.specs.Plan.{plan_over}
use Rattle.nv_world_model.specs.Area.{physical_entry}
use Rattle.nv_world_model.specs.Device.{held_of, device_unit, completion_written}
use Rattle.nv_world_model.specs.ShareArea.{share_written}
use Rattle.nv_world_model.specs.World.{claimed, group, opening_world, with_tags}
use Rattle.nv_world_model.specs.Seat.{members, put_back, rest_at, rests_of, seat, units_behind}
use Rattle.nv_world_model.specs.Step.{acted_in, administered_in, delivered_all, device_moved, device_posted, device_took, handed_on, kept_block, listed}
use Rattle.nv_world_model.specs.Step.{posted_to, ran_out_of, reaped, replay, replies, scattered_to, statuses_of, step, submitted, taken_to}
use Rattle.nv_world_model.specs.Headline.{none_failed}
use Rattle.nv_world_model.specs.Disciplined.{is_disciplined, taken_entries}
use Rattle.nv_world_model.specs.PrivateSteps.{private_steps, seen_by}
use Rattle.nv_examples.specs.Logs.{logged}
use Rattle.nv_world_model.specs.Agrees.{is_awaited}
use Rattle.nv_world_model.specs.Log.{events_of, replies_of}
use Rattle.nv_examples.specs.Stepping.{seen_along}
use Rattle.nv_examples.specs.extents.Guests.{first, neighbour, opened, set_up}
use Rattle.nv_examples.specs.extents.Story.{story}
use Rattle.nv_examples.specs.extents.StoryRun.{block_of, bytes_at_end, bytes_at_places, controller_at_end, late_private, late_world, memory_in}
use Rattle.nv_examples.specs.extents.StoryRun.{read_bytes, story_end, story_private, story_run, story_steps}

pub replies-told : replies set_up (events_of story) opened ≡ replies_of story
unfolding number_at dword qword bits bytes_of_dwords completion everywhere addresses bytes_from gathered image put_image scattered stored in_memory
    and_then asked first_read in_transcript read_array read_sgl read_entries read_source ranges_in move_units clear_units range_units judge
    units_moved opening register reg_write doorbell front took post ran_out differs start private_step run_of footprints completion_slots stores_into
    loads_from_destination admin_command admin hosts_of fit_behind built plan_over physical_entry held_of device_unit completion_written share_written
    claimed group opening_world with_tags members put_back rest_at rests_of seat units_behind acted_in administered_in delivered_all device_moved
    device_posted device_took handed_on kept_block listed posted_to ran_out_of reaped replay replies scattered_to statuses_of step submitted taken_to
    none_failed is_disciplined taken_entries private_steps seen_by logged
replies-told = refl

pub none-failed : none_failed set_up 0 story opened ≡ true
unfolding number_at dword qword bits bytes_of_dwords completion everywhere addresses bytes_from gathered image put_image scattered stored in_memory
    and_then asked first_read in_transcript read_array read_sgl read_entries read_source ranges_in move_units clear_units range_units judge
    units_moved opening register reg_write doorbell front took post ran_out differs start private_step run_of footprints completion_slots stores_into
    loads_from_destination admin_command admin hosts_of fit_behind built plan_over physical_entry held_of device_unit completion_written share_written
    claimed group opening_world with_tags members put_back rest_at rests_of seat units_behind acted_in administered_in delivered_all device_moved
    device_posted device_took handed_on kept_block listed posted_to ran_out_of reaped replay replies scattered_to statuses_of step submitted taken_to
    none_failed is_disciplined taken_entries private_steps seen_by logged
none-failed = refl

pub disciplined : is_disciplined set_up 0 first story opened ≡ true
unfolding number_at dword qword bits bytes_of_dwords completion everywhere addresses bytes_from gathered image put_image scattered stored in_memory
    and_then asked first_read in_transcript read_array read_sgl read_entries read_source ranges_in move_units clear_units range_units judge
    units_moved opening register reg_write doorbell front took post ran_out differs start private_step run_of footprints completion_slots stores_into
    loads_from_destination admin_command admin hosts_of fit_behind built plan_over physical_entry held_of device_unit completion_written share_written
    claimed group opening_world with_tags members put_back rest_at rests_of seat units_behind acted_in administered_in delivered_all device_moved
    device_posted device_took handed_on kept_block listed posted_to ran_out_of reaped replay replies scattered_to statuses_of step submitted taken_to
    none_failed is_disciplined taken_entries private_steps seen_by logged
disciplined = refl

pub neighbours-failed : none_failed set_up 1 story opened ≡ false
unfolding number_at dword qword bits bytes_of_dwords completion everywhere addresses bytes_from gathered image put_image scattered stored in_memory
    and_then asked first_read in_transcript read_array read_sgl read_entries read_source ranges_in move_units clear_units range_units judge
    units_moved opening register reg_write doorbell front took post ran_out differs start private_step run_of footprints completion_slots stores_into
    loads_from_destination admin_command admin hosts_of fit_behind built plan_over physical_entry held_of device_unit completion_written share_written
    claimed group opening_world with_tags members put_back rest_at rests_of seat units_behind acted_in administered_in delivered_all device_moved
    device_posted device_took handed_on kept_block listed posted_to ran_out_of reaped replay replies scattered_to statuses_of step submitted taken_to
    none_failed is_disciplined taken_entries private_steps seen_by logged
neighbours-failed = refl

pub neighbour-is_not : is_disciplined set_up 1 neighbour story opened ≡ false
unfolding number_at dword qword bits bytes_of_dwords completion everywhere addresses bytes_from gathered image put_image scattered stored in_memory
    and_then asked first_read in_transcript read_array read_sgl read_entries read_source ranges_in move_units clear_units range_units judge
    units_moved opening register reg_write doorbell front took post ran_out differs start private_step run_of footprints completion_slots stores_into
    loads_from_destination admin_command admin hosts_of fit_behind built plan_over physical_entry held_of device_unit completion_written share_written
    claimed group opening_world with_tags members put_back rest_at rests_of seat units_behind acted_in administered_in delivered_all device_moved
    device_posted device_took handed_on kept_block listed posted_to ran_out_of reaped replay replies scattered_to statuses_of step submitted taken_to
    none_failed is_disciplined taken_entries private_steps seen_by logged
neighbour-is_not = refl

pub the-steps : private_steps set_up 0 first story opened ≡ story_steps
unfolding number_at dword qword bits bytes_of_dwords completion everywhere addresses bytes_from gathered image put_image scattered stored in_memory
    and_then asked first_read in_transcript read_array read_sgl read_entries read_source ranges_in move_units clear_units range_units judge
    units_moved opening register reg_write doorbell front took post ran_out differs start private_step run_of footprints completion_slots stores_into
    loads_from_destination admin_command admin hosts_of fit_behind built plan_over physical_entry held_of device_unit completion_written share_written
    claimed group opening_world with_tags members put_back rest_at rests_of seat units_behind acted_in administered_in delivered_all device_moved
    device_posted device_took handed_on kept_block listed posted_to ran_out_of reaped replay replies scattered_to statuses_of step submitted taken_to
    none_failed is_disciplined taken_entries private_steps seen_by logged
the-steps = refl

pub can-be-made : is_some story_run ≡ true
unfolding number_at dword qword bits bytes_of_dwords completion everywhere addresses bytes_from gathered image put_image scattered stored in_memory
    and_then asked first_read in_transcript read_array read_sgl read_entries read_source ranges_in move_units clear_units range_units judge
    units_moved opening register reg_write doorbell front took post ran_out differs start private_step run_of footprints completion_slots stores_into
    loads_from_destination admin_command admin hosts_of fit_behind built plan_over physical_entry held_of device_unit completion_written share_written
    claimed group opening_world with_tags members put_back rest_at rests_of seat units_behind acted_in administered_in delivered_all device_moved
    device_posted device_took handed_on kept_block listed posted_to ran_out_of reaped replay replies scattered_to statuses_of step submitted taken_to
    none_failed is_disciplined taken_entries private_steps seen_by logged
can-be-made = refl

pub seen-logged : seen_along story_run ≡ seen_by 0 story
unfolding number_at dword qword bits bytes_of_dwords completion everywhere addresses bytes_from gathered image put_image scattered stored in_memory
    and_then asked first_read in_transcript read_array read_sgl read_entries read_source ranges_in move_units clear_units range_units judge
    units_moved opening register reg_write doorbell front took post ran_out differs start private_step run_of footprints completion_slots stores_into
    loads_from_destination admin_command admin hosts_of fit_behind built plan_over physical_entry held_of device_unit completion_written share_written
    claimed group opening_world with_tags members put_back rest_at rests_of seat units_behind acted_in administered_in delivered_all device_moved
    device_posted device_took handed_on kept_block listed posted_to ran_out_of reaped replay replies scattered_to statuses_of step submitted taken_to
    none_failed is_disciplined taken_entries private_steps seen_by logged
seen-logged = refl

pub controller-private : story_private.controller ≡ controller_at_end
unfolding number_at dword qword bits bytes_of_dwords completion everywhere addresses bytes_from gathered image put_image scattered stored in_memory
    and_then asked first_read in_transcript read_array read_sgl read_entries read_source ranges_in move_units clear_units range_units judge
    units_moved opening register reg_write doorbell front took post ran_out differs start private_step run_of footprints completion_slots stores_into
    loads_from_destination admin_command admin hosts_of fit_behind built plan_over physical_entry held_of device_unit completion_written share_written
    claimed group opening_world with_tags members put_back rest_at rests_of seat units_behind acted_in administered_in delivered_all device_moved
    device_posted device_took handed_on kept_block listed posted_to ran_out_of reaped replay replies scattered_to statuses_of step submitted taken_to
    none_failed is_disciplined taken_entries private_steps seen_by logged
controller-private = refl

pub controller-world : slice_get story_end.controllers 0 ≡ Some controller_at_end
unfolding number_at dword qword bits bytes_of_dwords completion everywhere addresses bytes_from gathered image put_image scattered stored in_memory
    and_then asked first_read in_transcript read_array read_sgl read_entries read_source ranges_in move_units clear_units range_units judge
    units_moved opening register reg_write doorbell front took post ran_out differs start private_step run_of footprints completion_slots stores_into
    loads_from_destination admin_command admin hosts_of fit_behind built plan_over physical_entry held_of device_unit completion_written share_written
    claimed group opening_world with_tags members put_back rest_at rests_of seat units_behind acted_in administered_in delivered_all device_moved
    device_posted device_took handed_on kept_block listed posted_to ran_out_of reaped replay replies scattered_to statuses_of step submitted taken_to
    none_failed is_disciplined taken_entries private_steps seen_by logged
controller-world = refl

pub bytes-private : bytes_at_places story_private.memory ≡ bytes_at_end
unfolding number_at dword qword bits bytes_of_dwords completion everywhere addresses bytes_from gathered image put_image scattered stored in_memory
    and_then asked first_read in_transcript read_array read_sgl read_entries read_source ranges_in move_units clear_units range_units judge
    units_moved opening register reg_write doorbell front took post ran_out differs start private_step run_of footprints completion_slots stores_into
    loads_from_destination admin_command admin hosts_of fit_behind built plan_over physical_entry held_of device_unit completion_written share_written
    claimed group opening_world with_tags members put_back rest_at rests_of seat units_behind acted_in administered_in delivered_all device_moved
    device_posted device_took handed_on kept_block listed posted_to ran_out_of reaped replay replies scattered_to statuses_of step submitted taken_to
    none_failed is_disciplined taken_entries private_steps seen_by logged
bytes-private = refl

pub bytes-world : bytes_at_places (memory_in story_end) ≡ bytes_at_end
unfolding number_at dword qword bits bytes_of_dwords completion everywhere addresses bytes_from gathered image put_image scattered stored in_memory
    and_then asked first_read in_transcript read_array read_sgl read_entries read_source ranges_in move_units clear_units range_units judge
    units_moved opening register reg_write doorbell front took post ran_out differs start private_step run_of footprints completion_slots stores_into
    loads_from_destination admin_command admin hosts_of fit_behind built plan_over physical_entry held_of device_unit completion_written share_written
    claimed group opening_world with_tags members put_back rest_at rests_of seat units_behind acted_in administered_in delivered_all device_moved
    device_posted device_took handed_on kept_block listed posted_to ran_out_of reaped replay replies scattered_to statuses_of step submitted taken_to
    none_failed is_disciplined taken_entries private_steps seen_by logged
bytes-world = refl

pub block-0 : (offset : ℕ) → story_private.disk 0 offset ≡ block_of (1 ∷ 2 ∷ []) offset
unfolding number_at dword qword bits bytes_of_dwords completion everywhere addresses bytes_from gathered image put_image scattered stored in_memory
    and_then asked first_read in_transcript read_array read_sgl read_entries read_source ranges_in move_units clear_units range_units judge
    units_moved opening register reg_write doorbell front took post ran_out differs start private_step run_of footprints completion_slots stores_into
    loads_from_destination admin_command admin hosts_of fit_behind built plan_over physical_entry held_of device_unit completion_written share_written
    claimed group opening_world with_tags members put_back rest_at rests_of seat units_behind acted_in administered_in delivered_all device_moved
    device_posted device_took handed_on kept_block listed posted_to ran_out_of reaped replay replies scattered_to statuses_of step submitted taken_to
    none_failed is_disciplined taken_entries private_steps seen_by logged
block-0 offset = refl

pub disk-2 : (offset : ℕ) → story_end.disk 2 offset ≡ block_of (1 ∷ 2 ∷ []) offset
unfolding number_at dword qword bits bytes_of_dwords completion everywhere addresses bytes_from gathered image put_image scattered stored in_memory
    and_then asked first_read in_transcript read_array read_sgl read_entries read_source ranges_in move_units clear_units range_units judge
    units_moved opening register reg_write doorbell front took post ran_out differs start private_step run_of footprints completion_slots stores_into
    loads_from_destination admin_command admin hosts_of fit_behind built plan_over physical_entry held_of device_unit completion_written share_written
    claimed group opening_world with_tags members put_back rest_at rests_of seat units_behind acted_in administered_in delivered_all device_moved
    device_posted device_took handed_on kept_block listed posted_to ran_out_of reaped replay replies scattered_to statuses_of step submitted taken_to
    none_failed is_disciplined taken_entries private_steps seen_by logged
disk-2 offset = refl

pub block-1 : (offset : ℕ) → story_private.disk 1 offset ≡ block_of [] offset
unfolding number_at dword qword bits bytes_of_dwords completion everywhere addresses bytes_from gathered image put_image scattered stored in_memory
    and_then asked first_read in_transcript read_array read_sgl read_entries read_source ranges_in move_units clear_units range_units judge
    units_moved opening register reg_write doorbell front took post ran_out differs start private_step run_of footprints completion_slots stores_into
    loads_from_destination admin_command admin hosts_of fit_behind built plan_over physical_entry held_of device_unit completion_written share_written
    claimed group opening_world with_tags members put_back rest_at rests_of seat units_behind acted_in administered_in delivered_all device_moved
    device_posted device_took handed_on kept_block listed posted_to ran_out_of reaped replay replies scattered_to statuses_of step submitted taken_to
    none_failed is_disciplined taken_entries private_steps seen_by logged
block-1 offset = refl

pub disk-3 : (offset : ℕ) → story_end.disk 3 offset ≡ block_of [] offset
unfolding number_at dword qword bits bytes_of_dwords completion everywhere addresses bytes_from gathered image put_image scattered stored in_memory
    and_then asked first_read in_transcript read_array read_sgl read_entries read_source ranges_in move_units clear_units range_units judge
    units_moved opening register reg_write doorbell front took post ran_out differs start private_step run_of footprints completion_slots stores_into
    loads_from_destination admin_command admin hosts_of fit_behind built plan_over physical_entry held_of device_unit completion_written share_written
    claimed group opening_world with_tags members put_back rest_at rests_of seat units_behind acted_in administered_in delivered_all device_moved
    device_posted device_took handed_on kept_block listed posted_to ran_out_of reaped replay replies scattered_to statuses_of step submitted taken_to
    none_failed is_disciplined taken_entries private_steps seen_by logged
disk-3 offset = refl

pub block-2 : (offset : ℕ) → story_private.disk 2 offset ≡ block_of [] offset
unfolding number_at dword qword bits bytes_of_dwords completion everywhere addresses bytes_from gathered image put_image scattered stored in_memory
    and_then asked first_read in_transcript read_array read_sgl read_entries read_source ranges_in move_units clear_units range_units judge
    units_moved opening register reg_write doorbell front took post ran_out differs start private_step run_of footprints completion_slots stores_into
    loads_from_destination admin_command admin hosts_of fit_behind built plan_over physical_entry held_of device_unit completion_written share_written
    claimed group opening_world with_tags members put_back rest_at rests_of seat units_behind acted_in administered_in delivered_all device_moved
    device_posted device_took handed_on kept_block listed posted_to ran_out_of reaped replay replies scattered_to statuses_of step submitted taken_to
    none_failed is_disciplined taken_entries private_steps seen_by logged
block-2 offset = refl

pub disk-9 : (offset : ℕ) → story_end.disk 9 offset ≡ block_of [] offset
unfolding number_at dword qword bits bytes_of_dwords completion everywhere addresses bytes_from gathered image put_image scattered stored in_memory
    and_then asked first_read in_transcript read_array read_sgl read_entries read_source ranges_in move_units clear_units range_units judge
    units_moved opening register reg_write doorbell front took post ran_out differs start private_step run_of footprints completion_slots stores_into
    loads_from_destination admin_command admin hosts_of fit_behind built plan_over physical_entry held_of device_unit completion_written share_written
    claimed group opening_world with_tags members put_back rest_at rests_of seat units_behind acted_in administered_in delivered_all device_moved
    device_posted device_took handed_on kept_block listed posted_to ran_out_of reaped replay replies scattered_to statuses_of step submitted taken_to
    none_failed is_disciplined taken_entries private_steps seen_by logged
disk-9 offset = refl

pub block-3 : (offset : ℕ) → story_private.disk 3 offset ≡ block_of (4 ∷ []) offset
unfolding number_at dword qword bits bytes_of_dwords completion everywhere addresses bytes_from gathered image put_image scattered stored in_memory
    and_then asked first_read in_transcript read_array read_sgl read_entries read_source ranges_in move_units clear_units range_units judge
    units_moved opening register reg_write doorbell front took post ran_out differs start private_step run_of footprints completion_slots stores_into
    loads_from_destination admin_command admin hosts_of fit_behind built plan_over physical_entry held_of device_unit completion_written share_written
    claimed group opening_world with_tags members put_back rest_at rests_of seat units_behind acted_in administered_in delivered_all device_moved
    device_posted device_took handed_on kept_block listed posted_to ran_out_of reaped replay replies scattered_to statuses_of step submitted taken_to
    none_failed is_disciplined taken_entries private_steps seen_by logged
block-3 offset = refl

pub disk-10 : (offset : ℕ) → story_end.disk 10 offset ≡ block_of (4 ∷ []) offset
unfolding number_at dword qword bits bytes_of_dwords completion everywhere addresses bytes_from gathered image put_image scattered stored in_memory
    and_then asked first_read in_transcript read_array read_sgl read_entries read_source ranges_in move_units clear_units range_units judge
    units_moved opening register reg_write doorbell front took post ran_out differs start private_step run_of footprints completion_slots stores_into
    loads_from_destination admin_command admin hosts_of fit_behind built plan_over physical_entry held_of device_unit completion_written share_written
    claimed group opening_world with_tags members put_back rest_at rests_of seat units_behind acted_in administered_in delivered_all device_moved
    device_posted device_took handed_on kept_block listed posted_to ran_out_of reaped replay replies scattered_to statuses_of step submitted taken_to
    none_failed is_disciplined taken_entries private_steps seen_by logged
disk-10 offset = refl

pub marks-private : map story_private.kept (0 ∷ 1 ∷ 2 ∷ 3 ∷ []) ≡ true ∷ false ∷ true ∷ true ∷ []
unfolding number_at dword qword bits bytes_of_dwords completion everywhere addresses bytes_from gathered image put_image scattered stored in_memory
    and_then asked first_read in_transcript read_array read_sgl read_entries read_source ranges_in move_units clear_units range_units judge
    units_moved opening register reg_write doorbell front took post ran_out differs start private_step run_of footprints completion_slots stores_into
    loads_from_destination admin_command admin hosts_of fit_behind built plan_over physical_entry held_of device_unit completion_written share_written
    claimed group opening_world with_tags members put_back rest_at rests_of seat units_behind acted_in administered_in delivered_all device_moved
    device_posted device_took handed_on kept_block listed posted_to ran_out_of reaped replay replies scattered_to statuses_of step submitted taken_to
    none_failed is_disciplined taken_entries private_steps seen_by logged
marks-private = refl

pub marks-world : map story_end.kept (2 ∷ 3 ∷ 9 ∷ 10 ∷ []) ≡ true ∷ false ∷ true ∷ true ∷ []
unfolding number_at dword qword bits bytes_of_dwords completion everywhere addresses bytes_from gathered image put_image scattered stored in_memory
    and_then asked first_read in_transcript read_array read_sgl read_entries read_source ranges_in move_units clear_units range_units judge
    units_moved opening register reg_write doorbell front took post ran_out differs start private_step run_of footprints completion_slots stores_into
    loads_from_destination admin_command admin hosts_of fit_behind built plan_over physical_entry held_of device_unit completion_written share_written
    claimed group opening_world with_tags members put_back rest_at rests_of seat units_behind acted_in administered_in delivered_all device_moved
    device_posted device_took handed_on kept_block listed posted_to ran_out_of reaped replay replies scattered_to statuses_of step submitted taken_to
    none_failed is_disciplined taken_entries private_steps seen_by logged
marks-world = refl

pub moved-private : read_bytes late_private.memory ≡ 7 ∷ 8 ∷ 9 ∷ 5 ∷ 6 ∷ []
unfolding number_at dword qword bits bytes_of_dwords completion everywhere addresses bytes_from gathered image put_image scattered stored in_memory
    and_then asked first_read in_transcript read_array read_sgl read_entries read_source ranges_in move_units clear_units range_units judge
    units_moved opening register reg_write doorbell front took post ran_out differs start private_step run_of footprints completion_slots stores_into
    loads_from_destination admin_command admin hosts_of fit_behind built plan_over physical_entry held_of device_unit completion_written share_written
    claimed group opening_world with_tags members put_back rest_at rests_of seat units_behind acted_in administered_in delivered_all device_moved
    device_posted device_took handed_on kept_block listed posted_to ran_out_of reaped replay replies scattered_to statuses_of step submitted taken_to
    none_failed is_disciplined taken_entries private_steps seen_by logged
moved-private = refl

pub moved-world : read_bytes (memory_in late_world) ≡ 0 ∷ 0 ∷ 0 ∷ 0 ∷ 0 ∷ []
unfolding number_at dword qword bits bytes_of_dwords completion everywhere addresses bytes_from gathered image put_image scattered stored in_memory
    and_then asked first_read in_transcript read_array read_sgl read_entries read_source ranges_in move_units clear_units range_units judge
    units_moved opening register reg_write doorbell front took post ran_out differs start private_step run_of footprints completion_slots stores_into
    loads_from_destination admin_command admin hosts_of fit_behind built plan_over physical_entry held_of device_unit completion_written share_written
    claimed group opening_world with_tags members put_back rest_at rests_of seat units_behind acted_in administered_in delivered_all device_moved
    device_posted device_took handed_on kept_block listed posted_to ran_out_of reaped replay replies scattered_to statuses_of step submitted taken_to
    none_failed is_disciplined taken_entries private_steps seen_by logged
moved-world = refl

pub moved-awaited : map (is_awaited 0 first late_world) (0x1801 ∷ 0x1a01 ∷ []) ≡ true ∷ true ∷ []
unfolding number_at dword qword bits bytes_of_dwords completion everywhere addresses bytes_from gathered image put_image scattered stored in_memory
    and_then asked first_read in_transcript read_array read_sgl read_entries read_source ranges_in move_units clear_units range_units judge
    units_moved opening register reg_write doorbell front took post ran_out differs start private_step run_of footprints completion_slots stores_into
    loads_from_destination admin_command admin hosts_of fit_behind built plan_over physical_entry held_of device_unit completion_written share_written
    claimed group opening_world with_tags members put_back rest_at rests_of seat units_behind acted_in administered_in delivered_all device_moved
    device_posted device_took handed_on kept_block listed posted_to ran_out_of reaped replay replies scattered_to statuses_of step submitted taken_to
    none_failed is_disciplined taken_entries private_steps seen_by logged
moved-awaited = refl
