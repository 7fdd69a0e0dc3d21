use Rattle.std.proofs.Common.{refl}
use Rattle.nv_entry.specs.Layout.{number_at, dword, qword, bits, bytes_of_dwords}
use Rattle.nv_entry.specs.Completion.{completion}
use Rattle.nv_mem.specs.GuestMap.{everywhere}
use Rattle.nv_mem.specs.Places.{addresses}
use Rattle.nv_model.specs.Memory.{bytes_from, gathered, image, put_image, scattered, stored}
use Rattle.nv_model.specs.Dialogue.{in_memory, and_then}
use Rattle.nv_model.specs.Transcript.{first_read, in_transcript}
use Rattle.nv_model.specs.Sgl.{read_array, read_sgl}
use Rattle.nv_model.specs.Prp.{read_entries}
use Rattle.nv_model.specs.Judge.{read_source, ranges_in, move_units, clear_units, range_units, judge}
use Rattle.nv_model.specs.Carried.{units_moved}
use Rattle.nv_model.specs.Controller.{opening, register, reg_write, doorbell, front, took, post, ran_out}
use Rattle.nv_model.specs.Private.{differs, step as private_step, run_of}
use Rattle.nv_prp.specs.Fits.{hosts_of, fit_behind}
use Rattle.nv_prp.specs.Built.{built}
use Rattle.nv_world_model.specs.Plan.{plan_over}
use Rattle.nv_world_model.specs.Area.{physical_entry}
use Rattle.nv_world_model.specs.Device.{held_of, device_unit, completion_written}
use Rattle.nv_world_model.specs.ShareArea.{share_written}
use Rattle.nv_world_model.specs.World.{with_tags, group, claimed}
use Rattle.nv_world_model.specs.Seat.{units_behind, rest_at, rests_of, members, seat, put_back}
use Rattle.nv_world_model.specs.Step.{acted_in, administered_in, taken_to, listed, submitted, handed_on, device_took, device_moved}
use Rattle.nv_world_model.specs.Step.{device_posted, kept_block, reaped, scattered_to, delivered_all, posted_to, ran_out_of, statuses_of}
use Rattle.nv_world_model.specs.Step.{step, replay, replies}
use Rattle.nv_model.specs.Admin.{admin_command, admin}
use Rattle.nv_world_model.specs.PrivateSteps.{private_steps}
use Rattle.nv_world_model.specs.RowsSteps.{logged}
use Rattle.nv_world_model.proofs.rows.private_steps.examples.Goals as goal

pub returns-clause-the_steps_of_a_direct_read : goal.returns-clause-the_steps_of_a_direct_read
unfolding number_at dword qword bits bytes_of_dwords completion everywhere addresses bytes_from stored gathered scattered image in_memory and_then
    first_read in_transcript read_array read_sgl read_entries read_source ranges_in move_units clear_units range_units judge units_moved opening register
    reg_write doorbell front took post ran_out differs private_step run_of hosts_of fit_behind built plan_over physical_entry held_of device_unit
    completion_written share_written with_tags group claimed put_image units_behind rest_at rests_of members seat put_back acted_in administered_in
    taken_to listed submitted handed_on device_took device_moved device_posted kept_block reaped scattered_to delivered_all posted_to ran_out_of
    statuses_of step replay replies admin_command admin private_steps logged
returns-clause-the_steps_of_a_direct_read c = refl

pub returns-clause-they_end_with_the_same_completion : goal.returns-clause-they_end_with_the_same_completion
unfolding number_at dword qword bits bytes_of_dwords completion everywhere addresses bytes_from stored gathered scattered image in_memory and_then
    first_read in_transcript read_array read_sgl read_entries read_source ranges_in move_units clear_units range_units judge units_moved opening register
    reg_write doorbell front took post ran_out differs private_step run_of hosts_of fit_behind built plan_over physical_entry held_of device_unit
    completion_written share_written with_tags group claimed put_image units_behind rest_at rests_of members seat put_back acted_in administered_in
    taken_to listed submitted handed_on device_took device_moved device_posted kept_block reaped scattered_to delivered_all posted_to ran_out_of
    statuses_of step replay replies admin_command admin private_steps logged
returns-clause-they_end_with_the_same_completion c = refl

pub returns-clause-they_end_with_the_same_block : goal.returns-clause-they_end_with_the_same_block
unfolding number_at dword qword bits bytes_of_dwords completion everywhere addresses bytes_from stored gathered scattered image in_memory and_then
    first_read in_transcript read_array read_sgl read_entries read_source ranges_in move_units clear_units range_units judge units_moved opening register
    reg_write doorbell front took post ran_out differs private_step run_of hosts_of fit_behind built plan_over physical_entry held_of device_unit
    completion_written share_written with_tags group claimed put_image units_behind rest_at rests_of members seat put_back acted_in administered_in
    taken_to listed submitted handed_on device_took device_moved device_posted kept_block reaped scattered_to delivered_all posted_to ran_out_of
    statuses_of step replay replies admin_command admin private_steps logged
returns-clause-they_end_with_the_same_block c = refl

pub returns-clause-a_bounced_read_moves_with_the_device : goal.returns-clause-a_bounced_read_moves_with_the_device
unfolding number_at dword qword bits bytes_of_dwords completion everywhere addresses bytes_from stored gathered scattered image in_memory and_then
    first_read in_transcript read_array read_sgl read_entries read_source ranges_in move_units clear_units range_units judge units_moved opening register
    reg_write doorbell front took post ran_out differs private_step run_of hosts_of fit_behind built plan_over physical_entry held_of device_unit
    completion_written share_written with_tags group claimed put_image units_behind rest_at rests_of members seat put_back acted_in administered_in
    taken_to listed submitted handed_on device_took device_moved device_posted kept_block reaped scattered_to delivered_all posted_to ran_out_of
    statuses_of step replay replies admin_command admin private_steps logged
returns-clause-a_bounced_read_moves_with_the_device c = refl

pub returns-clause-nothing_taken_is_no_step : goal.returns-clause-nothing_taken_is_no_step
unfolding number_at dword qword bits bytes_of_dwords completion everywhere addresses bytes_from stored gathered scattered image in_memory and_then
    first_read in_transcript read_array read_sgl read_entries read_source ranges_in move_units clear_units range_units judge units_moved opening register
    reg_write doorbell front took post ran_out differs private_step run_of hosts_of fit_behind built plan_over physical_entry held_of device_unit
    completion_written share_written with_tags group claimed put_image units_behind rest_at rests_of members seat put_back acted_in administered_in
    taken_to listed submitted handed_on device_took device_moved device_posted kept_block reaped scattered_to delivered_all posted_to ran_out_of
    statuses_of step replay replies admin_command admin private_steps logged
returns-clause-nothing_taken_is_no_step c = refl

pub returns-clause-a_name_tells_the_lane : goal.returns-clause-a_name_tells_the_lane
unfolding number_at dword qword bits bytes_of_dwords completion everywhere addresses bytes_from stored gathered scattered image in_memory and_then
    first_read in_transcript read_array read_sgl read_entries read_source ranges_in move_units clear_units range_units judge units_moved opening register
    reg_write doorbell front took post ran_out differs private_step run_of hosts_of fit_behind built plan_over physical_entry held_of device_unit
    completion_written share_written with_tags group claimed put_image units_behind rest_at rests_of members seat put_back acted_in administered_in
    taken_to listed submitted handed_on device_took device_moved device_posted kept_block reaped scattered_to delivered_all posted_to ran_out_of
    statuses_of step replay replies admin_command admin private_steps logged
returns-clause-a_name_tells_the_lane c = refl

pub returns-clause-a_range_is_the_units_of_its_blocks : goal.returns-clause-a_range_is_the_units_of_its_blocks
unfolding number_at dword qword bits bytes_of_dwords completion everywhere addresses bytes_from stored gathered scattered image in_memory and_then
    first_read in_transcript read_array read_sgl read_entries read_source ranges_in move_units clear_units range_units judge units_moved opening register
    reg_write doorbell front took post ran_out differs private_step run_of hosts_of fit_behind built plan_over physical_entry held_of device_unit
    completion_written share_written with_tags group claimed put_image units_behind rest_at rests_of members seat put_back acted_in administered_in
    taken_to listed submitted handed_on device_took device_moved device_posted kept_block reaped scattered_to delivered_all posted_to ran_out_of
    statuses_of step replay replies admin_command admin private_steps logged
returns-clause-a_range_is_the_units_of_its_blocks c = refl

pub returns-clause-a_range_of_no_blocks_is_no_step : goal.returns-clause-a_range_of_no_blocks_is_no_step
unfolding number_at dword qword bits bytes_of_dwords completion everywhere addresses bytes_from stored gathered scattered image in_memory and_then
    first_read in_transcript read_array read_sgl read_entries read_source ranges_in move_units clear_units range_units judge units_moved opening register
    reg_write doorbell front took post ran_out differs private_step run_of hosts_of fit_behind built plan_over physical_entry held_of device_unit
    completion_written share_written with_tags group claimed put_image units_behind rest_at rests_of members seat put_back acted_in administered_in
    taken_to listed submitted handed_on device_took device_moved device_posted kept_block reaped scattered_to delivered_all posted_to ran_out_of
    statuses_of step replay replies admin_command admin private_steps logged
returns-clause-a_range_of_no_blocks_is_no_step c = refl

pub returns-clause-a_range_behind_one_of_no_blocks : goal.returns-clause-a_range_behind_one_of_no_blocks
unfolding number_at dword qword bits bytes_of_dwords completion everywhere addresses bytes_from stored gathered scattered image in_memory and_then
    first_read in_transcript read_array read_sgl read_entries read_source ranges_in move_units clear_units range_units judge units_moved opening register
    reg_write doorbell front took post ran_out differs private_step run_of hosts_of fit_behind built plan_over physical_entry held_of device_unit
    completion_written share_written with_tags group claimed put_image units_behind rest_at rests_of members seat put_back acted_in administered_in
    taken_to listed submitted handed_on device_took device_moved device_posted kept_block reaped scattered_to delivered_all posted_to ran_out_of
    statuses_of step replay replies admin_command admin private_steps logged
returns-clause-a_range_behind_one_of_no_blocks c = refl

pub returns-clause-two_ranges_are_a_run : goal.returns-clause-two_ranges_are_a_run
unfolding number_at dword qword bits bytes_of_dwords completion everywhere addresses bytes_from stored gathered scattered image in_memory and_then
    first_read in_transcript read_array read_sgl read_entries read_source ranges_in move_units clear_units range_units judge units_moved opening register
    reg_write doorbell front took post ran_out differs private_step run_of hosts_of fit_behind built plan_over physical_entry held_of device_unit
    completion_written share_written with_tags group claimed put_image units_behind rest_at rests_of members seat put_back acted_in administered_in
    taken_to listed submitted handed_on device_took device_moved device_posted kept_block reaped scattered_to delivered_all posted_to ran_out_of
    statuses_of step replay replies admin_command admin private_steps logged
returns-clause-two_ranges_are_a_run c = refl

pub returns-clause-a_flush_is_one_step : goal.returns-clause-a_flush_is_one_step
unfolding number_at dword qword bits bytes_of_dwords completion everywhere addresses bytes_from stored gathered scattered image in_memory and_then
    first_read in_transcript read_array read_sgl read_entries read_source ranges_in move_units clear_units range_units judge units_moved opening register
    reg_write doorbell front took post ran_out differs private_step run_of hosts_of fit_behind built plan_over physical_entry held_of device_unit
    completion_written share_written with_tags group claimed put_image units_behind rest_at rests_of members seat put_back acted_in administered_in
    taken_to listed submitted handed_on device_took device_moved device_posted kept_block reaped scattered_to delivered_all posted_to ran_out_of
    statuses_of step replay replies admin_command admin private_steps logged
returns-clause-a_flush_is_one_step c = refl

pub returns-clause-anothers_flush_keeps_each_block : goal.returns-clause-anothers_flush_keeps_each_block
unfolding number_at dword qword bits bytes_of_dwords completion everywhere addresses bytes_from stored gathered scattered image in_memory and_then
    first_read in_transcript read_array read_sgl read_entries read_source ranges_in move_units clear_units range_units judge units_moved opening register
    reg_write doorbell front took post ran_out differs private_step run_of hosts_of fit_behind built plan_over physical_entry held_of device_unit
    completion_written share_written with_tags group claimed put_image units_behind rest_at rests_of members seat put_back acted_in administered_in
    taken_to listed submitted handed_on device_took device_moved device_posted kept_block reaped scattered_to delivered_all posted_to ran_out_of
    statuses_of step replay replies admin_command admin private_steps logged
returns-clause-anothers_flush_keeps_each_block c = refl

pub returns-clause-anothers_read_is_no_step : goal.returns-clause-anothers_read_is_no_step
unfolding number_at dword qword bits bytes_of_dwords completion everywhere addresses bytes_from stored gathered scattered image in_memory and_then
    first_read in_transcript read_array read_sgl read_entries read_source ranges_in move_units clear_units range_units judge units_moved opening register
    reg_write doorbell front took post ran_out differs private_step run_of hosts_of fit_behind built plan_over physical_entry held_of device_unit
    completion_written share_written with_tags group claimed put_image units_behind rest_at rests_of members seat put_back acted_in administered_in
    taken_to listed submitted handed_on device_took device_moved device_posted kept_block reaped scattered_to delivered_all posted_to ran_out_of
    statuses_of step replay replies admin_command admin private_steps logged
returns-clause-anothers_read_is_no_step c = refl

pub returns-clause-each_has_its_own : goal.returns-clause-each_has_its_own
unfolding number_at dword qword bits bytes_of_dwords completion everywhere addresses bytes_from stored gathered scattered image in_memory and_then
    first_read in_transcript read_array read_sgl read_entries read_source ranges_in move_units clear_units range_units judge units_moved opening register
    reg_write doorbell front took post ran_out differs private_step run_of hosts_of fit_behind built plan_over physical_entry held_of device_unit
    completion_written share_written with_tags group claimed put_image units_behind rest_at rests_of members seat put_back acted_in administered_in
    taken_to listed submitted handed_on device_took device_moved device_posted kept_block reaped scattered_to delivered_all posted_to ran_out_of
    statuses_of step replay replies admin_command admin private_steps logged
returns-clause-each_has_its_own c = refl

pub returns-clause-a_keep_is_a_step_of_one_guest : goal.returns-clause-a_keep_is_a_step_of_one_guest
unfolding number_at dword qword bits bytes_of_dwords completion everywhere addresses bytes_from stored gathered scattered image in_memory and_then
    first_read in_transcript read_array read_sgl read_entries read_source ranges_in move_units clear_units range_units judge units_moved opening register
    reg_write doorbell front took post ran_out differs private_step run_of hosts_of fit_behind built plan_over physical_entry held_of device_unit
    completion_written share_written with_tags group claimed put_image units_behind rest_at rests_of members seat put_back acted_in administered_in
    taken_to listed submitted handed_on device_took device_moved device_posted kept_block reaped scattered_to delivered_all posted_to ran_out_of
    statuses_of step replay replies admin_command admin private_steps logged
returns-clause-a_keep_is_a_step_of_one_guest c = refl

pub returns-clause-acts_are_steps : goal.returns-clause-acts_are_steps
unfolding number_at dword qword bits bytes_of_dwords completion everywhere addresses bytes_from stored gathered scattered image in_memory and_then
    first_read in_transcript read_array read_sgl read_entries read_source ranges_in move_units clear_units range_units judge units_moved opening register
    reg_write doorbell front took post ran_out differs private_step run_of hosts_of fit_behind built plan_over physical_entry held_of device_unit
    completion_written share_written with_tags group claimed put_image units_behind rest_at rests_of members seat put_back acted_in administered_in
    taken_to listed submitted handed_on device_took device_moved device_posted kept_block reaped scattered_to delivered_all posted_to ran_out_of
    statuses_of step replay replies admin_command admin private_steps logged
returns-clause-acts_are_steps c = refl

pub returns-clause-giving_up_is_a_step : goal.returns-clause-giving_up_is_a_step
unfolding number_at dword qword bits bytes_of_dwords completion everywhere addresses bytes_from stored gathered scattered image in_memory and_then
    first_read in_transcript read_array read_sgl read_entries read_source ranges_in move_units clear_units range_units judge units_moved opening register
    reg_write doorbell front took post ran_out differs private_step run_of hosts_of fit_behind built plan_over physical_entry held_of device_unit
    completion_written share_written with_tags group claimed put_image units_behind rest_at rests_of members seat put_back acted_in administered_in
    taken_to listed submitted handed_on device_took device_moved device_posted kept_block reaped scattered_to delivered_all posted_to ran_out_of
    statuses_of step replay replies admin_command admin private_steps logged
returns-clause-giving_up_is_a_step c = refl

pub returns-clause-a_post_after_a_reset_runs_out : goal.returns-clause-a_post_after_a_reset_runs_out
unfolding number_at dword qword bits bytes_of_dwords completion everywhere addresses bytes_from stored gathered scattered image in_memory and_then
    first_read in_transcript read_array read_sgl read_entries read_source ranges_in move_units clear_units range_units judge units_moved opening register
    reg_write doorbell front took post ran_out differs private_step run_of hosts_of fit_behind built plan_over physical_entry held_of device_unit
    completion_written share_written with_tags group claimed put_image units_behind rest_at rests_of members seat put_back acted_in administered_in
    taken_to listed submitted handed_on device_took device_moved device_posted kept_block reaped scattered_to delivered_all posted_to ran_out_of
    statuses_of step replay replies admin_command admin private_steps logged
returns-clause-a_post_after_a_reset_runs_out c = refl

pub returns-clause-it_can_run_out : goal.returns-clause-it_can_run_out
unfolding number_at dword qword bits bytes_of_dwords completion everywhere addresses bytes_from stored gathered scattered image in_memory and_then
    first_read in_transcript read_array read_sgl read_entries read_source ranges_in move_units clear_units range_units judge units_moved opening register
    reg_write doorbell front took post ran_out differs private_step run_of hosts_of fit_behind built plan_over physical_entry held_of device_unit
    completion_written share_written with_tags group claimed put_image units_behind rest_at rests_of members seat put_back acted_in administered_in
    taken_to listed submitted handed_on device_took device_moved device_posted kept_block reaped scattered_to delivered_all posted_to ran_out_of
    statuses_of step replay replies admin_command admin private_steps logged
returns-clause-it_can_run_out c = refl

pub returns-clause-a_failure_is_no_run : goal.returns-clause-a_failure_is_no_run
unfolding number_at dword qword bits bytes_of_dwords completion everywhere addresses bytes_from stored gathered scattered image in_memory and_then
    first_read in_transcript read_array read_sgl read_entries read_source ranges_in move_units clear_units range_units judge units_moved opening register
    reg_write doorbell front took post ran_out differs private_step run_of hosts_of fit_behind built plan_over physical_entry held_of device_unit
    completion_written share_written with_tags group claimed put_image units_behind rest_at rests_of members seat put_back acted_in administered_in
    taken_to listed submitted handed_on device_took device_moved device_posted kept_block reaped scattered_to delivered_all posted_to ran_out_of
    statuses_of step replay replies admin_command admin private_steps logged
returns-clause-a_failure_is_no_run c = refl

pub returns-clause-a_list_that_is_too_long_is_judged : goal.returns-clause-a_list_that_is_too_long_is_judged
unfolding number_at dword qword bits bytes_of_dwords completion everywhere addresses bytes_from stored gathered scattered image in_memory and_then
    first_read in_transcript read_array read_sgl read_entries read_source ranges_in move_units clear_units range_units judge units_moved opening register
    reg_write doorbell front took post ran_out differs private_step run_of hosts_of fit_behind built plan_over physical_entry held_of device_unit
    completion_written share_written with_tags group claimed put_image units_behind rest_at rests_of members seat put_back acted_in administered_in
    taken_to listed submitted handed_on device_took device_moved device_posted kept_block reaped scattered_to delivered_all posted_to ran_out_of
    statuses_of step replay replies admin_command admin private_steps logged
returns-clause-a_list_that_is_too_long_is_judged c = refl

pub returns-clause-a_private_controller_has_the_guests_limit : goal.returns-clause-a_private_controller_has_the_guests_limit
unfolding number_at dword qword bits bytes_of_dwords completion everywhere addresses bytes_from stored gathered scattered image in_memory and_then
    first_read in_transcript read_array read_sgl read_entries read_source ranges_in move_units clear_units range_units judge units_moved opening register
    reg_write doorbell front took post ran_out differs private_step run_of hosts_of fit_behind built plan_over physical_entry held_of device_unit
    completion_written share_written with_tags group claimed put_image units_behind rest_at rests_of members seat put_back acted_in administered_in
    taken_to listed submitted handed_on device_took device_moved device_posted kept_block reaped scattered_to delivered_all posted_to ran_out_of
    statuses_of step replay replies admin_command admin private_steps logged
returns-clause-a_private_controller_has_the_guests_limit c = refl

pub returns-clause-a_list_past_it_is_an_internal_error : goal.returns-clause-a_list_past_it_is_an_internal_error
unfolding number_at dword qword bits bytes_of_dwords completion everywhere addresses bytes_from stored gathered scattered image in_memory and_then
    first_read in_transcript read_array read_sgl read_entries read_source ranges_in move_units clear_units range_units judge units_moved opening register
    reg_write doorbell front took post ran_out differs private_step run_of hosts_of fit_behind built plan_over physical_entry held_of device_unit
    completion_written share_written with_tags group claimed put_image units_behind rest_at rests_of members seat put_back acted_in administered_in
    taken_to listed submitted handed_on device_took device_moved device_posted kept_block reaped scattered_to delivered_all posted_to ran_out_of
    statuses_of step replay replies admin_command admin private_steps logged
returns-clause-a_list_past_it_is_an_internal_error c = refl
