use Rattle.std.proofs.Common.{refl}
use Rattle.nv_entry.specs.Layout.{number_at, dword, qword, bits, bytes_of_dwords}
use Rattle.nv_entry.specs.Completion.{completion}
use Rattle.nv_mem.specs.GuestMap.{everywhere}
use Rattle.nv_mem.specs.Places.{addresses}
use Rattle.nv_model.specs.Memory.{bytes_from, gathered, image, put_image, scattered, stored}
use Rattle.nv_model.specs.Dialogue.{in_memory, and_then}
use Rattle.nv_model.specs.Transcript.{first_read, in_transcript}
use Rattle.nv_model.specs.Sgl.{read_array, read_sgl}
use Rattle.nv_model.specs.Prp.{read_entries}
use Rattle.nv_model.specs.Judge.{read_source, ranges_in, move_units, clear_units, range_units, judge}
use Rattle.nv_model.specs.Carried.{units_moved}
use Rattle.nv_model.specs.Controller.{opening, register, reg_write, doorbell, front, took, post, ran_out}
use Rattle.nv_model.specs.Private.{differs}
use Rattle.nv_prp.specs.Fits.{hosts_of, fit_behind}
use Rattle.nv_prp.specs.Built.{built}
use Rattle.nv_world_model.specs.Plan.{plan_over}
use Rattle.nv_world_model.specs.Area.{physical_entry}
use Rattle.nv_world_model.specs.Device.{held_of, device_unit, completion_written}
use Rattle.nv_world_model.specs.ShareArea.{share_written}
use Rattle.nv_world_model.specs.World.{with_tags, group, claimed}
use Rattle.nv_world_model.specs.Seat.{units_behind, rest_at, rests_of, members, seat, put_back}
use Rattle.nv_world_model.specs.Step.{acted_in, administered_in, taken_to, listed, submitted, handed_on, device_took, device_moved}
use Rattle.nv_world_model.specs.Step.{device_posted, kept_block, reaped, scattered_to, delivered_all, posted_to, ran_out_of, statuses_of}
use Rattle.nv_world_model.specs.Step.{step, replay, replies}
use Rattle.nv_world_model.specs.View.{shown, shared_numbers}
use Rattle.nv_world_model.specs.CutDown.{cut}
use Rattle.nv_world_model.proofs.rows.views.examples.Goals as goal

pub returns-clause-nothing_is_shown_of_a_taken_command : goal.returns-clause-nothing_is_shown_of_a_taken_command
unfolding number_at dword qword bits bytes_of_dwords completion everywhere addresses bytes_from stored gathered scattered image in_memory and_then
    first_read in_transcript read_array read_sgl read_entries read_source ranges_in move_units clear_units range_units judge units_moved opening register
    reg_write doorbell front took post ran_out differs hosts_of fit_behind built plan_over physical_entry held_of device_unit completion_written
    share_written with_tags group claimed put_image units_behind rest_at rests_of members seat put_back acted_in administered_in taken_to listed submitted
    handed_on device_took device_moved device_posted kept_block reaped scattered_to delivered_all posted_to ran_out_of statuses_of step replay replies
    shown shared_numbers cut
returns-clause-nothing_is_shown_of_a_taken_command c = refl

pub returns-clause-an_entry_and_its_list_are_shown : goal.returns-clause-an_entry_and_its_list_are_shown
unfolding number_at dword qword bits bytes_of_dwords completion everywhere addresses bytes_from stored gathered scattered image in_memory and_then
    first_read in_transcript read_array read_sgl read_entries read_source ranges_in move_units clear_units range_units judge units_moved opening register
    reg_write doorbell front took post ran_out differs hosts_of fit_behind built plan_over physical_entry held_of device_unit completion_written
    share_written with_tags group claimed put_image units_behind rest_at rests_of members seat put_back acted_in administered_in taken_to listed submitted
    handed_on device_took device_moved device_posted kept_block reaped scattered_to delivered_all posted_to ran_out_of statuses_of step replay replies
    shown shared_numbers cut
returns-clause-an_entry_and_its_list_are_shown c = refl

pub returns-clause-a_slot_is_shown_while_it_is_queued : goal.returns-clause-a_slot_is_shown_while_it_is_queued
unfolding number_at dword qword bits bytes_of_dwords completion everywhere addresses bytes_from stored gathered scattered image in_memory and_then
    first_read in_transcript read_array read_sgl read_entries read_source ranges_in move_units clear_units range_units judge units_moved opening register
    reg_write doorbell front took post ran_out differs hosts_of fit_behind built plan_over physical_entry held_of device_unit completion_written
    share_written with_tags group claimed put_image units_behind rest_at rests_of members seat put_back acted_in administered_in taken_to listed submitted
    handed_on device_took device_moved device_posted kept_block reaped scattered_to delivered_all posted_to ran_out_of statuses_of step replay replies
    shown shared_numbers cut
returns-clause-a_slot_is_shown_while_it_is_queued c = refl

pub returns-clause-a_source_is_shown : goal.returns-clause-a_source_is_shown
unfolding number_at dword qword bits bytes_of_dwords completion everywhere addresses bytes_from stored gathered scattered image in_memory and_then
    first_read in_transcript read_array read_sgl read_entries read_source ranges_in move_units clear_units range_units judge units_moved opening register
    reg_write doorbell front took post ran_out differs hosts_of fit_behind built plan_over physical_entry held_of device_unit completion_written
    share_written with_tags group claimed put_image units_behind rest_at rests_of members seat put_back acted_in administered_in taken_to listed submitted
    handed_on device_took device_moved device_posted kept_block reaped scattered_to delivered_all posted_to ran_out_of statuses_of step replay replies
    shown shared_numbers cut
returns-clause-a_source_is_shown c = refl

pub returns-clause-no_block_is_shown_before_it_moves : goal.returns-clause-no_block_is_shown_before_it_moves
unfolding number_at dword qword bits bytes_of_dwords completion everywhere addresses bytes_from stored gathered scattered image in_memory and_then
    first_read in_transcript read_array read_sgl read_entries read_source ranges_in move_units clear_units range_units judge units_moved opening register
    reg_write doorbell front took post ran_out differs hosts_of fit_behind built plan_over physical_entry held_of device_unit completion_written
    share_written with_tags group claimed put_image units_behind rest_at rests_of members seat put_back acted_in administered_in taken_to listed submitted
    handed_on device_took device_moved device_posted kept_block reaped scattered_to delivered_all posted_to ran_out_of statuses_of step replay replies
    shown shared_numbers cut
returns-clause-no_block_is_shown_before_it_moves c = refl

pub returns-clause-a_block_that_moved_is_shown : goal.returns-clause-a_block_that_moved_is_shown
unfolding number_at dword qword bits bytes_of_dwords completion everywhere addresses bytes_from stored gathered scattered image in_memory and_then
    first_read in_transcript read_array read_sgl read_entries read_source ranges_in move_units clear_units range_units judge units_moved opening register
    reg_write doorbell front took post ran_out differs hosts_of fit_behind built plan_over physical_entry held_of device_unit completion_written
    share_written with_tags group claimed put_image units_behind rest_at rests_of members seat put_back acted_in administered_in taken_to listed submitted
    handed_on device_took device_moved device_posted kept_block reaped scattered_to delivered_all posted_to ran_out_of statuses_of step replay replies
    shown shared_numbers cut
returns-clause-a_block_that_moved_is_shown c = refl

pub returns-clause-no_block_of_a_failed_read_is_shown : goal.returns-clause-no_block_of_a_failed_read_is_shown
unfolding number_at dword qword bits bytes_of_dwords completion everywhere addresses bytes_from stored gathered scattered image in_memory and_then
    first_read in_transcript read_array read_sgl read_entries read_source ranges_in move_units clear_units range_units judge units_moved opening register
    reg_write doorbell front took post ran_out differs hosts_of fit_behind built plan_over physical_entry held_of device_unit completion_written
    share_written with_tags group claimed put_image units_behind rest_at rests_of members seat put_back acted_in administered_in taken_to listed submitted
    handed_on device_took device_moved device_posted kept_block reaped scattered_to delivered_all posted_to ran_out_of statuses_of step replay replies
    shown shared_numbers cut
returns-clause-no_block_of_a_failed_read_is_shown c = refl

pub returns-clause-nothing_is_shown_of_a_read_that_failed : goal.returns-clause-nothing_is_shown_of_a_read_that_failed
unfolding number_at dword qword bits bytes_of_dwords completion everywhere addresses bytes_from stored gathered scattered image in_memory and_then
    first_read in_transcript read_array read_sgl read_entries read_source ranges_in move_units clear_units range_units judge units_moved opening register
    reg_write doorbell front took post ran_out differs hosts_of fit_behind built plan_over physical_entry held_of device_unit completion_written
    share_written with_tags group claimed put_image units_behind rest_at rests_of members seat put_back acted_in administered_in taken_to listed submitted
    handed_on device_took device_moved device_posted kept_block reaped scattered_to delivered_all posted_to ran_out_of statuses_of step replay replies
    shown shared_numbers cut
returns-clause-nothing_is_shown_of_a_read_that_failed c = refl

pub returns-clause-the_blocks_of_an_ended_read_are_shown : goal.returns-clause-the_blocks_of_an_ended_read_are_shown
unfolding number_at dword qword bits bytes_of_dwords completion everywhere addresses bytes_from stored gathered scattered image in_memory and_then
    first_read in_transcript read_array read_sgl read_entries read_source ranges_in move_units clear_units range_units judge units_moved opening register
    reg_write doorbell front took post ran_out differs hosts_of fit_behind built plan_over physical_entry held_of device_unit completion_written
    share_written with_tags group claimed put_image units_behind rest_at rests_of members seat put_back acted_in administered_in taken_to listed submitted
    handed_on device_took device_moved device_posted kept_block reaped scattered_to delivered_all posted_to ran_out_of statuses_of step replay replies
    shown shared_numbers cut
returns-clause-the_blocks_of_an_ended_read_are_shown c = refl

pub returns-clause-nothing_is_shown_of_a_free_tag : goal.returns-clause-nothing_is_shown_of_a_free_tag
unfolding number_at dword qword bits bytes_of_dwords completion everywhere addresses bytes_from stored gathered scattered image in_memory and_then
    first_read in_transcript read_array read_sgl read_entries read_source ranges_in move_units clear_units range_units judge units_moved opening register
    reg_write doorbell front took post ran_out differs hosts_of fit_behind built plan_over physical_entry held_of device_unit completion_written
    share_written with_tags group claimed put_image units_behind rest_at rests_of members seat put_back acted_in administered_in taken_to listed submitted
    handed_on device_took device_moved device_posted kept_block reaped scattered_to delivered_all posted_to ran_out_of statuses_of step replay replies
    shown shared_numbers cut
returns-clause-nothing_is_shown_of_a_free_tag c = refl

pub returns-clause-nothing_of_anothers_is_shown : goal.returns-clause-nothing_of_anothers_is_shown
unfolding number_at dword qword bits bytes_of_dwords completion everywhere addresses bytes_from stored gathered scattered image in_memory and_then
    first_read in_transcript read_array read_sgl read_entries read_source ranges_in move_units clear_units range_units judge units_moved opening register
    reg_write doorbell front took post ran_out differs hosts_of fit_behind built plan_over physical_entry held_of device_unit completion_written
    share_written with_tags group claimed put_image units_behind rest_at rests_of members seat put_back acted_in administered_in taken_to listed submitted
    handed_on device_took device_moved device_posted kept_block reaped scattered_to delivered_all posted_to ran_out_of statuses_of step replay replies
    shown shared_numbers cut
returns-clause-nothing_of_anothers_is_shown c = refl

pub returns-clause-each_is_shown_its_own : goal.returns-clause-each_is_shown_its_own
unfolding number_at dword qword bits bytes_of_dwords completion everywhere addresses bytes_from stored gathered scattered image in_memory and_then
    first_read in_transcript read_array read_sgl read_entries read_source ranges_in move_units clear_units range_units judge units_moved opening register
    reg_write doorbell front took post ran_out differs hosts_of fit_behind built plan_over physical_entry held_of device_unit completion_written
    share_written with_tags group claimed put_image units_behind rest_at rests_of members seat put_back acted_in administered_in taken_to listed submitted
    handed_on device_took device_moved device_posted kept_block reaped scattered_to delivered_all posted_to ran_out_of statuses_of step replay replies
    shown shared_numbers cut
returns-clause-each_is_shown_its_own c = refl

pub returns-clause-a_cut_keeps_the_own_tag : goal.returns-clause-a_cut_keeps_the_own_tag
unfolding number_at dword qword bits bytes_of_dwords completion everywhere addresses bytes_from stored gathered scattered image in_memory and_then
    first_read in_transcript read_array read_sgl read_entries read_source ranges_in move_units clear_units range_units judge units_moved opening register
    reg_write doorbell front took post ran_out differs hosts_of fit_behind built plan_over physical_entry held_of device_unit completion_written
    share_written with_tags group claimed put_image units_behind rest_at rests_of members seat put_back acted_in administered_in taken_to listed submitted
    handed_on device_took device_moved device_posted kept_block reaped scattered_to delivered_all posted_to ran_out_of statuses_of step replay replies
    shown shared_numbers cut
returns-clause-a_cut_keeps_the_own_tag c = refl

pub returns-clause-a_cut_gives_anothers_tag_to_nobody : goal.returns-clause-a_cut_gives_anothers_tag_to_nobody
unfolding number_at dword qword bits bytes_of_dwords completion everywhere addresses bytes_from stored gathered scattered image in_memory and_then
    first_read in_transcript read_array read_sgl read_entries read_source ranges_in move_units clear_units range_units judge units_moved opening register
    reg_write doorbell front took post ran_out differs hosts_of fit_behind built plan_over physical_entry held_of device_unit completion_written
    share_written with_tags group claimed put_image units_behind rest_at rests_of members seat put_back acted_in administered_in taken_to listed submitted
    handed_on device_took device_moved device_posted kept_block reaped scattered_to delivered_all posted_to ran_out_of statuses_of step replay replies
    shown shared_numbers cut
returns-clause-a_cut_gives_anothers_tag_to_nobody c = refl

pub returns-clause-a_cut_leaves_a_free_tag : goal.returns-clause-a_cut_leaves_a_free_tag
unfolding number_at dword qword bits bytes_of_dwords completion everywhere addresses bytes_from stored gathered scattered image in_memory and_then
    first_read in_transcript read_array read_sgl read_entries read_source ranges_in move_units clear_units range_units judge units_moved opening register
    reg_write doorbell front took post ran_out differs hosts_of fit_behind built plan_over physical_entry held_of device_unit completion_written
    share_written with_tags group claimed put_image units_behind rest_at rests_of members seat put_back acted_in administered_in taken_to listed submitted
    handed_on device_took device_moved device_posted kept_block reaped scattered_to delivered_all posted_to ran_out_of statuses_of step replay replies
    shown shared_numbers cut
returns-clause-a_cut_leaves_a_free_tag c = refl

pub returns-clause-a_cut_keeps_the_own_command : goal.returns-clause-a_cut_keeps_the_own_command
unfolding number_at dword qword bits bytes_of_dwords completion everywhere addresses bytes_from stored gathered scattered image in_memory and_then
    first_read in_transcript read_array read_sgl read_entries read_source ranges_in move_units clear_units range_units judge units_moved opening register
    reg_write doorbell front took post ran_out differs hosts_of fit_behind built plan_over physical_entry held_of device_unit completion_written
    share_written with_tags group claimed put_image units_behind rest_at rests_of members seat put_back acted_in administered_in taken_to listed submitted
    handed_on device_took device_moved device_posted kept_block reaped scattered_to delivered_all posted_to ran_out_of statuses_of step replay replies
    shown shared_numbers cut
returns-clause-a_cut_keeps_the_own_command c = refl

pub returns-clause-a_cut_drops_anothers_command : goal.returns-clause-a_cut_drops_anothers_command
unfolding number_at dword qword bits bytes_of_dwords completion everywhere addresses bytes_from stored gathered scattered image in_memory and_then
    first_read in_transcript read_array read_sgl read_entries read_source ranges_in move_units clear_units range_units judge units_moved opening register
    reg_write doorbell front took post ran_out differs hosts_of fit_behind built plan_over physical_entry held_of device_unit completion_written
    share_written with_tags group claimed put_image units_behind rest_at rests_of members seat put_back acted_in administered_in taken_to listed submitted
    handed_on device_took device_moved device_posted kept_block reaped scattered_to delivered_all posted_to ran_out_of statuses_of step replay replies
    shown shared_numbers cut
returns-clause-a_cut_drops_anothers_command c = refl

pub returns-clause-a_cut_keeps_the_own_bytes : goal.returns-clause-a_cut_keeps_the_own_bytes
unfolding number_at dword qword bits bytes_of_dwords completion everywhere addresses bytes_from stored gathered scattered image in_memory and_then
    first_read in_transcript read_array read_sgl read_entries read_source ranges_in move_units clear_units range_units judge units_moved opening register
    reg_write doorbell front took post ran_out differs hosts_of fit_behind built plan_over physical_entry held_of device_unit completion_written
    share_written with_tags group claimed put_image units_behind rest_at rests_of members seat put_back acted_in administered_in taken_to listed submitted
    handed_on device_took device_moved device_posted kept_block reaped scattered_to delivered_all posted_to ran_out_of statuses_of step replay replies
    shown shared_numbers cut
returns-clause-a_cut_keeps_the_own_bytes c = refl

pub returns-clause-a_cut_zeroes_anothers_bytes : goal.returns-clause-a_cut_zeroes_anothers_bytes
unfolding number_at dword qword bits bytes_of_dwords completion everywhere addresses bytes_from stored gathered scattered image in_memory and_then
    first_read in_transcript read_array read_sgl read_entries read_source ranges_in move_units clear_units range_units judge units_moved opening register
    reg_write doorbell front took post ran_out differs hosts_of fit_behind built plan_over physical_entry held_of device_unit completion_written
    share_written with_tags group claimed put_image units_behind rest_at rests_of members seat put_back acted_in administered_in taken_to listed submitted
    handed_on device_took device_moved device_posted kept_block reaped scattered_to delivered_all posted_to ran_out_of statuses_of step replay replies
    shown shared_numbers cut
returns-clause-a_cut_zeroes_anothers_bytes c = refl

pub returns-clause-a_cut_zeroes_anothers_blocks : goal.returns-clause-a_cut_zeroes_anothers_blocks
unfolding number_at dword qword bits bytes_of_dwords completion everywhere addresses bytes_from stored gathered scattered image in_memory and_then
    first_read in_transcript read_array read_sgl read_entries read_source ranges_in move_units clear_units range_units judge units_moved opening register
    reg_write doorbell front took post ran_out differs hosts_of fit_behind built plan_over physical_entry held_of device_unit completion_written
    share_written with_tags group claimed put_image units_behind rest_at rests_of members seat put_back acted_in administered_in taken_to listed submitted
    handed_on device_took device_moved device_posted kept_block reaped scattered_to delivered_all posted_to ran_out_of statuses_of step replay replies
    shown shared_numbers cut
returns-clause-a_cut_zeroes_anothers_blocks c = refl

pub returns-clause-a_cut_clears_anothers_marks : goal.returns-clause-a_cut_clears_anothers_marks
unfolding number_at dword qword bits bytes_of_dwords completion everywhere addresses bytes_from stored gathered scattered image in_memory and_then
    first_read in_transcript read_array read_sgl read_entries read_source ranges_in move_units clear_units range_units judge units_moved opening register
    reg_write doorbell front took post ran_out differs hosts_of fit_behind built plan_over physical_entry held_of device_unit completion_written
    share_written with_tags group claimed put_image units_behind rest_at rests_of members seat put_back acted_in administered_in taken_to listed submitted
    handed_on device_took device_moved device_posted kept_block reaped scattered_to delivered_all posted_to ran_out_of statuses_of step replay replies
    shown shared_numbers cut
returns-clause-a_cut_clears_anothers_marks c = refl

pub returns-clause-a_cut_keeps_the_own_controller : goal.returns-clause-a_cut_keeps_the_own_controller
unfolding number_at dword qword bits bytes_of_dwords completion everywhere addresses bytes_from stored gathered scattered image in_memory and_then
    first_read in_transcript read_array read_sgl read_entries read_source ranges_in move_units clear_units range_units judge units_moved opening register
    reg_write doorbell front took post ran_out differs hosts_of fit_behind built plan_over physical_entry held_of device_unit completion_written
    share_written with_tags group claimed put_image units_behind rest_at rests_of members seat put_back acted_in administered_in taken_to listed submitted
    handed_on device_took device_moved device_posted kept_block reaped scattered_to delivered_all posted_to ran_out_of statuses_of step replay replies
    shown shared_numbers cut
returns-clause-a_cut_keeps_the_own_controller c = refl

pub returns-clause-a_cut_resets_anothers_controller : goal.returns-clause-a_cut_resets_anothers_controller
unfolding number_at dword qword bits bytes_of_dwords completion everywhere addresses bytes_from stored gathered scattered image in_memory and_then
    first_read in_transcript read_array read_sgl read_entries read_source ranges_in move_units clear_units range_units judge units_moved opening register
    reg_write doorbell front took post ran_out differs hosts_of fit_behind built plan_over physical_entry held_of device_unit completion_written
    share_written with_tags group claimed put_image units_behind rest_at rests_of members seat put_back acted_in administered_in taken_to listed submitted
    handed_on device_took device_moved device_posted kept_block reaped scattered_to delivered_all posted_to ran_out_of statuses_of step replay replies
    shown shared_numbers cut
returns-clause-a_cut_resets_anothers_controller c = refl

pub returns-clause-the_shared_numbers : goal.returns-clause-the_shared_numbers
unfolding number_at dword qword bits bytes_of_dwords completion everywhere addresses bytes_from stored gathered scattered image in_memory and_then
    first_read in_transcript read_array read_sgl read_entries read_source ranges_in move_units clear_units range_units judge units_moved opening register
    reg_write doorbell front took post ran_out differs hosts_of fit_behind built plan_over physical_entry held_of device_unit completion_written
    share_written with_tags group claimed put_image units_behind rest_at rests_of members seat put_back acted_in administered_in taken_to listed submitted
    handed_on device_took device_moved device_posted kept_block reaped scattered_to delivered_all posted_to ran_out_of statuses_of step replay replies
    shown shared_numbers cut
returns-clause-the_shared_numbers c = refl

pub returns-clause-a_cut_keeps_the_shared_numbers : goal.returns-clause-a_cut_keeps_the_shared_numbers
unfolding number_at dword qword bits bytes_of_dwords completion everywhere addresses bytes_from stored gathered scattered image in_memory and_then
    first_read in_transcript read_array read_sgl read_entries read_source ranges_in move_units clear_units range_units judge units_moved opening register
    reg_write doorbell front took post ran_out differs hosts_of fit_behind built plan_over physical_entry held_of device_unit completion_written
    share_written with_tags group claimed put_image units_behind rest_at rests_of members seat put_back acted_in administered_in taken_to listed submitted
    handed_on device_took device_moved device_posted kept_block reaped scattered_to delivered_all posted_to ran_out_of statuses_of step replay replies
    shown shared_numbers cut
returns-clause-a_cut_keeps_the_shared_numbers c = refl

pub returns-clause-ranges_are_shown : goal.returns-clause-ranges_are_shown
unfolding number_at dword qword bits bytes_of_dwords completion everywhere addresses bytes_from stored gathered scattered image in_memory and_then
    first_read in_transcript read_array read_sgl read_entries read_source ranges_in move_units clear_units range_units judge units_moved opening register
    reg_write doorbell front took post ran_out differs hosts_of fit_behind built plan_over physical_entry held_of device_unit completion_written
    share_written with_tags group claimed put_image units_behind rest_at rests_of members seat put_back acted_in administered_in taken_to listed submitted
    handed_on device_took device_moved device_posted kept_block reaped scattered_to delivered_all posted_to ran_out_of statuses_of step replay replies
    shown shared_numbers cut
returns-clause-ranges_are_shown c = refl

pub returns-clause-another_lanes_pages_are_shown : goal.returns-clause-another_lanes_pages_are_shown
unfolding number_at dword qword bits bytes_of_dwords completion everywhere addresses bytes_from stored gathered scattered image in_memory and_then
    first_read in_transcript read_array read_sgl read_entries read_source ranges_in move_units clear_units range_units judge units_moved opening register
    reg_write doorbell front took post ran_out differs hosts_of fit_behind built plan_over physical_entry held_of device_unit completion_written
    share_written with_tags group claimed put_image units_behind rest_at rests_of members seat put_back acted_in administered_in taken_to listed submitted
    handed_on device_took device_moved device_posted kept_block reaped scattered_to delivered_all posted_to ran_out_of statuses_of step replay replies
    shown shared_numbers cut
returns-clause-another_lanes_pages_are_shown c = refl
