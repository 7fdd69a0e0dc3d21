use Rattle.std.proofs.Common.{◌≡◌, ℕ, Bool, true, false, ap, arith, refl}
use Rattle.nv_entry.specs.Layout.{number_at, dword, qword, bits, bytes_of_dwords}
use Rattle.nv_entry.specs.Completion.{completion}
use Rattle.nv_mem.specs.GuestMap.{everywhere}
use Rattle.nv_mem.specs.Places.{addresses}
use Rattle.nv_model.specs.Memory.{bytes_from, gathered, image, put_image, scattered, stored}
use Rattle.nv_model.specs.Dialogue.{in_memory, and_then}
use Rattle.nv_model.specs.Transcript.{first_read, in_transcript}
use Rattle.nv_model.specs.Sgl.{read_array, read_sgl}
use Rattle.nv_model.specs.Prp.{read_entries}
use Rattle.nv_model.specs.Judge.{read_source, ranges_in, move_units, clear_units, range_units, judge}
use Rattle.nv_model.specs.Carried.{units_moved}
use Rattle.nv_model.specs.Controller.{opening, register, reg_write, doorbell, front, took, post, ran_out}
use Rattle.nv_model.specs.Private.{differs}
use Rattle.nv_prp.specs.Fits.{hosts_of, fit_behind}
use Rattle.nv_prp.specs.Built.{built}
use Rattle.nv_world_model.specs.Plan.{plan_over}
use Rattle.nv_world_model.specs.Area.{physical_entry}
use Rattle.nv_world_model.specs.Device.{held_of, device_unit, completion_written}
use Rattle.nv_world_model.specs.ShareArea.{share_written}
use Rattle.nv_world_model.specs.World.{with_tags, group, claimed}
use Rattle.nv_world_model.specs.Seat.{units_behind, rest_at, rests_of, members, seat, put_back}
use Rattle.nv_world_model.specs.Step.{acted_in, administered_in, taken_to, listed, submitted, handed_on, device_took, device_moved}
use Rattle.nv_world_model.specs.Step.{device_posted, kept_block, reaped, scattered_to, delivered_all, posted_to, ran_out_of, statuses_of}
use Rattle.nv_world_model.specs.Step.{step, replay, replies}
use Rattle.nv_model.specs.Admin.{admin_command, admin}
use Rattle.nv_world_model.specs.CutDown.{cut}
use Rattle.nv_world_model.specs.Contained.{guest_standing}
use Rattle.nv_world_model.specs.View.{shown, shared_numbers}
use Rattle.nv_world_model.specs.Rows.{guest_at}
use Rattle.nv_world_model.specs.World.{World}
use Rattle.nv_world_model.specs.Headline.{AreContained}
use Rattle.nv_world_model.proofs.rows.wrong_alone.examples.Goals as goal

-- the byte
pub returns-clause-a_dull_reply_comes_with_no_change : goal.returns-clause-a_dull_reply_comes_with_no_change
unfolding number_at dword qword bits bytes_of_dwords completion everywhere addresses bytes_from stored gathered scattered image in_memory and_then
    first_read in_transcript read_array read_sgl read_entries read_source ranges_in move_units clear_units range_units judge units_moved opening register
    reg_write doorbell front took post ran_out differs hosts_of fit_behind built plan_over physical_entry held_of device_unit completion_written
    share_written with_tags group claimed put_image units_behind rest_at rests_of members seat put_back acted_in administered_in taken_to listed submitted
    handed_on device_took device_moved device_posted kept_block reaped scattered_to delivered_all posted_to ran_out_of statuses_of step replay replies
    admin_command admin cut shown shared_numbers guest_standing
returns-clause-a_dull_reply_comes_with_no_change c contained = (let bad : ◌≡◌ {A = ℕ} 7 0 = ap (λ (z : World). z.host 0x103000) (contained.dull refl) in absurd (omega arith))

-- the mark of block 6
pub returns-clause-a_keep_raises_one_mark : goal.returns-clause-a_keep_raises_one_mark
unfolding number_at dword qword bits bytes_of_dwords completion everywhere addresses bytes_from stored gathered scattered image in_memory and_then
    first_read in_transcript read_array read_sgl read_entries read_source ranges_in move_units clear_units range_units judge units_moved opening register
    reg_write doorbell front took post ran_out differs hosts_of fit_behind built plan_over physical_entry held_of device_unit completion_written
    share_written with_tags group claimed put_image units_behind rest_at rests_of members seat put_back acted_in administered_in taken_to listed submitted
    handed_on device_took device_moved device_posted kept_block reaped scattered_to delivered_all posted_to ran_out_of statuses_of step replay replies
    admin_command admin cut shown shared_numbers guest_standing
returns-clause-a_keep_raises_one_mark c contained = (let bad : ◌≡◌ {A = Bool} false true = (contained.keep 5 refl).marks 6 refl in absurd (cc))

-- the mark
pub returns-clause-a_keep_clears_none : goal.returns-clause-a_keep_clears_none
unfolding number_at dword qword bits bytes_of_dwords completion everywhere addresses bytes_from stored gathered scattered image in_memory and_then
    first_read in_transcript read_array read_sgl read_entries read_source ranges_in move_units clear_units range_units judge units_moved opening register
    reg_write doorbell front took post ran_out differs hosts_of fit_behind built plan_over physical_entry held_of device_unit completion_written
    share_written with_tags group claimed put_image units_behind rest_at rests_of members seat put_back acted_in administered_in taken_to listed submitted
    handed_on device_took device_moved device_posted kept_block reaped scattered_to delivered_all posted_to ran_out_of statuses_of step replay replies
    admin_command admin cut shown shared_numbers guest_standing
returns-clause-a_keep_clears_none c contained = (let bad : ◌≡◌ {A = Bool} false true = (contained.keep 5 refl).rises refl in absurd (cc))

-- each number
pub returns-clause-the_shared_numbers_one_by_one : goal.returns-clause-the_shared_numbers_one_by_one
unfolding number_at dword qword bits bytes_of_dwords completion everywhere addresses bytes_from stored gathered scattered image in_memory and_then
    first_read in_transcript read_array read_sgl read_entries read_source ranges_in move_units clear_units range_units judge units_moved opening register
    reg_write doorbell front took post ran_out differs hosts_of fit_behind built plan_over physical_entry held_of device_unit completion_written
    share_written with_tags group claimed put_image units_behind rest_at rests_of members seat put_back acted_in administered_in taken_to listed submitted
    handed_on device_took device_moved device_posted kept_block reaped scattered_to delivered_all posted_to ran_out_of statuses_of step replay replies
    admin_command admin cut shown shared_numbers guest_standing
returns-clause-the_shared_numbers_one_by_one c = refl

-- a byte of the other guest's block 6
pub returns-clause-the_last_event_of_a_log_is_asked : goal.returns-clause-the_last_event_of_a_log_is_asked
unfolding number_at dword qword bits bytes_of_dwords completion everywhere addresses bytes_from stored gathered scattered image in_memory and_then
    first_read in_transcript read_array read_sgl read_entries read_source ranges_in move_units clear_units range_units judge units_moved opening register
    reg_write doorbell front took post ran_out differs hosts_of fit_behind built plan_over physical_entry held_of device_unit completion_written
    share_written with_tags group claimed put_image units_behind rest_at rests_of members seat put_back acted_in administered_in taken_to listed submitted
    handed_on device_took device_moved device_posted kept_block reaped scattered_to delivered_all posted_to ran_out_of statuses_of step replay replies
    admin_command admin cut shown shared_numbers guest_standing AreContained
returns-clause-the_last_event_of_a_log_is_asked c contained =
    (let bad : ◌≡◌ {A = ℕ} 6 0 = (contained.1.0.others.views 1 (guest_at 0x200000 0) refl (λ is. absurd (cc))).blocks 6 0 (omega arith) in absurd (omega arith))

-- that byte
pub returns-clause-the_first_event_of_a_log_is_asked : goal.returns-clause-the_first_event_of_a_log_is_asked
unfolding number_at dword qword bits bytes_of_dwords completion everywhere addresses bytes_from stored gathered scattered image in_memory and_then
    first_read in_transcript read_array read_sgl read_entries read_source ranges_in move_units clear_units range_units judge units_moved opening register
    reg_write doorbell front took post ran_out differs hosts_of fit_behind built plan_over physical_entry held_of device_unit completion_written
    share_written with_tags group claimed put_image units_behind rest_at rests_of members seat put_back acted_in administered_in taken_to listed submitted
    handed_on device_took device_moved device_posted kept_block reaped scattered_to delivered_all posted_to ran_out_of statuses_of step replay replies
    admin_command admin cut shown shared_numbers guest_standing AreContained
returns-clause-the_first_event_of_a_log_is_asked c contained =
    (let bad : ◌≡◌ {A = ℕ} 6 0 = (contained.0.others.views 1 (guest_at 0x200000 0) refl (λ is. absurd (cc))).blocks 6 0 (omega arith) in absurd (omega arith))
