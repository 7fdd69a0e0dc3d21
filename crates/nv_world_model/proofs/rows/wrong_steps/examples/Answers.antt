use Rattle.std.proofs.Common.{◌≡◌, ℕ, Bool, true, false, [], ◌∷◌, ap, length, arith, refl}
use Rattle.nv_model.specs.declared.reply.Reply.{Reply}
use Rattle.nv_model.specs.declared.reply.Reply.TheVariants as reply
use Rattle.nv_entry.specs.Layout.{number_at, dword, qword, bits, bytes_of_dwords}
use Rattle.nv_entry.specs.Completion.{completion}
use Rattle.nv_mem.specs.GuestMap.{everywhere}
use Rattle.nv_mem.specs.Places.{addresses}
use Rattle.nv_model.specs.Memory.{bytes_from, gathered, image, put_image, scattered, stored}
use Rattle.nv_model.specs.Dialogue.{in_memory, and_then}
use Rattle.nv_model.specs.Transcript.{first_read, in_transcript}
use Rattle.nv_model.specs.Sgl.{read_array, read_sgl}
use Rattle.nv_model.specs.Prp.{read_entries}
use Rattle.nv_model.specs.Judge.{read_source, ranges_in, move_units, clear_units, range_units, judge}
use Rattle.nv_model.specs.Carried.{units_moved}
use Rattle.nv_model.specs.Controller.{opening, register, reg_write, doorbell, front, took, post, ran_out}
use Rattle.nv_model.specs.Private.{differs}
use Rattle.nv_prp.specs.Fits.{hosts_of, fit_behind}
use Rattle.nv_prp.specs.Built.{built}
use Rattle.nv_world_model.specs.Plan.{plan_over}
use Rattle.nv_world_model.specs.Area.{physical_entry}
use Rattle.nv_world_model.specs.Device.{held_of, device_unit, completion_written}
use Rattle.nv_world_model.specs.ShareArea.{share_written}
use Rattle.nv_world_model.specs.World.{with_tags, group, claimed}
use Rattle.nv_world_model.specs.Seat.{units_behind, rest_at, rests_of, members, seat, put_back}
use Rattle.nv_world_model.specs.Step.{acted_in, administered_in, taken_to, listed, submitted, handed_on, device_took, device_moved}
use Rattle.nv_world_model.specs.Step.{device_posted, kept_block, reaped, scattered_to, delivered_all, posted_to, ran_out_of, statuses_of}
use Rattle.nv_world_model.specs.Step.{step, replay, replies}
use Rattle.nv_model.specs.Admin.{admin_command, admin}
use Rattle.nv_world_model.specs.CutDown.{cut}
use Rattle.nv_world_model.specs.Contained.{guest_standing}
use Rattle.nv_world_model.specs.View.{shown, shared_numbers}
use Rattle.nv_world_model.specs.RowsShown.{first_guest, second_guest}
use Rattle.nv_world_model.specs.Rows.{guest_at}
use Rattle.nv_world_model.specs.World.{World}
use Rattle.nv_world_model.proofs.rows.wrong_steps.examples.Goals as goal

-- a byte of the guest's buffer, which is zero in the world cut down
pub returns-clause-a_failed_read_is_not_delivered : goal.returns-clause-a_failed_read_is_not_delivered
unfolding number_at dword qword bits bytes_of_dwords completion everywhere addresses bytes_from stored gathered scattered image in_memory and_then
    first_read in_transcript read_array read_sgl read_entries read_source ranges_in move_units clear_units range_units judge units_moved opening register
    reg_write doorbell front took post ran_out differs hosts_of fit_behind built plan_over physical_entry held_of device_unit completion_written
    share_written with_tags group claimed put_image units_behind rest_at rests_of members seat put_back acted_in administered_in taken_to listed submitted
    handed_on device_took device_moved device_posted kept_block reaped scattered_to delivered_all posted_to ran_out_of statuses_of step replay replies
    admin_command admin cut shown shared_numbers guest_standing
returns-clause-a_failed_read_is_not_delivered c contained =
    (let bad : ◌≡◌ {A = ℕ} 0xed 0 = (contained.own 0 first_guest refl refl).alike.view.memory 0x3002 in absurd (omega arith))

-- that byte, which is zero in the world cut down
pub returns-clause-another_guests_bytes_are_not_delivered : goal.returns-clause-another_guests_bytes_are_not_delivered
unfolding number_at dword qword bits bytes_of_dwords completion everywhere addresses bytes_from stored gathered scattered image in_memory and_then
    first_read in_transcript read_array read_sgl read_entries read_source ranges_in move_units clear_units range_units judge units_moved opening register
    reg_write doorbell front took post ran_out differs hosts_of fit_behind built plan_over physical_entry held_of device_unit completion_written
    share_written with_tags group claimed put_image units_behind rest_at rests_of members seat put_back acted_in administered_in taken_to listed submitted
    handed_on device_took device_moved device_posted kept_block reaped scattered_to delivered_all posted_to ran_out_of statuses_of step replay replies
    admin_command admin cut shown shared_numbers guest_standing
returns-clause-another_guests_bytes_are_not_delivered c contained =
    (let bad : ◌≡◌ {A = ℕ} 7 0 = (contained.own 0 first_guest refl refl).alike.view.memory 0x3002 in absurd (omega arith))

-- the identifier in the other guest's first completion slot
pub returns-clause-a_completion_does_not_go_astray : goal.returns-clause-a_completion_does_not_go_astray
unfolding number_at dword qword bits bytes_of_dwords completion everywhere addresses bytes_from stored gathered scattered image in_memory and_then
    first_read in_transcript read_array read_sgl read_entries read_source ranges_in move_units clear_units range_units judge units_moved opening register
    reg_write doorbell front took post ran_out differs hosts_of fit_behind built plan_over physical_entry held_of device_unit completion_written
    share_written with_tags group claimed put_image units_behind rest_at rests_of members seat put_back acted_in administered_in taken_to listed submitted
    handed_on device_took device_moved device_posted kept_block reaped scattered_to delivered_all posted_to ran_out_of statuses_of step replay replies
    admin_command admin cut shown shared_numbers guest_standing
returns-clause-a_completion_does_not_go_astray c contained =
    (let bad : ◌≡◌ {A = ℕ} 0 7 = (contained.others.views 1 second_guest refl (λ is. absurd (cc))).memory 0x1200c in absurd (omega arith))

-- a byte of the other guest's block 6
pub returns-clause-blocks_are_translated : goal.returns-clause-blocks_are_translated
unfolding number_at dword qword bits bytes_of_dwords completion everywhere addresses bytes_from stored gathered scattered image in_memory and_then
    first_read in_transcript read_array read_sgl read_entries read_source ranges_in move_units clear_units range_units judge units_moved opening register
    reg_write doorbell front took post ran_out differs hosts_of fit_behind built plan_over physical_entry held_of device_unit completion_written
    share_written with_tags group claimed put_image units_behind rest_at rests_of members seat put_back acted_in administered_in taken_to listed submitted
    handed_on device_took device_moved device_posted kept_block reaped scattered_to delivered_all posted_to ran_out_of statuses_of step replay replies
    admin_command admin cut shown shared_numbers guest_standing
returns-clause-blocks_are_translated c contained =
    (let bad : ◌≡◌ {A = ℕ} 6 0 = (contained.others.views 1 (guest_at 0x200000 0) refl (λ is. absurd (cc))).blocks 6 0 (omega arith) in absurd (omega arith))

-- a byte of it in the guest's buffer, which is zero in the world cut down
pub returns-clause-blocks_that_are_read_are_translated : goal.returns-clause-blocks_that_are_read_are_translated
unfolding number_at dword qword bits bytes_of_dwords completion everywhere addresses bytes_from stored gathered scattered image in_memory and_then
    first_read in_transcript read_array read_sgl read_entries read_source ranges_in move_units clear_units range_units judge units_moved opening register
    reg_write doorbell front took post ran_out differs hosts_of fit_behind built plan_over physical_entry held_of device_unit completion_written
    share_written with_tags group claimed put_image units_behind rest_at rests_of members seat put_back acted_in administered_in taken_to listed submitted
    handed_on device_took device_moved device_posted kept_block reaped scattered_to delivered_all posted_to ran_out_of statuses_of step replay replies
    admin_command admin cut shown shared_numbers guest_standing
returns-clause-blocks_that_are_read_are_translated c contained =
    (let bad : ◌≡◌ {A = ℕ} 6 0 = (contained.own 0 first_guest refl refl).alike.view.memory 0x3000 in absurd (omega arith))

-- a byte of the other guest's block 6
pub returns-clause-ranges_are_translated : goal.returns-clause-ranges_are_translated
unfolding number_at dword qword bits bytes_of_dwords completion everywhere addresses bytes_from stored gathered scattered image in_memory and_then
    first_read in_transcript read_array read_sgl read_entries read_source ranges_in move_units clear_units range_units judge units_moved opening register
    reg_write doorbell front took post ran_out differs hosts_of fit_behind built plan_over physical_entry held_of device_unit completion_written
    share_written with_tags group claimed put_image units_behind rest_at rests_of members seat put_back acted_in administered_in taken_to listed submitted
    handed_on device_took device_moved device_posted kept_block reaped scattered_to delivered_all posted_to ran_out_of statuses_of step replay replies
    admin_command admin cut shown shared_numbers guest_standing
returns-clause-ranges_are_translated c contained =
    (let bad : ◌≡◌ {A = ℕ} 6 0 = (contained.others.views 1 (guest_at 0x200000 0) refl (λ is. absurd (cc))).blocks 6 0 (omega arith) in absurd (omega arith))

-- a byte of the host that is neither the guest's nor the mediator's
pub returns-clause-a_store_is_mapped : goal.returns-clause-a_store_is_mapped
unfolding number_at dword qword bits bytes_of_dwords completion everywhere addresses bytes_from stored gathered scattered image in_memory and_then
    first_read in_transcript read_array read_sgl read_entries read_source ranges_in move_units clear_units range_units judge units_moved opening register
    reg_write doorbell front took post ran_out differs hosts_of fit_behind built plan_over physical_entry held_of device_unit completion_written
    share_written with_tags group claimed put_image units_behind rest_at rests_of members seat put_back acted_in administered_in taken_to listed submitted
    handed_on device_took device_moved device_posted kept_block reaped scattered_to delivered_all posted_to ran_out_of statuses_of step replay replies
    admin_command admin cut shown shared_numbers guest_standing
returns-clause-a_store_is_mapped c contained =
    (let bad : ◌≡◌ {A = ℕ} 0 7 = contained.others.bytes 0x3000 refl refl in absurd (omega arith))

-- the reply, which is another in the world cut down
pub returns-clause-a_load_is_mapped : goal.returns-clause-a_load_is_mapped
unfolding number_at dword qword bits bytes_of_dwords completion everywhere addresses bytes_from stored gathered scattered image in_memory and_then
    first_read in_transcript read_array read_sgl read_entries read_source ranges_in move_units clear_units range_units judge units_moved opening register
    reg_write doorbell front took post ran_out differs hosts_of fit_behind built plan_over physical_entry held_of device_unit completion_written
    share_written with_tags group claimed put_image units_behind rest_at rests_of members seat put_back acted_in administered_in taken_to listed submitted
    handed_on device_took device_moved device_posted kept_block reaped scattered_to delivered_all posted_to ran_out_of statuses_of step replay replies
    admin_command admin cut shown shared_numbers guest_standing
returns-clause-a_load_is_mapped c contained =
    (let told : ◌≡◌ {A = Reply} (reply.Bytes (7 ∷ [])) (reply.Bytes (0 ∷ [])) = (contained.own 0 first_guest refl refl).reply in
    let bad : ◌≡◌ {A = ℕ} 7 0 = cc in absurd (omega arith))

-- that byte
pub returns-clause-a_byte_behind_the_area_is_nobodys : goal.returns-clause-a_byte_behind_the_area_is_nobodys
unfolding number_at dword qword bits bytes_of_dwords completion everywhere addresses bytes_from stored gathered scattered image in_memory and_then
    first_read in_transcript read_array read_sgl read_entries read_source ranges_in move_units clear_units range_units judge units_moved opening register
    reg_write doorbell front took post ran_out differs hosts_of fit_behind built plan_over physical_entry held_of device_unit completion_written
    share_written with_tags group claimed put_image units_behind rest_at rests_of members seat put_back acted_in administered_in taken_to listed submitted
    handed_on device_took device_moved device_posted kept_block reaped scattered_to delivered_all posted_to ran_out_of statuses_of step replay replies
    admin_command admin cut shown shared_numbers guest_standing
returns-clause-a_byte_behind_the_area_is_nobodys c contained = (let bad : ◌≡◌ {A = ℕ} 0 7 = contained.others.bytes 0xc43000 refl refl in absurd (omega arith))

-- a byte of that block
pub returns-clause-a_block_of_nobody_stays : goal.returns-clause-a_block_of_nobody_stays
unfolding number_at dword qword bits bytes_of_dwords completion everywhere addresses bytes_from stored gathered scattered image in_memory and_then
    first_read in_transcript read_array read_sgl read_entries read_source ranges_in move_units clear_units range_units judge units_moved opening register
    reg_write doorbell front took post ran_out differs hosts_of fit_behind built plan_over physical_entry held_of device_unit completion_written
    share_written with_tags group claimed put_image units_behind rest_at rests_of members seat put_back acted_in administered_in taken_to listed submitted
    handed_on device_took device_moved device_posted kept_block reaped scattered_to delivered_all posted_to ran_out_of statuses_of step replay replies
    admin_command admin cut shown shared_numbers guest_standing
returns-clause-a_block_of_nobody_stays c contained = (let bad : ◌≡◌ {A = ℕ} 0xf4 7 = contained.others.blocks 500 0 refl in absurd (omega arith))

-- that mark
pub returns-clause-a_mark_of_nobody_stays : goal.returns-clause-a_mark_of_nobody_stays
unfolding number_at dword qword bits bytes_of_dwords completion everywhere addresses bytes_from stored gathered scattered image in_memory and_then
    first_read in_transcript read_array read_sgl read_entries read_source ranges_in move_units clear_units range_units judge units_moved opening register
    reg_write doorbell front took post ran_out differs hosts_of fit_behind built plan_over physical_entry held_of device_unit completion_written
    share_written with_tags group claimed put_image units_behind rest_at rests_of members seat put_back acted_in administered_in taken_to listed submitted
    handed_on device_took device_moved device_posted kept_block reaped scattered_to delivered_all posted_to ran_out_of statuses_of step replay replies
    admin_command admin cut shown shared_numbers guest_standing
returns-clause-a_mark_of_nobody_stays c contained = (let bad : ◌≡◌ {A = Bool} false true = contained.others.marks 500 refl refl in absurd (cc))

-- the mark of block 0 of the guest, which is not set in the world cut down
pub returns-clause-a_mark_tells_of_no_other : goal.returns-clause-a_mark_tells_of_no_other
unfolding number_at dword qword bits bytes_of_dwords completion everywhere addresses bytes_from stored gathered scattered image in_memory and_then
    first_read in_transcript read_array read_sgl read_entries read_source ranges_in move_units clear_units range_units judge units_moved opening register
    reg_write doorbell front took post ran_out differs hosts_of fit_behind built plan_over physical_entry held_of device_unit completion_written
    share_written with_tags group claimed put_image units_behind rest_at rests_of members seat put_back acted_in administered_in taken_to listed submitted
    handed_on device_took device_moved device_posted kept_block reaped scattered_to delivered_all posted_to ran_out_of statuses_of step replay replies
    admin_command admin cut shown shared_numbers guest_standing
returns-clause-a_mark_tells_of_no_other c contained = (let bad : ◌≡◌ {A = Bool} true false = (contained.own 0 first_guest refl refl).alike.marks 0 (omega arith) in absurd (cc))

-- how many lanes the device has
pub returns-clause-a_keep_changes_a_mark_alone : goal.returns-clause-a_keep_changes_a_mark_alone
unfolding number_at dword qword bits bytes_of_dwords completion everywhere addresses bytes_from stored gathered scattered image in_memory and_then
    first_read in_transcript read_array read_sgl read_entries read_source ranges_in move_units clear_units range_units judge units_moved opening register
    reg_write doorbell front took post ran_out differs hosts_of fit_behind built plan_over physical_entry held_of device_unit completion_written
    share_written with_tags group claimed put_image units_behind rest_at rests_of members seat put_back acted_in administered_in taken_to listed submitted
    handed_on device_took device_moved device_posted kept_block reaped scattered_to delivered_all posted_to ran_out_of statuses_of step replay replies
    admin_command admin cut shown shared_numbers guest_standing
returns-clause-a_keep_changes_a_mark_alone c contained = (let bad : ◌≡◌ {A = ℕ} 0 1 = ap (λ (z : World). length z.device) (contained.keep 5 refl).others in absurd (omega arith))
