use Rattle.std.proofs.Common.{◌≡◌, ℕ, Bool, true, false, Option, Some, None, ap, arith, refl}
use Rattle.std.specs.List.{slice_index_or}
use Rattle.nv_model.specs.Queue.{SubmissionQueue}
use Rattle.nv_entry.specs.Layout.{number_at, dword, qword, bits, bytes_of_dwords}
use Rattle.nv_entry.specs.Completion.{completion}
use Rattle.nv_mem.specs.GuestMap.{everywhere}
use Rattle.nv_mem.specs.Places.{addresses}
use Rattle.nv_model.specs.Memory.{bytes_from, gathered, image, put_image, scattered, stored}
use Rattle.nv_model.specs.Dialogue.{in_memory, and_then}
use Rattle.nv_model.specs.Transcript.{first_read, in_transcript}
use Rattle.nv_model.specs.Sgl.{read_array, read_sgl}
use Rattle.nv_model.specs.Prp.{read_entries}
use Rattle.nv_model.specs.Judge.{read_source, ranges_in, move_units, clear_units, range_units, judge}
use Rattle.nv_model.specs.Carried.{units_moved}
use Rattle.nv_model.specs.Controller.{opening, register, reg_write, doorbell, front, took, post, ran_out}
use Rattle.nv_model.specs.Private.{differs}
use Rattle.nv_prp.specs.Fits.{hosts_of, fit_behind}
use Rattle.nv_prp.specs.Built.{built}
use Rattle.nv_world_model.specs.Plan.{plan_over}
use Rattle.nv_world_model.specs.Area.{physical_entry}
use Rattle.nv_world_model.specs.Device.{held_of, device_unit, completion_written}
use Rattle.nv_world_model.specs.ShareArea.{share_written}
use Rattle.nv_world_model.specs.World.{with_tags, group, claimed}
use Rattle.nv_world_model.specs.Seat.{units_behind, rest_at, rests_of, members, seat, put_back}
use Rattle.nv_world_model.specs.Step.{acted_in, administered_in, taken_to, listed, submitted, handed_on, device_took, device_moved}
use Rattle.nv_world_model.specs.Step.{device_posted, kept_block, reaped, scattered_to, delivered_all, posted_to, ran_out_of, statuses_of}
use Rattle.nv_world_model.specs.Step.{step, replay, replies}
use Rattle.nv_model.specs.Admin.{admin_command, admin}
use Rattle.nv_world_model.specs.Disciplined.{taken_entries}
use Rattle.nv_model.specs.Controller.{Controller}
use Rattle.nv_world_model.proofs.rows.agreeing.examples.Goals as goal

abbrev is_ready : Option Controller → Bool
is_ready None = false
is_ready (Some c) = c.ready

abbrev tail_of : Option SubmissionQueue → ℕ
tail_of None = 0
tail_of (Some q) = q.tail

abbrev first_tail : Option Controller → ℕ
first_tail None = 0
first_tail (Some c) = tail_of (slice_index_or c.submission 1 None)

-- all four are the same things
pub returns-clause-a_seat_agrees : goal.returns-clause-a_seat_agrees
unfolding number_at dword qword bits bytes_of_dwords completion everywhere addresses bytes_from stored gathered scattered image in_memory and_then
    first_read in_transcript read_array read_sgl read_entries read_source ranges_in move_units clear_units range_units judge units_moved opening register
    reg_write doorbell front took post ran_out differs hosts_of fit_behind built plan_over physical_entry held_of device_unit completion_written
    share_written with_tags group claimed put_image units_behind rest_at rests_of members seat put_back acted_in administered_in taken_to listed submitted
    handed_on device_took device_moved device_posted kept_block reaped scattered_to delivered_all posted_to ran_out_of statuses_of step replay replies
    admin_command admin taken_entries
returns-clause-a_seat_agrees c = record { controller = refl; memory = (λ addr is free. refl); blocks = (λ lba offset h. refl); marks = (λ lba h. refl) }

-- the byte at 3000h
pub returns-clause-another_byte_does_not_agree : goal.returns-clause-another_byte_does_not_agree
unfolding number_at dword qword bits bytes_of_dwords completion everywhere addresses bytes_from stored gathered scattered image in_memory and_then
    first_read in_transcript read_array read_sgl read_entries read_source ranges_in move_units clear_units range_units judge units_moved opening register
    reg_write doorbell front took post ran_out differs hosts_of fit_behind built plan_over physical_entry held_of device_unit completion_written
    share_written with_tags group claimed put_image units_behind rest_at rests_of members seat put_back acted_in administered_in taken_to listed submitted
    handed_on device_took device_moved device_posted kept_block reaped scattered_to delivered_all posted_to ran_out_of statuses_of step replay replies
    admin_command admin taken_entries
returns-clause-another_byte_does_not_agree c agrees = (let bad : ◌≡◌ {A = ℕ} 1 0 = agrees.memory 0x3000 refl refl in absurd (omega arith))

-- the first byte of block 0, which is disk block 1000
pub returns-clause-another_block_does_not_agree : goal.returns-clause-another_block_does_not_agree
unfolding number_at dword qword bits bytes_of_dwords completion everywhere addresses bytes_from stored gathered scattered image in_memory and_then
    first_read in_transcript read_array read_sgl read_entries read_source ranges_in move_units clear_units range_units judge units_moved opening register
    reg_write doorbell front took post ran_out differs hosts_of fit_behind built plan_over physical_entry held_of device_unit completion_written
    share_written with_tags group claimed put_image units_behind rest_at rests_of members seat put_back acted_in administered_in taken_to listed submitted
    handed_on device_took device_moved device_posted kept_block reaped scattered_to delivered_all posted_to ran_out_of statuses_of step replay replies
    admin_command admin taken_entries
returns-clause-another_block_does_not_agree c agrees = (let bad : ◌≡◌ {A = ℕ} 0 0xe8 = agrees.blocks 0 0 (omega arith) in absurd (omega arith))

-- the mark of block 0
pub returns-clause-other_marks_do_not_agree : goal.returns-clause-other_marks_do_not_agree
unfolding number_at dword qword bits bytes_of_dwords completion everywhere addresses bytes_from stored gathered scattered image in_memory and_then
    first_read in_transcript read_array read_sgl read_entries read_source ranges_in move_units clear_units range_units judge units_moved opening register
    reg_write doorbell front took post ran_out differs hosts_of fit_behind built plan_over physical_entry held_of device_unit completion_written
    share_written with_tags group claimed put_image units_behind rest_at rests_of members seat put_back acted_in administered_in taken_to listed submitted
    handed_on device_took device_moved device_posted kept_block reaped scattered_to delivered_all posted_to ran_out_of statuses_of step replay replies
    admin_command admin taken_entries
returns-clause-other_marks_do_not_agree c agrees = (let bad : ◌≡◌ {A = Bool} true false = agrees.marks 0 (omega arith) in absurd (cc))

-- RDY
pub returns-clause-another_controller_does_not_agree : goal.returns-clause-another_controller_does_not_agree
unfolding number_at dword qword bits bytes_of_dwords completion everywhere addresses bytes_from stored gathered scattered image in_memory and_then
    first_read in_transcript read_array read_sgl read_entries read_source ranges_in move_units clear_units range_units judge units_moved opening register
    reg_write doorbell front took post ran_out differs hosts_of fit_behind built plan_over physical_entry held_of device_unit completion_written
    share_written with_tags group claimed put_image units_behind rest_at rests_of members seat put_back acted_in administered_in taken_to listed submitted
    handed_on device_took device_moved device_posted kept_block reaped scattered_to delivered_all posted_to ran_out_of statuses_of step replay replies
    admin_command admin taken_entries
returns-clause-another_controller_does_not_agree c agrees = (let bad : ◌≡◌ {A = Bool} true false = ap is_ready agrees.controller in absurd (cc))

-- the byte at 1ffffh
pub returns-clause-another_last_byte_does_not_agree : goal.returns-clause-another_last_byte_does_not_agree
unfolding number_at dword qword bits bytes_of_dwords completion everywhere addresses bytes_from stored gathered scattered image in_memory and_then
    first_read in_transcript read_array read_sgl read_entries read_source ranges_in move_units clear_units range_units judge units_moved opening register
    reg_write doorbell front took post ran_out differs hosts_of fit_behind built plan_over physical_entry held_of device_unit completion_written
    share_written with_tags group claimed put_image units_behind rest_at rests_of members seat put_back acted_in administered_in taken_to listed submitted
    handed_on device_took device_moved device_posted kept_block reaped scattered_to delivered_all posted_to ran_out_of statuses_of step replay replies
    admin_command admin taken_entries
returns-clause-another_last_byte_does_not_agree c agrees = (let bad : ◌≡◌ {A = ℕ} 1 0 = agrees.memory 0x1ffff refl refl in absurd (omega arith))

-- the last byte of block 63, which is disk block 1063
pub returns-clause-another_last_block_does_not_agree : goal.returns-clause-another_last_block_does_not_agree
unfolding number_at dword qword bits bytes_of_dwords completion everywhere addresses bytes_from stored gathered scattered image in_memory and_then
    first_read in_transcript read_array read_sgl read_entries read_source ranges_in move_units clear_units range_units judge units_moved opening register
    reg_write doorbell front took post ran_out differs hosts_of fit_behind built plan_over physical_entry held_of device_unit completion_written
    share_written with_tags group claimed put_image units_behind rest_at rests_of members seat put_back acted_in administered_in taken_to listed submitted
    handed_on device_took device_moved device_posted kept_block reaped scattered_to delivered_all posted_to ran_out_of statuses_of step replay replies
    admin_command admin taken_entries
returns-clause-another_last_block_does_not_agree c agrees = (let bad : ◌≡◌ {A = ℕ} 0 0x27 = agrees.blocks 63 511 (omega arith) in absurd (omega arith))

-- the mark of block 63
pub returns-clause-another_last_mark_does_not_agree : goal.returns-clause-another_last_mark_does_not_agree
unfolding number_at dword qword bits bytes_of_dwords completion everywhere addresses bytes_from stored gathered scattered image in_memory and_then
    first_read in_transcript read_array read_sgl read_entries read_source ranges_in move_units clear_units range_units judge units_moved opening register
    reg_write doorbell front took post ran_out differs hosts_of fit_behind built plan_over physical_entry held_of device_unit completion_written
    share_written with_tags group claimed put_image units_behind rest_at rests_of members seat put_back acted_in administered_in taken_to listed submitted
    handed_on device_took device_moved device_posted kept_block reaped scattered_to delivered_all posted_to ran_out_of statuses_of step replay replies
    admin_command admin taken_entries
returns-clause-another_last_mark_does_not_agree c agrees = (let bad : ◌≡◌ {A = Bool} true false = agrees.marks 63 (omega arith) in absurd (cc))

-- the tail
pub returns-clause-another_queue_does_not_agree : goal.returns-clause-another_queue_does_not_agree
unfolding number_at dword qword bits bytes_of_dwords completion everywhere addresses bytes_from stored gathered scattered image in_memory and_then
    first_read in_transcript read_array read_sgl read_entries read_source ranges_in move_units clear_units range_units judge units_moved opening register
    reg_write doorbell front took post ran_out differs hosts_of fit_behind built plan_over physical_entry held_of device_unit completion_written
    share_written with_tags group claimed put_image units_behind rest_at rests_of members seat put_back acted_in administered_in taken_to listed submitted
    handed_on device_took device_moved device_posted kept_block reaped scattered_to delivered_all posted_to ran_out_of statuses_of step replay replies
    admin_command admin taken_entries
returns-clause-another_queue_does_not_agree c agrees = (let bad : ◌≡◌ {A = ℕ} 1 2 = ap first_tail agrees.controller in absurd (omega arith))
