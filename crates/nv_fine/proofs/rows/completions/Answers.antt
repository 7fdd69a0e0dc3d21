use Rattle.std.proofs.Common.{refl}
use Rattle.nv_entry.specs.Layout.{number_at, dword, qword, bits, bytes_of_dwords}
use Rattle.nv_entry.specs.Completion.{completion}
use Rattle.nv_fine.specs.Drive.{driven, known}
use Rattle.nv_fine.specs.Fine.{accessed, traced}
use Rattle.nv_mem.specs.GuestMap.{everywhere}
use Rattle.nv_mem.specs.Places.{addresses}
use Rattle.nv_model.specs.Memory.{bytes_from, gathered, image, scattered, stored}
use Rattle.nv_model.specs.Dialogue.{asked, in_memory, and_then}
use Rattle.nv_model.specs.Transcript.{first_read, in_transcript}
use Rattle.nv_model.specs.Sgl.{read_array, read_sgl}
use Rattle.nv_model.specs.Prp.{read_entries}
use Rattle.nv_model.specs.Judge.{read_source, ranges_in, move_units, clear_units, range_units, judge}
use Rattle.nv_model.specs.Controller.{opening, register, reg_write, doorbell, front, took, post, ran_out}
use Rattle.nv_model.specs.Private.{differs}
use Rattle.nv_prp.specs.Fits.{hosts_of, fit_behind}
use Rattle.nv_prp.specs.Built.{built}
use Rattle.nv_world_model.specs.Plan.{plan_over}
use Rattle.nv_world_model.specs.Area.{physical_entry}
use Rattle.nv_world_model.specs.World.{claimed}
use Rattle.nv_machine.specs.Doing.{tags_put}
use Rattle.nv_machine.specs.Machine.{called, fetch, fetch_then, handed_on, statuses_of}
use Rattle.nv_fine.proofs.rows.completions.Goals as goal

pub returns-clause-no_phase_tag_before : goal.returns-clause-no_phase_tag_before
unfolding number_at dword qword bits bytes_of_dwords completion driven known accessed traced everywhere addresses bytes_from gathered image scattered
    stored asked in_memory and_then first_read in_transcript read_array read_sgl read_entries read_source ranges_in move_units clear_units range_units
    judge opening register reg_write doorbell front took post ran_out differs hosts_of fit_behind built plan_over physical_entry claimed tags_put
    called fetch fetch_then handed_on statuses_of
returns-clause-no_phase_tag_before c = refl

pub returns-clause-nor_by_a_number_that_is_no_byte : goal.returns-clause-nor_by_a_number_that_is_no_byte
unfolding number_at dword qword bits bytes_of_dwords completion driven known accessed traced everywhere addresses bytes_from gathered image scattered
    stored asked in_memory and_then first_read in_transcript read_array read_sgl read_entries read_source ranges_in move_units clear_units range_units
    judge opening register reg_write doorbell front took post ran_out differs hosts_of fit_behind built plan_over physical_entry claimed tags_put
    called fetch fetch_then handed_on statuses_of
returns-clause-nor_by_a_number_that_is_no_byte c = refl

pub returns-clause-a_reap_before : goal.returns-clause-a_reap_before
unfolding number_at dword qword bits bytes_of_dwords completion driven known accessed traced everywhere addresses bytes_from gathered image scattered
    stored asked in_memory and_then first_read in_transcript read_array read_sgl read_entries read_source ranges_in move_units clear_units range_units
    judge opening register reg_write doorbell front took post ran_out differs hosts_of fit_behind built plan_over physical_entry claimed tags_put
    called fetch fetch_then handed_on statuses_of
returns-clause-a_reap_before c = refl

pub returns-clause-a_reap_after : goal.returns-clause-a_reap_after
unfolding number_at dword qword bits bytes_of_dwords completion driven known accessed traced everywhere addresses bytes_from gathered image scattered
    stored asked in_memory and_then first_read in_transcript read_array read_sgl read_entries read_source ranges_in move_units clear_units range_units
    judge opening register reg_write doorbell front took post ran_out differs hosts_of fit_behind built plan_over physical_entry claimed tags_put
    called fetch fetch_then handed_on statuses_of
returns-clause-a_reap_after c = refl

pub returns-clause-a_reap_meanwhile : goal.returns-clause-a_reap_meanwhile
unfolding number_at dword qword bits bytes_of_dwords completion driven known accessed traced everywhere addresses bytes_from gathered image scattered
    stored asked in_memory and_then first_read in_transcript read_array read_sgl read_entries read_source ranges_in move_units clear_units range_units
    judge opening register reg_write doorbell front took post ran_out differs hosts_of fit_behind built plan_over physical_entry claimed tags_put
    called fetch fetch_then handed_on statuses_of
returns-clause-a_reap_meanwhile c = refl

pub returns-clause-before_it_a_byte_once_more : goal.returns-clause-before_it_a_byte_once_more
unfolding number_at dword qword bits bytes_of_dwords completion driven known accessed traced everywhere addresses bytes_from gathered image scattered
    stored asked in_memory and_then first_read in_transcript read_array read_sgl read_entries read_source ranges_in move_units clear_units range_units
    judge opening register reg_write doorbell front took post ran_out differs hosts_of fit_behind built plan_over physical_entry claimed tags_put
    called fetch fetch_then handed_on statuses_of
returns-clause-before_it_a_byte_once_more c = refl

pub returns-clause-after_it_nothing : goal.returns-clause-after_it_nothing
unfolding number_at dword qword bits bytes_of_dwords completion driven known accessed traced everywhere addresses bytes_from gathered image scattered
    stored asked in_memory and_then first_read in_transcript read_array read_sgl read_entries read_source ranges_in move_units clear_units range_units
    judge opening register reg_write doorbell front took post ran_out differs hosts_of fit_behind built plan_over physical_entry claimed tags_put
    called fetch fetch_then handed_on statuses_of
returns-clause-after_it_nothing c = refl

pub returns-clause-nor_a_second_one : goal.returns-clause-nor_a_second_one
unfolding number_at dword qword bits bytes_of_dwords completion driven known accessed traced everywhere addresses bytes_from gathered image scattered
    stored asked in_memory and_then first_read in_transcript read_array read_sgl read_entries read_source ranges_in move_units clear_units range_units
    judge opening register reg_write doorbell front took post ran_out differs hosts_of fit_behind built plan_over physical_entry claimed tags_put
    called fetch fetch_then handed_on statuses_of
returns-clause-nor_a_second_one c = refl

pub returns-clause-of_its_own_queue : goal.returns-clause-of_its_own_queue
unfolding number_at dword qword bits bytes_of_dwords completion driven known accessed traced everywhere addresses bytes_from gathered image scattered
    stored asked in_memory and_then first_read in_transcript read_array read_sgl read_entries read_source ranges_in move_units clear_units range_units
    judge opening register reg_write doorbell front took post ran_out differs hosts_of fit_behind built plan_over physical_entry claimed tags_put
    called fetch fetch_then handed_on statuses_of
returns-clause-of_its_own_queue c = refl

pub returns-clause-of_its_own_identifier : goal.returns-clause-of_its_own_identifier
unfolding number_at dword qword bits bytes_of_dwords completion driven known accessed traced everywhere addresses bytes_from gathered image scattered
    stored asked in_memory and_then first_read in_transcript read_array read_sgl read_entries read_source ranges_in move_units clear_units range_units
    judge opening register reg_write doorbell front took post ran_out differs hosts_of fit_behind built plan_over physical_entry claimed tags_put
    called fetch fetch_then handed_on statuses_of
returns-clause-of_its_own_identifier c = refl

pub returns-clause-no_slot_beyond_the_tail : goal.returns-clause-no_slot_beyond_the_tail
unfolding number_at dword qword bits bytes_of_dwords completion driven known accessed traced everywhere addresses bytes_from gathered image scattered
    stored asked in_memory and_then first_read in_transcript read_array read_sgl read_entries read_source ranges_in move_units clear_units range_units
    judge opening register reg_write doorbell front took post ran_out differs hosts_of fit_behind built plan_over physical_entry claimed tags_put
    called fetch fetch_then handed_on statuses_of
returns-clause-no_slot_beyond_the_tail c = refl

pub returns-clause-a_slot_before_it : goal.returns-clause-a_slot_before_it
unfolding number_at dword qword bits bytes_of_dwords completion driven known accessed traced everywhere addresses bytes_from gathered image scattered
    stored asked in_memory and_then first_read in_transcript read_array read_sgl read_entries read_source ranges_in move_units clear_units range_units
    judge opening register reg_write doorbell front took post ran_out differs hosts_of fit_behind built plan_over physical_entry claimed tags_put
    called fetch fetch_then handed_on statuses_of
returns-clause-a_slot_before_it c = refl

pub returns-clause-no_byte_behind_it : goal.returns-clause-no_byte_behind_it
unfolding number_at dword qword bits bytes_of_dwords completion driven known accessed traced everywhere addresses bytes_from gathered image scattered
    stored asked in_memory and_then first_read in_transcript read_array read_sgl read_entries read_source ranges_in move_units clear_units range_units
    judge opening register reg_write doorbell front took post ran_out differs hosts_of fit_behind built plan_over physical_entry claimed tags_put
    called fetch fetch_then handed_on statuses_of
returns-clause-no_byte_behind_it c = refl

pub returns-clause-an_entry_that_was_read : goal.returns-clause-an_entry_that_was_read
unfolding number_at dword qword bits bytes_of_dwords completion driven known accessed traced everywhere addresses bytes_from gathered image scattered
    stored asked in_memory and_then first_read in_transcript read_array read_sgl read_entries read_source ranges_in move_units clear_units range_units
    judge opening register reg_write doorbell front took post ran_out differs hosts_of fit_behind built plan_over physical_entry claimed tags_put
    called fetch fetch_then handed_on statuses_of
returns-clause-an_entry_that_was_read c = refl

pub returns-clause-no_entry_unread : goal.returns-clause-no_entry_unread
unfolding number_at dword qword bits bytes_of_dwords completion driven known accessed traced everywhere addresses bytes_from gathered image scattered
    stored asked in_memory and_then first_read in_transcript read_array read_sgl read_entries read_source ranges_in move_units clear_units range_units
    judge opening register reg_write doorbell front took post ran_out differs hosts_of fit_behind built plan_over physical_entry claimed tags_put
    called fetch fetch_then handed_on statuses_of
returns-clause-no_entry_unread c = refl
