use Rattle.std.proofs.Common.{refl}
use Rattle.nv_entry.specs.Layout.{number_at, dword, qword, bits, bytes_of_dwords}
use Rattle.nv_entry.specs.Completion.{completion}
use Rattle.nv_fine.specs.Drive.{driven, known}
use Rattle.nv_fine.specs.Fine.{accessed, traced}
use Rattle.nv_mem.specs.GuestMap.{everywhere}
use Rattle.nv_mem.specs.Places.{addresses}
use Rattle.nv_model.specs.Memory.{bytes_from, gathered, image, scattered, stored}
use Rattle.nv_model.specs.Dialogue.{asked, in_memory, and_then}
use Rattle.nv_model.specs.Transcript.{first_read, in_transcript}
use Rattle.nv_model.specs.Sgl.{read_array, read_sgl}
use Rattle.nv_model.specs.Prp.{read_entries}
use Rattle.nv_model.specs.Judge.{read_source, ranges_in, move_units, clear_units, range_units, judge}
use Rattle.nv_model.specs.Controller.{opening, register, reg_write, doorbell, front, took, post, ran_out}
use Rattle.nv_model.specs.Private.{differs}
use Rattle.nv_prp.specs.Fits.{hosts_of, fit_behind}
use Rattle.nv_prp.specs.Built.{built}
use Rattle.nv_world_model.specs.Plan.{plan_over}
use Rattle.nv_world_model.specs.Area.{physical_entry}
use Rattle.nv_world_model.specs.World.{claimed}
use Rattle.nv_machine.specs.Doing.{tags_put}
use Rattle.nv_machine.specs.Machine.{called, fetch, fetch_then, handed_on, statuses_of}
use Rattle.nv_fine.proofs.rows.sources.Goals as goal

pub returns-clause-not_before_all_are_read : goal.returns-clause-not_before_all_are_read
unfolding number_at dword qword bits bytes_of_dwords completion driven known accessed traced everywhere addresses bytes_from gathered image scattered
    stored asked in_memory and_then first_read in_transcript read_array read_sgl read_entries read_source ranges_in move_units clear_units range_units
    judge opening register reg_write doorbell front took post ran_out differs hosts_of fit_behind built plan_over physical_entry claimed tags_put
    called fetch fetch_then handed_on statuses_of
returns-clause-not_before_all_are_read c = refl

pub returns-clause-the_byte_that_was_read : goal.returns-clause-the_byte_that_was_read
unfolding number_at dword qword bits bytes_of_dwords completion driven known accessed traced everywhere addresses bytes_from gathered image scattered
    stored asked in_memory and_then first_read in_transcript read_array read_sgl read_entries read_source ranges_in move_units clear_units range_units
    judge opening register reg_write doorbell front took post ran_out differs hosts_of fit_behind built plan_over physical_entry claimed tags_put
    called fetch fetch_then handed_on statuses_of
returns-clause-the_byte_that_was_read c = refl

pub returns-clause-with_those_before : goal.returns-clause-with_those_before
unfolding number_at dword qword bits bytes_of_dwords completion driven known accessed traced everywhere addresses bytes_from gathered image scattered
    stored asked in_memory and_then first_read in_transcript read_array read_sgl read_entries read_source ranges_in move_units clear_units range_units
    judge opening register reg_write doorbell front took post ran_out differs hosts_of fit_behind built plan_over physical_entry claimed tags_put
    called fetch fetch_then handed_on statuses_of
returns-clause-with_those_before c = refl

pub returns-clause-once : goal.returns-clause-once
unfolding number_at dword qword bits bytes_of_dwords completion driven known accessed traced everywhere addresses bytes_from gathered image scattered
    stored asked in_memory and_then first_read in_transcript read_array read_sgl read_entries read_source ranges_in move_units clear_units range_units
    judge opening register reg_write doorbell front took post ran_out differs hosts_of fit_behind built plan_over physical_entry claimed tags_put
    called fetch fetch_then handed_on statuses_of
returns-clause-once c = refl

pub returns-clause-nothing_else_is_read : goal.returns-clause-nothing_else_is_read
unfolding number_at dword qword bits bytes_of_dwords completion driven known accessed traced everywhere addresses bytes_from gathered image scattered
    stored asked in_memory and_then first_read in_transcript read_array read_sgl read_entries read_source ranges_in move_units clear_units range_units
    judge opening register reg_write doorbell front took post ran_out differs hosts_of fit_behind built plan_over physical_entry claimed tags_put
    called fetch fetch_then handed_on statuses_of
returns-clause-nothing_else_is_read c = refl

pub returns-clause-no_destination_of_it : goal.returns-clause-no_destination_of_it
unfolding number_at dword qword bits bytes_of_dwords completion driven known accessed traced everywhere addresses bytes_from gathered image scattered
    stored asked in_memory and_then first_read in_transcript read_array read_sgl read_entries read_source ranges_in move_units clear_units range_units
    judge opening register reg_write doorbell front took post ran_out differs hosts_of fit_behind built plan_over physical_entry claimed tags_put
    called fetch fetch_then handed_on statuses_of
returns-clause-no_destination_of_it c = refl

pub returns-clause-a_deallocated_block_may_stay : goal.returns-clause-a_deallocated_block_may_stay
unfolding number_at dword qword bits bytes_of_dwords completion driven known accessed traced everywhere addresses bytes_from gathered image scattered
    stored asked in_memory and_then first_read in_transcript read_array read_sgl read_entries read_source ranges_in move_units clear_units range_units
    judge opening register reg_write doorbell front took post ran_out differs hosts_of fit_behind built plan_over physical_entry claimed tags_put
    called fetch fetch_then handed_on statuses_of
returns-clause-a_deallocated_block_may_stay c = refl

pub returns-clause-not_where_it_reads_zeros : goal.returns-clause-not_where_it_reads_zeros
unfolding number_at dword qword bits bytes_of_dwords completion driven known accessed traced everywhere addresses bytes_from gathered image scattered
    stored asked in_memory and_then first_read in_transcript read_array read_sgl read_entries read_source ranges_in move_units clear_units range_units
    judge opening register reg_write doorbell front took post ran_out differs hosts_of fit_behind built plan_over physical_entry claimed tags_put
    called fetch fetch_then handed_on statuses_of
returns-clause-not_where_it_reads_zeros c = refl

pub returns-clause-nor_may_a_cleared_one : goal.returns-clause-nor_may_a_cleared_one
unfolding number_at dword qword bits bytes_of_dwords completion driven known accessed traced everywhere addresses bytes_from gathered image scattered
    stored asked in_memory and_then first_read in_transcript read_array read_sgl read_entries read_source ranges_in move_units clear_units range_units
    judge opening register reg_write doorbell front took post ran_out differs hosts_of fit_behind built plan_over physical_entry claimed tags_put
    called fetch fetch_then handed_on statuses_of
returns-clause-nor_may_a_cleared_one c = refl
