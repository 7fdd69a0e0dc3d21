use Rattle.std.proofs.Common.{refl}
use Rattle.nv_entry.specs.Layout.{number_at, dword, qword, bits, bytes_of_dwords}
use Rattle.nv_entry.specs.Completion.{completion}
use Rattle.nv_fine.specs.Drive.{driven, known}
use Rattle.nv_fine.specs.Fine.{accessed, traced}
use Rattle.nv_mem.specs.GuestMap.{everywhere}
use Rattle.nv_mem.specs.Places.{addresses}
use Rattle.nv_model.specs.Memory.{bytes_from, gathered, image, scattered, stored}
use Rattle.nv_model.specs.Dialogue.{asked, in_memory, and_then}
use Rattle.nv_model.specs.Transcript.{first_read, in_transcript}
use Rattle.nv_model.specs.Sgl.{read_array, read_sgl}
use Rattle.nv_model.specs.Prp.{read_entries}
use Rattle.nv_model.specs.Judge.{read_source, ranges_in, move_units, clear_units, range_units, judge}
use Rattle.nv_model.specs.Controller.{opening, register, reg_write, doorbell, front, took, post, ran_out}
use Rattle.nv_model.specs.Private.{differs}
use Rattle.nv_prp.specs.Fits.{hosts_of, fit_behind}
use Rattle.nv_prp.specs.Built.{built}
use Rattle.nv_world_model.specs.Plan.{plan_over}
use Rattle.nv_world_model.specs.Area.{physical_entry}
use Rattle.nv_world_model.specs.World.{claimed}
use Rattle.nv_machine.specs.Doing.{tags_put}
use Rattle.nv_machine.specs.Machine.{called, fetch, fetch_then, handed_on, statuses_of}
use Rattle.nv_fine.proofs.rows.calls.Goals as goal

pub returns-clause-a_torn_entry : goal.returns-clause-a_torn_entry
unfolding number_at dword qword bits bytes_of_dwords completion driven known accessed traced everywhere addresses bytes_from gathered image scattered
    stored asked in_memory and_then first_read in_transcript read_array read_sgl read_entries read_source ranges_in move_units clear_units range_units
    judge opening register reg_write doorbell front took post ran_out differs hosts_of fit_behind built plan_over physical_entry claimed tags_put
    called fetch fetch_then handed_on statuses_of
returns-clause-a_torn_entry c = refl

pub returns-clause-is_not_what_memory_has : goal.returns-clause-is_not_what_memory_has
unfolding number_at dword qword bits bytes_of_dwords completion driven known accessed traced everywhere addresses bytes_from gathered image scattered
    stored asked in_memory and_then first_read in_transcript read_array read_sgl read_entries read_source ranges_in move_units clear_units range_units
    judge opening register reg_write doorbell front took post ran_out differs hosts_of fit_behind built plan_over physical_entry claimed tags_put
    called fetch fetch_then handed_on statuses_of
returns-clause-is_not_what_memory_has c = refl

pub returns-clause-a_source_that_changes : goal.returns-clause-a_source_that_changes
unfolding number_at dword qword bits bytes_of_dwords completion driven known accessed traced everywhere addresses bytes_from gathered image scattered
    stored asked in_memory and_then first_read in_transcript read_array read_sgl read_entries read_source ranges_in move_units clear_units range_units
    judge opening register reg_write doorbell front took post ran_out differs hosts_of fit_behind built plan_over physical_entry claimed tags_put
    called fetch fetch_then handed_on statuses_of
returns-clause-a_source_that_changes c = refl

pub returns-clause-one_call_after_another : goal.returns-clause-one_call_after_another
unfolding number_at dword qword bits bytes_of_dwords completion driven known accessed traced everywhere addresses bytes_from gathered image scattered
    stored asked in_memory and_then first_read in_transcript read_array read_sgl read_entries read_source ranges_in move_units clear_units range_units
    judge opening register reg_write doorbell front took post ran_out differs hosts_of fit_behind built plan_over physical_entry claimed tags_put
    called fetch fetch_then handed_on statuses_of
returns-clause-one_call_after_another c = refl

pub returns-clause-nothing_goes_on : goal.returns-clause-nothing_goes_on
unfolding number_at dword qword bits bytes_of_dwords completion driven known accessed traced everywhere addresses bytes_from gathered image scattered
    stored asked in_memory and_then first_read in_transcript read_array read_sgl read_entries read_source ranges_in move_units clear_units range_units
    judge opening register reg_write doorbell front took post ran_out differs hosts_of fit_behind built plan_over physical_entry claimed tags_put
    called fetch fetch_then handed_on statuses_of
returns-clause-nothing_goes_on c = refl

pub returns-clause-nothing_beyond_a_guests_memory : goal.returns-clause-nothing_beyond_a_guests_memory
unfolding number_at dword qword bits bytes_of_dwords completion driven known accessed traced everywhere addresses bytes_from gathered image scattered
    stored asked in_memory and_then first_read in_transcript read_array read_sgl read_entries read_source ranges_in move_units clear_units range_units
    judge opening register reg_write doorbell front took post ran_out differs hosts_of fit_behind built plan_over physical_entry claimed tags_put
    called fetch fetch_then handed_on statuses_of
returns-clause-nothing_beyond_a_guests_memory c = refl

pub returns-clause-a_dword_at_once : goal.returns-clause-a_dword_at_once
unfolding number_at dword qword bits bytes_of_dwords completion driven known accessed traced everywhere addresses bytes_from gathered image scattered
    stored asked in_memory and_then first_read in_transcript read_array read_sgl read_entries read_source ranges_in move_units clear_units range_units
    judge opening register reg_write doorbell front took post ran_out differs hosts_of fit_behind built plan_over physical_entry claimed tags_put
    called fetch fetch_then handed_on statuses_of
returns-clause-a_dword_at_once c = refl

pub returns-clause-bytes_one_by_one : goal.returns-clause-bytes_one_by_one
unfolding number_at dword qword bits bytes_of_dwords completion driven known accessed traced everywhere addresses bytes_from gathered image scattered
    stored asked in_memory and_then first_read in_transcript read_array read_sgl read_entries read_source ranges_in move_units clear_units range_units
    judge opening register reg_write doorbell front took post ran_out differs hosts_of fit_behind built plan_over physical_entry claimed tags_put
    called fetch fetch_then handed_on statuses_of
returns-clause-bytes_one_by_one c = refl
