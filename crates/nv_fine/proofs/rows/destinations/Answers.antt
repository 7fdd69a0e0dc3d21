use Rattle.std.proofs.Common.{refl}
use Rattle.nv_entry.specs.Layout.{number_at, dword, qword, bits, bytes_of_dwords}
use Rattle.nv_entry.specs.Completion.{completion}
use Rattle.nv_fine.specs.Drive.{driven, known}
use Rattle.nv_fine.specs.Fine.{accessed, traced}
use Rattle.nv_mem.specs.GuestMap.{everywhere}
use Rattle.nv_mem.specs.Places.{addresses}
use Rattle.nv_model.specs.Memory.{bytes_from, gathered, image, scattered, stored}
use Rattle.nv_model.specs.Dialogue.{asked, in_memory, and_then}
use Rattle.nv_model.specs.Transcript.{first_read, in_transcript}
use Rattle.nv_model.specs.Sgl.{read_array, read_sgl}
use Rattle.nv_model.specs.Prp.{read_entries}
use Rattle.nv_model.specs.Judge.{read_source, ranges_in, move_units, clear_units, range_units, judge}
use Rattle.nv_model.specs.Controller.{opening, register, reg_write, doorbell, front, took, post, ran_out}
use Rattle.nv_model.specs.Private.{differs}
use Rattle.nv_prp.specs.Fits.{hosts_of, fit_behind}
use Rattle.nv_prp.specs.Built.{built}
use Rattle.nv_world_model.specs.Plan.{plan_over}
use Rattle.nv_world_model.specs.Area.{physical_entry}
use Rattle.nv_world_model.specs.World.{claimed}
use Rattle.nv_machine.specs.Doing.{tags_put}
use Rattle.nv_machine.specs.Machine.{called, fetch, fetch_then, handed_on, statuses_of}
use Rattle.nv_fine.proofs.rows.destinations.Goals as goal

pub returns-clause-in_pieces : goal.returns-clause-in_pieces
unfolding number_at dword qword bits bytes_of_dwords completion driven known accessed traced everywhere addresses bytes_from gathered image scattered
    stored asked in_memory and_then first_read in_transcript read_array read_sgl read_entries read_source ranges_in move_units clear_units range_units
    judge opening register reg_write doorbell front took post ran_out differs hosts_of fit_behind built plan_over physical_entry claimed tags_put
    called fetch fetch_then handed_on statuses_of
returns-clause-in_pieces c = refl

pub returns-clause-not_before_it_has_the_block : goal.returns-clause-not_before_it_has_the_block
unfolding number_at dword qword bits bytes_of_dwords completion driven known accessed traced everywhere addresses bytes_from gathered image scattered
    stored asked in_memory and_then first_read in_transcript read_array read_sgl read_entries read_source ranges_in move_units clear_units range_units
    judge opening register reg_write doorbell front took post ran_out differs hosts_of fit_behind built plan_over physical_entry claimed tags_put
    called fetch fetch_then handed_on statuses_of
returns-clause-not_before_it_has_the_block c = refl

pub returns-clause-not_beyond_it : goal.returns-clause-not_beyond_it
unfolding number_at dword qword bits bytes_of_dwords completion driven known accessed traced everywhere addresses bytes_from gathered image scattered
    stored asked in_memory and_then first_read in_transcript read_array read_sgl read_entries read_source ranges_in move_units clear_units range_units
    judge opening register reg_write doorbell front took post ran_out differs hosts_of fit_behind built plan_over physical_entry claimed tags_put
    called fetch fetch_then handed_on statuses_of
returns-clause-not_beyond_it c = refl

pub returns-clause-a_guest_may_look : goal.returns-clause-a_guest_may_look
unfolding number_at dword qword bits bytes_of_dwords completion driven known accessed traced everywhere addresses bytes_from gathered image scattered
    stored asked in_memory and_then first_read in_transcript read_array read_sgl read_entries read_source ranges_in move_units clear_units range_units
    judge opening register reg_write doorbell front took post ran_out differs hosts_of fit_behind built plan_over physical_entry claimed tags_put
    called fetch fetch_then handed_on statuses_of
returns-clause-a_guest_may_look c = refl

pub returns-clause-no_completion_before_it : goal.returns-clause-no_completion_before_it
unfolding number_at dword qword bits bytes_of_dwords completion driven known accessed traced everywhere addresses bytes_from gathered image scattered
    stored asked in_memory and_then first_read in_transcript read_array read_sgl read_entries read_source ranges_in move_units clear_units range_units
    judge opening register reg_write doorbell front took post ran_out differs hosts_of fit_behind built plan_over physical_entry claimed tags_put
    called fetch fetch_then handed_on statuses_of
returns-clause-no_completion_before_it c = refl

pub returns-clause-no_completion_without_the_block : goal.returns-clause-no_completion_without_the_block
unfolding number_at dword qword bits bytes_of_dwords completion driven known accessed traced everywhere addresses bytes_from gathered image scattered
    stored asked in_memory and_then first_read in_transcript read_array read_sgl read_entries read_source ranges_in move_units clear_units range_units
    judge opening register reg_write doorbell front took post ran_out differs hosts_of fit_behind built plan_over physical_entry claimed tags_put
    called fetch fetch_then handed_on statuses_of
returns-clause-no_completion_without_the_block c = refl

pub returns-clause-a_failure_in_between : goal.returns-clause-a_failure_in_between
unfolding number_at dword qword bits bytes_of_dwords completion driven known accessed traced everywhere addresses bytes_from gathered image scattered
    stored asked in_memory and_then first_read in_transcript read_array read_sgl read_entries read_source ranges_in move_units clear_units range_units
    judge opening register reg_write doorbell front took post ran_out differs hosts_of fit_behind built plan_over physical_entry claimed tags_put
    called fetch fetch_then handed_on statuses_of
returns-clause-a_failure_in_between c = refl

pub returns-clause-which_is_no_success : goal.returns-clause-which_is_no_success
unfolding number_at dword qword bits bytes_of_dwords completion driven known accessed traced everywhere addresses bytes_from gathered image scattered
    stored asked in_memory and_then first_read in_transcript read_array read_sgl read_entries read_source ranges_in move_units clear_units range_units
    judge opening register reg_write doorbell front took post ran_out differs hosts_of fit_behind built plan_over physical_entry claimed tags_put
    called fetch fetch_then handed_on statuses_of
returns-clause-which_is_no_success c = refl
