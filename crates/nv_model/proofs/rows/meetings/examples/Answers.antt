use Rattle.std.proofs.Common.{refl}
use Rattle.nv_entry.specs.Layout.{number_at, dword, qword, bits, bytes_of_dwords}
use Rattle.nv_entry.specs.Completion.{completion}
use Rattle.nv_mem.specs.GuestMap.{everywhere}
use Rattle.nv_mem.specs.Places.{addresses}
use Rattle.nv_model.specs.Memory.{bytes_from, stored, gathered, scattered}
use Rattle.nv_model.specs.Dialogue.{in_memory, asked, and_then}
use Rattle.nv_model.specs.Sgl.{read_array, read_sgl}
use Rattle.nv_model.specs.Prp.{read_entries}
use Rattle.nv_model.specs.Judge.{read_source, ranges_in, move_units, clear_units, range_units, judge}
use Rattle.nv_model.specs.Controller.{opening, register, reg_write, doorbell, front, took, post, ran_out}
use Rattle.nv_model.specs.Admin.{admin_command, admin}
use Rattle.nv_model.specs.Footprint.{completion_slots, footprints, loads_from_destination, stores_into}
use Rattle.nv_model.specs.Private.{start, differs, step, run_of}
use Rattle.nv_model.proofs.rows.meetings.examples.Goals as goal

pub returns-clause-a_store_meets_each_use : goal.returns-clause-a_store_meets_each_use
unfolding number_at dword qword bits bytes_of_dwords completion everywhere addresses bytes_from stored gathered scattered in_memory asked and_then read_array
    read_sgl read_entries read_source ranges_in move_units clear_units range_units judge opening register reg_write doorbell front took post ran_out
    admin_command admin footprints completion_slots loads_from_destination stores_into start differs step run_of
returns-clause-a_store_meets_each_use c = refl

pub returns-clause-a_store_beside_them_meets_none : goal.returns-clause-a_store_beside_them_meets_none
unfolding number_at dword qword bits bytes_of_dwords completion everywhere addresses bytes_from stored gathered scattered in_memory asked and_then read_array
    read_sgl read_entries read_source ranges_in move_units clear_units range_units judge opening register reg_write doorbell front took post ran_out
    admin_command admin footprints completion_slots loads_from_destination stores_into start differs step run_of
returns-clause-a_store_beside_them_meets_none c = refl

pub returns-clause-a_store_meets_by_its_bytes : goal.returns-clause-a_store_meets_by_its_bytes
unfolding number_at dword qword bits bytes_of_dwords completion everywhere addresses bytes_from stored gathered scattered in_memory asked and_then read_array
    read_sgl read_entries read_source ranges_in move_units clear_units range_units judge opening register reg_write doorbell front took post ran_out
    admin_command admin footprints completion_slots loads_from_destination stores_into start differs step run_of
returns-clause-a_store_meets_by_its_bytes c = refl

pub returns-clause-a_load_meets_the_destination : goal.returns-clause-a_load_meets_the_destination
unfolding number_at dword qword bits bytes_of_dwords completion everywhere addresses bytes_from stored gathered scattered in_memory asked and_then read_array
    read_sgl read_entries read_source ranges_in move_units clear_units range_units judge opening register reg_write doorbell front took post ran_out
    admin_command admin footprints completion_slots loads_from_destination stores_into start differs step run_of
returns-clause-a_load_meets_the_destination c = refl

pub returns-clause-a_load_meets_by_its_bytes : goal.returns-clause-a_load_meets_by_its_bytes
unfolding number_at dword qword bits bytes_of_dwords completion everywhere addresses bytes_from stored gathered scattered in_memory asked and_then read_array
    read_sgl read_entries read_source ranges_in move_units clear_units range_units judge opening register reg_write doorbell front took post ran_out
    admin_command admin footprints completion_slots loads_from_destination stores_into start differs step run_of
returns-clause-a_load_meets_by_its_bytes c = refl

pub returns-clause-other_acts_meet_none : goal.returns-clause-other_acts_meet_none
unfolding number_at dword qword bits bytes_of_dwords completion everywhere addresses bytes_from stored gathered scattered in_memory asked and_then read_array
    read_sgl read_entries read_source ranges_in move_units clear_units range_units judge opening register reg_write doorbell front took post ran_out
    admin_command admin footprints completion_slots loads_from_destination stores_into start differs step run_of
returns-clause-other_acts_meet_none c = refl

pub returns-clause-the_slots_of_each_completion_queue : goal.returns-clause-the_slots_of_each_completion_queue
unfolding number_at dword qword bits bytes_of_dwords completion everywhere addresses bytes_from stored gathered scattered in_memory asked and_then read_array
    read_sgl read_entries read_source ranges_in move_units clear_units range_units judge opening register reg_write doorbell front took post ran_out
    admin_command admin footprints completion_slots loads_from_destination stores_into start differs step run_of
returns-clause-the_slots_of_each_completion_queue c = refl

pub returns-clause-no_slots_at_the_start : goal.returns-clause-no_slots_at_the_start
unfolding number_at dword qword bits bytes_of_dwords completion everywhere addresses bytes_from stored gathered scattered in_memory asked and_then read_array
    read_sgl read_entries read_source ranges_in move_units clear_units range_units judge opening register reg_write doorbell front took post ran_out
    admin_command admin footprints completion_slots loads_from_destination stores_into start differs step run_of
returns-clause-no_slots_at_the_start c = refl

pub returns-clause-entries_go_round : goal.returns-clause-entries_go_round
unfolding number_at dword qword bits bytes_of_dwords completion everywhere addresses bytes_from stored gathered scattered in_memory asked and_then read_array
    read_sgl read_entries read_source ranges_in move_units clear_units range_units judge opening register reg_write doorbell front took post ran_out
    admin_command admin footprints completion_slots loads_from_destination stores_into start differs step run_of
returns-clause-entries_go_round c = refl
