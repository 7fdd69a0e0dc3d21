use Rattle.std.proofs.Common.{refl}
use Rattle.nv_entry.specs.Layout.{number_at, dword, qword, bits, bytes_of_dwords}
use Rattle.nv_entry.specs.Completion.{completion}
use Rattle.nv_mem.specs.GuestMap.{everywhere}
use Rattle.nv_mem.specs.Places.{addresses}
use Rattle.nv_model.specs.Carried.{units_moved}
use Rattle.nv_model.specs.Memory.{bytes_from, stored, gathered, scattered}
use Rattle.nv_model.specs.Dialogue.{in_memory, and_then}
use Rattle.nv_model.specs.Sgl.{read_array, read_sgl}
use Rattle.nv_model.specs.Judge.{move_units, judge}
use Rattle.nv_model.specs.Controller.{opening, register, reg_write, doorbell, front, took, post, ran_out}
use Rattle.nv_model.specs.Admin.{admin_command, admin}
use Rattle.nv_model.specs.Private.{differs, start, step, run_of}
use Rattle.nv_prp.specs.Built.{built}
use Rattle.nv_prp.specs.Fits.{fit_behind, hosts_of}
use Rattle.nv_world_model.specs.Area.{physical_entry}
use Rattle.nv_world_model.specs.Device.{device_unit}
use Rattle.nv_examples.proofs.edges.commands.Goals as goal

pub returns-clause-a_completion_queue_of_a_submission_queues_number : goal.returns-clause-a_completion_queue_of_a_submission_queues_number
unfolding number_at dword qword bits bytes_of_dwords completion everywhere addresses bytes_from stored gathered scattered in_memory and_then read_array read_sgl
    move_units judge opening register reg_write doorbell front took post ran_out admin_command admin differs start step run_of
returns-clause-a_completion_queue_of_a_submission_queues_number c = refl

pub returns-clause-a_verdict_is_given : goal.returns-clause-a_verdict_is_given
unfolding number_at dword qword bits bytes_of_dwords completion everywhere addresses bytes_from stored gathered scattered in_memory and_then read_array read_sgl
    move_units judge opening register reg_write doorbell front took post ran_out admin_command admin differs start step run_of
returns-clause-a_verdict_is_given c = refl

pub returns-clause-it_is_given_once : goal.returns-clause-it_is_given_once
unfolding number_at dword qword bits bytes_of_dwords completion everywhere addresses bytes_from stored gathered scattered in_memory and_then read_array read_sgl
    move_units judge opening register reg_write doorbell front took post ran_out admin_command admin differs start step run_of
returns-clause-it_is_given_once c = refl

pub returns-clause-fua_of_a_physical_write_zeroes : goal.returns-clause-fua_of_a_physical_write_zeroes
unfolding number_at dword qword bits bytes_of_dwords physical_entry hosts_of fit_behind built
returns-clause-fua_of_a_physical_write_zeroes c = refl

pub returns-clause-fua_keeps_what_it_clears : goal.returns-clause-fua_keeps_what_it_clears
unfolding number_at dword qword bits bytes_of_dwords bytes_from stored gathered scattered move_units units_moved device_unit
returns-clause-fua_keeps_what_it_clears c = refl

pub returns-clause-without_it_none_is_kept : goal.returns-clause-without_it_none_is_kept
unfolding number_at dword qword bits bytes_of_dwords bytes_from stored gathered scattered move_units units_moved device_unit
returns-clause-without_it_none_is_kept c = refl
