use Rattle.std.proofs.Common.{refl}
use Rattle.nv_entry.specs.Layout.{number_at, dword, qword, bits, bytes_of_dwords}
use Rattle.nv_entry.specs.Completion.{completion}
use Rattle.nv_mem.specs.GuestMap.{everywhere}
use Rattle.nv_mem.specs.Places.{addresses}
use Rattle.nv_model.specs.Memory.{bytes_from, stored, gathered, scattered}
use Rattle.nv_model.specs.Dialogue.{in_memory, and_then}
use Rattle.nv_model.specs.Sgl.{read_array, read_sgl}
use Rattle.nv_model.specs.Judge.{move_units, judge}
use Rattle.nv_model.specs.Controller.{opening, register, reg_write, doorbell, front, took, post, ran_out}
use Rattle.nv_model.specs.Admin.{admin_command, admin}
use Rattle.nv_model.specs.Private.{differs, start, step, run_of}
use Rattle.nv_examples.proofs.edges.registers.Goals as goal

pub returns-clause-admin_queue_registers_behind_a_failure : goal.returns-clause-admin_queue_registers_behind_a_failure
unfolding number_at dword qword bits bytes_of_dwords completion everywhere addresses bytes_from stored gathered scattered in_memory and_then read_array read_sgl
    move_units judge opening register reg_write doorbell front took post ran_out admin_command admin differs start step run_of
returns-clause-admin_queue_registers_behind_a_failure c = refl

pub returns-clause-ready_until_the_last_runs_out : goal.returns-clause-ready_until_the_last_runs_out
unfolding number_at dword qword bits bytes_of_dwords completion everywhere addresses bytes_from stored gathered scattered in_memory and_then read_array read_sgl
    move_units judge opening register reg_write doorbell front took post ran_out admin_command admin differs start step run_of
returns-clause-ready_until_the_last_runs_out c = refl

pub returns-clause-not_ready_behind_the_last : goal.returns-clause-not_ready_behind_the_last
unfolding number_at dword qword bits bytes_of_dwords completion everywhere addresses bytes_from stored gathered scattered in_memory and_then read_array read_sgl
    move_units judge opening register reg_write doorbell front took post ran_out admin_command admin differs start step run_of
returns-clause-not_ready_behind_the_last c = refl

pub returns-clause-a_longer_completion_queue : goal.returns-clause-a_longer_completion_queue
unfolding number_at dword qword bits bytes_of_dwords completion everywhere addresses bytes_from stored gathered scattered in_memory and_then read_array read_sgl
    move_units judge opening register reg_write doorbell front took post ran_out admin_command admin differs start step run_of
returns-clause-a_longer_completion_queue c = refl

pub returns-clause-a_shorter_completion_queue : goal.returns-clause-a_shorter_completion_queue
unfolding number_at dword qword bits bytes_of_dwords completion everywhere addresses bytes_from stored gathered scattered in_memory and_then read_array read_sgl
    move_units judge opening register reg_write doorbell front took post ran_out admin_command admin differs start step run_of
returns-clause-a_shorter_completion_queue c = refl
