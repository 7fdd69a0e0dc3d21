use Rattle.std.proofs.Common.{refl}
use Rattle.nv_entry.specs.Layout.{number_at, dword, qword, bits, bytes_of_dwords}
use Rattle.nv_entry.specs.Completion.{completion}
use Rattle.nv_mem.specs.GuestMap.{everywhere}
use Rattle.nv_mem.specs.Places.{addresses}
use Rattle.nv_model.specs.Memory.{bytes_from, stored, scattered}
use Rattle.nv_model.specs.Dialogue.{in_memory}
use Rattle.nv_model.specs.Prp.{read_entries}
use Rattle.nv_model.specs.Controller.{opening, register, reg_write, doorbell, front, took, post, ran_out}
use Rattle.nv_model.specs.Admin.{structure, admin_command, admin}
use Rattle.nv_model.specs.Private.{start, step, run_of}
use Rattle.nv_model.proofs.rows.identify.the_controllers_type_and_event_limit.Goals as goal

pub returns : goal.returns
unfolding number_at dword qword bits bytes_of_dwords completion everywhere addresses bytes_from stored scattered in_memory read_entries opening register
    reg_write doorbell front took post ran_out structure admin_command admin start step run_of
returns c = refl
