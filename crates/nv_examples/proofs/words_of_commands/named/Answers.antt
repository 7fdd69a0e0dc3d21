use Rattle.std.proofs.Common.{refl}
use Rattle.nv_entry.specs.Layout.{number_at, dword, qword, bits, bytes_of_dwords}
use Rattle.nv_entry.specs.Completion.{completion}
use Rattle.nv_mem.specs.GuestMap.{everywhere}
use Rattle.nv_mem.specs.Places.{addresses}
use Rattle.nv_model.specs.Memory.{bytes_from, stored, gathered, scattered}
use Rattle.nv_model.specs.Dialogue.{in_memory, and_then}
use Rattle.nv_model.specs.Sgl.{read_array, read_sgl}
use Rattle.nv_model.specs.Judge.{move_units, judge}
use Rattle.nv_model.specs.Controller.{opening, register, reg_write, doorbell, front, took, post, ran_out}
use Rattle.nv_model.specs.Admin.{admin_command, admin}
use Rattle.nv_model.specs.Private.{start, differs, step, run_of}
use Rattle.nv_model.specs.Memory.{image, put_image}
use Rattle.nv_examples.proofs.words_of_commands.named.Goals as goal

pub returns-clause-a_limit_of_one : goal.returns-clause-a_limit_of_one
unfolding number_at dword qword bits bytes_of_dwords completion everywhere addresses bytes_from stored gathered scattered in_memory and_then read_array read_sgl
    move_units judge opening register reg_write doorbell front took post ran_out admin_command admin start differs step run_of image put_image
returns-clause-a_limit_of_one c = refl

pub returns-clause-the_last_byte : goal.returns-clause-the_last_byte
unfolding number_at dword qword bits bytes_of_dwords completion everywhere addresses bytes_from stored gathered scattered in_memory and_then read_array read_sgl
    move_units judge opening register reg_write doorbell front took post ran_out admin_command admin start differs step run_of image put_image
returns-clause-the_last_byte c = refl

pub returns-clause-a_list_is_no_destination : goal.returns-clause-a_list_is_no_destination
unfolding number_at dword qword bits bytes_of_dwords completion everywhere addresses bytes_from stored gathered scattered in_memory and_then read_array read_sgl
    move_units judge opening register reg_write doorbell front took post ran_out admin_command admin start differs step run_of image put_image
returns-clause-a_list_is_no_destination c = refl
