use Rattle.std.proofs.Common.{refl}
use Rattle.nv_entry.specs.Layout.{number_at, dword, qword, bits, bytes_of_dwords}
use Rattle.nv_entry.specs.Completion.{completion}
use Rattle.nv_mem.specs.GuestMap.{everywhere}
use Rattle.nv_mem.specs.Places.{addresses}
use Rattle.nv_model.specs.Memory.{bytes_from, stored, gathered, scattered}
use Rattle.nv_model.specs.Dialogue.{in_memory, and_then}
use Rattle.nv_model.specs.Sgl.{read_array, read_sgl}
use Rattle.nv_model.specs.Judge.{move_units, judge}
use Rattle.nv_model.specs.Controller.{opening, register, reg_write, doorbell, front, took, post, ran_out}
use Rattle.nv_model.specs.Admin.{admin_command, admin}
use Rattle.nv_model.specs.Private.{start, differs, step, run_of}
use Rattle.nv_model.specs.Memory.{image, put_image}
use Rattle.nv_examples.proofs.words_of_commands.admins.Goals as goal

pub returns-clause-an_identifier_of_nine_bits : goal.returns-clause-an_identifier_of_nine_bits
unfolding number_at dword qword bits bytes_of_dwords completion everywhere addresses bytes_from stored gathered scattered in_memory and_then read_array read_sgl
    move_units judge opening register reg_write doorbell front took post ran_out admin_command admin start differs step run_of image put_image
returns-clause-an_identifier_of_nine_bits c = refl

pub returns-clause-a_size_of_thirteen_bits : goal.returns-clause-a_size_of_thirteen_bits
unfolding number_at dword qword bits bytes_of_dwords completion everywhere addresses bytes_from stored gathered scattered in_memory and_then read_array read_sgl
    move_units judge opening register reg_write doorbell front took post ran_out admin_command admin start differs step run_of image put_image
returns-clause-a_size_of_thirteen_bits c = refl

pub returns-clause-a_completion_queue_of_nine_bits : goal.returns-clause-a_completion_queue_of_nine_bits
unfolding number_at dword qword bits bytes_of_dwords completion everywhere addresses bytes_from stored gathered scattered in_memory and_then read_array read_sgl
    move_units judge opening register reg_write doorbell front took post ran_out admin_command admin start differs step run_of image put_image
returns-clause-a_completion_queue_of_nine_bits c = refl

pub returns-clause-a_feature_beside_select : goal.returns-clause-a_feature_beside_select
unfolding number_at dword qword bits bytes_of_dwords completion everywhere addresses bytes_from stored gathered scattered in_memory and_then read_array read_sgl
    move_units judge opening register reg_write doorbell front took post ran_out admin_command admin start differs step run_of image put_image
returns-clause-a_feature_beside_select c = refl

pub returns-clause-a_refusal_has_no_result : goal.returns-clause-a_refusal_has_no_result
unfolding number_at dword qword bits bytes_of_dwords completion everywhere addresses bytes_from stored gathered scattered in_memory and_then read_array read_sgl
    move_units judge opening register reg_write doorbell front took post ran_out admin_command admin start differs step run_of image put_image
returns-clause-a_refusal_has_no_result c = refl

pub returns-clause-an_identify_has_no_result : goal.returns-clause-an_identify_has_no_result
unfolding number_at dword qword bits bytes_of_dwords completion everywhere addresses bytes_from stored gathered scattered in_memory and_then read_array read_sgl
    move_units judge opening register reg_write doorbell front took post ran_out admin_command admin start differs step run_of image put_image
returns-clause-an_identify_has_no_result c = refl

pub returns-clause-a_queue_in_pieces_that_interrupts : goal.returns-clause-a_queue_in_pieces_that_interrupts
unfolding number_at dword qword bits bytes_of_dwords completion everywhere addresses bytes_from stored gathered scattered in_memory and_then read_array read_sgl
    move_units judge opening register reg_write doorbell front took post ran_out admin_command admin start differs step run_of image put_image
returns-clause-a_queue_in_pieces_that_interrupts c = refl

pub returns-clause-a_queue_that_leaves_the_memory_by_a_slot : goal.returns-clause-a_queue_that_leaves_the_memory_by_a_slot
unfolding number_at dword qword bits bytes_of_dwords completion everywhere addresses bytes_from stored gathered scattered in_memory and_then read_array read_sgl
    move_units judge opening register reg_write doorbell front took post ran_out admin_command admin start differs step run_of image put_image
returns-clause-a_queue_that_leaves_the_memory_by_a_slot c = refl

pub returns-clause-the_controllers_structure_whatever_the_namespace : goal.returns-clause-the_controllers_structure_whatever_the_namespace
unfolding number_at dword qword bits bytes_of_dwords completion everywhere addresses bytes_from stored gathered scattered in_memory and_then read_array read_sgl
    move_units judge opening register reg_write doorbell front took post ran_out admin_command admin start differs step run_of image put_image
returns-clause-the_controllers_structure_whatever_the_namespace c = refl

pub returns-clause-a_queue_is_there_once : goal.returns-clause-a_queue_is_there_once
unfolding number_at dword qword bits bytes_of_dwords completion everywhere addresses bytes_from stored gathered scattered in_memory and_then read_array read_sgl
    move_units judge opening register reg_write doorbell front took post ran_out admin_command admin start differs step run_of image put_image
returns-clause-a_queue_is_there_once c = refl
