use Rattle.std.proofs.Common.{refl}
use Rattle.nv_entry.specs.Layout.{number_at, dword, qword, bits, bytes_of_dwords}
use Rattle.nv_entry.specs.Completion.{completion}
use Rattle.nv_mem.specs.GuestMap.{everywhere}
use Rattle.nv_mem.specs.Places.{addresses}
use Rattle.nv_model.specs.Memory.{bytes_from, stored, gathered, scattered}
use Rattle.nv_model.specs.Dialogue.{in_memory, and_then}
use Rattle.nv_model.specs.Sgl.{read_array, read_sgl}
use Rattle.nv_model.specs.Judge.{move_units, judge}
use Rattle.nv_model.specs.Controller.{opening, register, reg_write, doorbell, front, took, post, ran_out}
use Rattle.nv_model.specs.Admin.{admin_command, admin}
use Rattle.nv_model.specs.Private.{start, differs, step, run_of}
use Rattle.nv_model.specs.Memory.{image, put_image}
use Rattle.nv_examples.proofs.words_of_commands.queues_and_features.Goals as goal

pub returns-clause-a_queue_beside_a_page : goal.returns-clause-a_queue_beside_a_page
unfolding number_at dword qword bits bytes_of_dwords completion everywhere addresses bytes_from stored gathered scattered in_memory and_then read_array read_sgl
    move_units judge opening register reg_write doorbell front took post ran_out admin_command admin start differs step run_of image put_image
returns-clause-a_queue_beside_a_page c = refl

pub returns-clause-a_queue_that_just_fits : goal.returns-clause-a_queue_that_just_fits
unfolding number_at dword qword bits bytes_of_dwords completion everywhere addresses bytes_from stored gathered scattered in_memory and_then read_array read_sgl
    move_units judge opening register reg_write doorbell front took post ran_out admin_command admin start differs step run_of image put_image
returns-clause-a_queue_that_just_fits c = refl

pub returns-clause-a_submission_queue_that_leaves_the_memory : goal.returns-clause-a_submission_queue_that_leaves_the_memory
unfolding number_at dword qword bits bytes_of_dwords completion everywhere addresses bytes_from stored gathered scattered in_memory and_then read_array read_sgl
    move_units judge opening register reg_write doorbell front took post ran_out admin_command admin start differs step run_of image put_image
returns-clause-a_submission_queue_that_leaves_the_memory c = refl

pub returns-clause-a_feature_behind_the_only_one : goal.returns-clause-a_feature_behind_the_only_one
unfolding number_at dword qword bits bytes_of_dwords completion everywhere addresses bytes_from stored gathered scattered in_memory and_then read_array read_sgl
    move_units judge opening register reg_write doorbell front took post ran_out admin_command admin start differs step run_of image put_image
returns-clause-a_feature_behind_the_only_one c = refl

pub returns-clause-a_feature_behind_it_is_not_set : goal.returns-clause-a_feature_behind_it_is_not_set
unfolding number_at dword qword bits bytes_of_dwords completion everywhere addresses bytes_from stored gathered scattered in_memory and_then read_array read_sgl
    move_units judge opening register reg_write doorbell front took post ran_out admin_command admin start differs step run_of image put_image
returns-clause-a_feature_behind_it_is_not_set c = refl

pub returns-clause-too_many_submission_queues_beside_completion_queues : goal.returns-clause-too_many_submission_queues_beside_completion_queues
unfolding number_at dword qword bits bytes_of_dwords completion everywhere addresses bytes_from stored gathered scattered in_memory and_then read_array read_sgl
    move_units judge opening register reg_write doorbell front took post ran_out admin_command admin start differs step run_of image put_image
returns-clause-too_many_submission_queues_beside_completion_queues c = refl

pub returns-clause-a_completion_queue_that_is_not_the_first : goal.returns-clause-a_completion_queue_that_is_not_the_first
unfolding number_at dword qword bits bytes_of_dwords completion everywhere addresses bytes_from stored gathered scattered in_memory and_then read_array read_sgl
    move_units judge opening register reg_write doorbell front took post ran_out admin_command admin start differs step run_of image put_image
returns-clause-a_completion_queue_that_is_not_the_first c = refl

pub returns-clause-a_completion_queue_below_one_in_use : goal.returns-clause-a_completion_queue_below_one_in_use
unfolding number_at dword qword bits bytes_of_dwords completion everywhere addresses bytes_from stored gathered scattered in_memory and_then read_array read_sgl
    move_units judge opening register reg_write doorbell front took post ran_out admin_command admin start differs step run_of image put_image
returns-clause-a_completion_queue_below_one_in_use c = refl
