use Rattle.std.proofs.Common.{refl}
use Rattle.nv_entry.specs.Layout.{number_at, dword, qword, bits, bytes_of_dwords}
use Rattle.nv_entry.specs.Completion.{completion}
use Rattle.nv_mem.specs.GuestMap.{everywhere}
use Rattle.nv_model.specs.Memory.{bytes_from, stored}
use Rattle.nv_model.specs.Dialogue.{in_memory, and_then}
use Rattle.nv_model.specs.Sgl.{read_array, read_sgl}
use Rattle.nv_model.specs.Judge.{move_units, judge}
use Rattle.nv_model.proofs.rows.descriptor_limit.examples.Goals as goal

pub returns-clause-a_segment_that_names_itself_is_too_long : goal.returns-clause-a_segment_that_names_itself_is_too_long
unfolding number_at dword qword bits bytes_of_dwords completion everywhere bytes_from stored in_memory and_then read_array read_sgl move_units judge
returns-clause-a_segment_that_names_itself_is_too_long c = refl

pub returns-clause-too_long_is_answered_internal_error : goal.returns-clause-too_long_is_answered_internal_error
unfolding number_at dword qword bits bytes_of_dwords completion everywhere bytes_from stored in_memory and_then read_array read_sgl move_units judge
returns-clause-too_long_is_answered_internal_error c = refl

pub returns-clause-as_many_descriptors_as_the_limit_go : goal.returns-clause-as_many_descriptors_as_the_limit_go
unfolding number_at dword qword bits bytes_of_dwords completion everywhere bytes_from stored in_memory and_then read_array read_sgl move_units judge
returns-clause-as_many_descriptors_as_the_limit_go c = refl

pub returns-clause-one_descriptor_more_is_too_long : goal.returns-clause-one_descriptor_more_is_too_long
unfolding number_at dword qword bits bytes_of_dwords completion everywhere bytes_from stored in_memory and_then read_array read_sgl move_units judge
returns-clause-one_descriptor_more_is_too_long c = refl

pub returns-clause-a_faulty_descriptor_at_the_limit_decides : goal.returns-clause-a_faulty_descriptor_at_the_limit_decides
unfolding number_at dword qword bits bytes_of_dwords completion everywhere bytes_from stored in_memory and_then read_array read_sgl move_units judge
returns-clause-a_faulty_descriptor_at_the_limit_decides c = refl

pub returns-clause-a_faulty_descriptor_behind_the_limit_is_not_read : goal.returns-clause-a_faulty_descriptor_behind_the_limit_is_not_read
unfolding number_at dword qword bits bytes_of_dwords completion everywhere bytes_from stored in_memory and_then read_array read_sgl move_units judge
returns-clause-a_faulty_descriptor_behind_the_limit_is_not_read c = refl

pub returns-clause-a_limit_of_one_takes_one_data_block : goal.returns-clause-a_limit_of_one_takes_one_data_block
unfolding number_at dword qword bits bytes_of_dwords completion everywhere bytes_from stored in_memory and_then read_array read_sgl move_units judge
returns-clause-a_limit_of_one_takes_one_data_block c = refl

pub returns-clause-a_limit_of_one_takes_no_array : goal.returns-clause-a_limit_of_one_takes_no_array
unfolding number_at dword qword bits bytes_of_dwords completion everywhere bytes_from stored in_memory and_then read_array read_sgl move_units judge
returns-clause-a_limit_of_one_takes_no_array c = refl

pub returns-clause-a_limit_of_one_refuses_a_faulty_segment : goal.returns-clause-a_limit_of_one_refuses_a_faulty_segment
unfolding number_at dword qword bits bytes_of_dwords completion everywhere bytes_from stored in_memory and_then read_array read_sgl move_units judge
returns-clause-a_limit_of_one_refuses_a_faulty_segment c = refl

pub returns-clause-a_limit_of_three_reads_three : goal.returns-clause-a_limit_of_three_reads_three
unfolding number_at dword qword bits bytes_of_dwords completion everywhere bytes_from stored in_memory and_then read_array read_sgl move_units judge
returns-clause-a_limit_of_three_reads_three c = refl

pub returns-clause-a_limit_of_1025_takes_1025 : goal.returns-clause-a_limit_of_1025_takes_1025
unfolding number_at dword qword bits bytes_of_dwords completion everywhere bytes_from stored in_memory and_then read_array read_sgl move_units judge
returns-clause-a_limit_of_1025_takes_1025 c = refl

pub returns-clause-a_segment_that_names_itself_is_too_long_for_any_limit_tried : goal.returns-clause-a_segment_that_names_itself_is_too_long_for_any_limit_tried
unfolding number_at dword qword bits bytes_of_dwords completion everywhere bytes_from stored in_memory and_then read_array read_sgl move_units judge
returns-clause-a_segment_that_names_itself_is_too_long_for_any_limit_tried c = refl
