use Rattle.std.proofs.Common.{refl}
use Rattle.nv_entry.specs.Layout.{number_at, dword, qword, bits, bytes_of_dwords}
use Rattle.nv_entry.specs.Completion.{completion}
use Rattle.nv_mem.specs.GuestMap.{everywhere}
use Rattle.nv_model.specs.Memory.{bytes_from, stored}
use Rattle.nv_model.specs.Dialogue.{in_memory, and_then}
use Rattle.nv_model.specs.Sgl.{read_array, read_sgl}
use Rattle.nv_model.specs.Judge.{move_units, judge}
use Rattle.nv_model.proofs.rows.sgl_refusals.examples.Goals as goal

pub returns-clause-a_segment_of_length_24 : goal.returns-clause-a_segment_of_length_24
unfolding number_at dword qword bits bytes_of_dwords completion everywhere bytes_from stored in_memory and_then read_array read_sgl move_units judge
returns-clause-a_segment_of_length_24 c = refl

pub returns-clause-a_segment_of_length_zero : goal.returns-clause-a_segment_of_length_zero
unfolding number_at dword qword bits bytes_of_dwords completion everywhere bytes_from stored in_memory and_then read_array read_sgl move_units judge
returns-clause-a_segment_of_length_zero c = refl

pub returns-clause-a_segment_that_is_not_last_in_its_array : goal.returns-clause-a_segment_that_is_not_last_in_its_array
unfolding number_at dword qword bits bytes_of_dwords completion everywhere bytes_from stored in_memory and_then read_array read_sgl move_units judge
returns-clause-a_segment_that_is_not_last_in_its_array c = refl

pub returns-clause-a_segment_in_an_array_of_a_last_segment : goal.returns-clause-a_segment_in_an_array_of_a_last_segment
unfolding number_at dword qword bits bytes_of_dwords completion everywhere bytes_from stored in_memory and_then read_array read_sgl move_units judge
returns-clause-a_segment_in_an_array_of_a_last_segment c = refl

pub returns-clause-a_last_segment_at_the_end_of_an_array_of_a_last_segment : goal.returns-clause-a_last_segment_at_the_end_of_an_array_of_a_last_segment
unfolding number_at dword qword bits bytes_of_dwords completion everywhere bytes_from stored in_memory and_then read_array read_sgl move_units judge
returns-clause-a_last_segment_at_the_end_of_an_array_of_a_last_segment c = refl

pub returns-clause-a_segment_of_length_24_that_is_not_last_in_its_array : goal.returns-clause-a_segment_of_length_24_that_is_not_last_in_its_array
unfolding number_at dword qword bits bytes_of_dwords completion everywhere bytes_from stored in_memory and_then read_array read_sgl move_units judge
returns-clause-a_segment_of_length_24_that_is_not_last_in_its_array c = refl

pub returns-clause-an_array_whose_address_is_not_a_multiple_of_eight : goal.returns-clause-an_array_whose_address_is_not_a_multiple_of_eight
unfolding number_at dword qword bits bytes_of_dwords completion everywhere bytes_from stored in_memory and_then read_array read_sgl move_units judge
returns-clause-an_array_whose_address_is_not_a_multiple_of_eight c = refl

pub returns-clause-an_array_of_a_wrong_type_at_a_multiple_of_eight : goal.returns-clause-an_array_of_a_wrong_type_at_a_multiple_of_eight
unfolding number_at dword qword bits bytes_of_dwords completion everywhere bytes_from stored in_memory and_then read_array read_sgl move_units judge
returns-clause-an_array_of_a_wrong_type_at_a_multiple_of_eight c = refl

pub returns-clause-an_array_that_leaves_the_memory : goal.returns-clause-an_array_that_leaves_the_memory
unfolding number_at dword qword bits bytes_of_dwords completion everywhere bytes_from stored in_memory and_then read_array read_sgl move_units judge
returns-clause-an_array_that_leaves_the_memory c = refl

pub returns-clause-an_array_of_length_24_that_is_not_mapped : goal.returns-clause-an_array_of_length_24_that_is_not_mapped
unfolding number_at dword qword bits bytes_of_dwords completion everywhere bytes_from stored in_memory and_then read_array read_sgl move_units judge
returns-clause-an_array_of_length_24_that_is_not_mapped c = refl

pub returns-clause-an_array_at_a_multiple_of_four_that_is_not_mapped : goal.returns-clause-an_array_at_a_multiple_of_four_that_is_not_mapped
unfolding number_at dword qword bits bytes_of_dwords completion everywhere bytes_from stored in_memory and_then read_array read_sgl move_units judge
returns-clause-an_array_at_a_multiple_of_four_that_is_not_mapped c = refl

pub returns-clause-a_descriptor_of_type_four : goal.returns-clause-a_descriptor_of_type_four
unfolding number_at dword qword bits bytes_of_dwords completion everywhere bytes_from stored in_memory and_then read_array read_sgl move_units judge
returns-clause-a_descriptor_of_type_four c = refl

pub returns-clause-a_data_block_of_subtype_one : goal.returns-clause-a_data_block_of_subtype_one
unfolding number_at dword qword bits bytes_of_dwords completion everywhere bytes_from stored in_memory and_then read_array read_sgl move_units judge
returns-clause-a_data_block_of_subtype_one c = refl

pub returns-clause-a_data_block_outside_the_memory : goal.returns-clause-a_data_block_outside_the_memory
unfolding number_at dword qword bits bytes_of_dwords completion everywhere bytes_from stored in_memory and_then read_array read_sgl move_units judge
returns-clause-a_data_block_outside_the_memory c = refl

pub returns-clause-a_data_block_that_leaves_the_memory : goal.returns-clause-a_data_block_that_leaves_the_memory
unfolding number_at dword qword bits bytes_of_dwords completion everywhere bytes_from stored in_memory and_then read_array read_sgl move_units judge
returns-clause-a_data_block_that_leaves_the_memory c = refl

pub returns-clause-a_data_block_outside_the_memory_before_a_type : goal.returns-clause-a_data_block_outside_the_memory_before_a_type
unfolding number_at dword qword bits bytes_of_dwords completion everywhere bytes_from stored in_memory and_then read_array read_sgl move_units judge
returns-clause-a_data_block_outside_the_memory_before_a_type c = refl

pub returns-clause-a_type_before_a_data_block_outside_the_memory : goal.returns-clause-a_type_before_a_data_block_outside_the_memory
unfolding number_at dword qword bits bytes_of_dwords completion everywhere bytes_from stored in_memory and_then read_array read_sgl move_units judge
returns-clause-a_type_before_a_data_block_outside_the_memory c = refl

pub returns-clause-a_list_of_too_few_bytes : goal.returns-clause-a_list_of_too_few_bytes
unfolding number_at dword qword bits bytes_of_dwords completion everywhere bytes_from stored in_memory and_then read_array read_sgl move_units judge
returns-clause-a_list_of_too_few_bytes c = refl

pub returns-clause-a_list_of_too_many_bytes : goal.returns-clause-a_list_of_too_many_bytes
unfolding number_at dword qword bits bytes_of_dwords completion everywhere bytes_from stored in_memory and_then read_array read_sgl move_units judge
returns-clause-a_list_of_too_many_bytes c = refl

pub returns-clause-a_faulty_list_of_too_few_bytes : goal.returns-clause-a_faulty_list_of_too_few_bytes
unfolding number_at dword qword bits bytes_of_dwords completion everywhere bytes_from stored in_memory and_then read_array read_sgl move_units judge
returns-clause-a_faulty_list_of_too_few_bytes c = refl
