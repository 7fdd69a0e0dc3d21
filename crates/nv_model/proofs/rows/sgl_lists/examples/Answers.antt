use Rattle.std.proofs.Common.{refl}
use Rattle.nv_entry.specs.Layout.{number_at, dword, qword, bits}
use Rattle.nv_mem.specs.GuestMap.{everywhere}
use Rattle.nv_model.specs.Memory.{bytes_from, stored}
use Rattle.nv_model.specs.Dialogue.{in_memory}
use Rattle.nv_model.specs.Sgl.{read_array, read_sgl}
use Rattle.nv_model.proofs.rows.sgl_lists.examples.Goals as goal

pub returns-clause-an_array_of_a_segment_that_ends_in_a_data_block_ends_the_list : goal.returns-clause-an_array_of_a_segment_that_ends_in_a_data_block_ends_the_list
unfolding number_at dword qword bits everywhere bytes_from stored in_memory read_array read_sgl
returns-clause-an_array_of_a_segment_that_ends_in_a_data_block_ends_the_list c = refl

pub returns-clause-a_segment_goes_on_with_the_array_that_it_names : goal.returns-clause-a_segment_goes_on_with_the_array_that_it_names
unfolding number_at dword qword bits everywhere bytes_from stored in_memory read_array read_sgl
returns-clause-a_segment_goes_on_with_the_array_that_it_names c = refl

pub returns-clause-a_data_block_of_length_zero_is_not_looked_at : goal.returns-clause-a_data_block_of_length_zero_is_not_looked_at
unfolding number_at dword qword bits everywhere bytes_from stored in_memory read_array read_sgl
returns-clause-a_data_block_of_length_zero_is_not_looked_at c = refl

pub returns-clause-a_data_block_at_the_end_of_the_memory_is_mapped : goal.returns-clause-a_data_block_at_the_end_of_the_memory_is_mapped
unfolding number_at dword qword bits everywhere bytes_from stored in_memory read_array read_sgl
returns-clause-a_data_block_at_the_end_of_the_memory_is_mapped c = refl

pub returns-clause-a_bit_bucket_of_a_source_is_nothing : goal.returns-clause-a_bit_bucket_of_a_source_is_nothing
unfolding number_at dword qword bits everywhere bytes_from stored in_memory read_array read_sgl
returns-clause-a_bit_bucket_of_a_source_is_nothing c = refl

pub returns-clause-a_bit_bucket_of_a_destination_has_its_length : goal.returns-clause-a_bit_bucket_of_a_destination_has_its_length
unfolding number_at dword qword bits everywhere bytes_from stored in_memory read_array read_sgl
returns-clause-a_bit_bucket_of_a_destination_has_its_length c = refl

pub returns-clause-a_bit_bucket_of_length_zero_is_nothing : goal.returns-clause-a_bit_bucket_of_length_zero_is_nothing
unfolding number_at dword qword bits everywhere bytes_from stored in_memory read_array read_sgl
returns-clause-a_bit_bucket_of_length_zero_is_nothing c = refl
