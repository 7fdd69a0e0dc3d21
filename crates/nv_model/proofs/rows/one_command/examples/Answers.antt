use Rattle.std.proofs.Common.{refl}
use Rattle.nv_entry.specs.Layout.{number_at, dword, qword, bits, bytes_of_dwords}
use Rattle.nv_entry.specs.Completion.{completion}
use Rattle.nv_mem.specs.GuestMap.{everywhere}
use Rattle.nv_model.specs.Memory.{bytes_from, stored}
use Rattle.nv_model.specs.Dialogue.{in_memory, and_then}
use Rattle.nv_model.specs.Sgl.{read_array, read_sgl}
use Rattle.nv_model.specs.Judge.{move_units, judge, clear_units}
use Rattle.nv_model.proofs.rows.one_command.examples.Goals as goal

pub returns-clause-the_first_example_reads_block_five : goal.returns-clause-the_first_example_reads_block_five
unfolding number_at dword qword bits bytes_of_dwords completion everywhere bytes_from stored in_memory and_then read_array read_sgl move_units judge
returns-clause-the_first_example_reads_block_five c = refl

pub returns-clause-one_data_block_is_one_run : goal.returns-clause-one_data_block_is_one_run
unfolding number_at dword qword bits bytes_of_dwords completion everywhere bytes_from stored in_memory and_then read_array read_sgl move_units judge
returns-clause-one_data_block_is_one_run c = refl

pub returns-clause-two_data_blocks_stand_in_order : goal.returns-clause-two_data_blocks_stand_in_order
unfolding number_at dword qword bits bytes_of_dwords completion everywhere bytes_from stored in_memory and_then read_array read_sgl move_units judge
returns-clause-two_data_blocks_stand_in_order c = refl

pub returns-clause-runs_that_meet_are_not_joined : goal.returns-clause-runs_that_meet_are_not_joined
unfolding number_at dword qword bits bytes_of_dwords completion everywhere bytes_from stored in_memory and_then read_array read_sgl move_units judge
returns-clause-runs_that_meet_are_not_joined c = refl

pub returns-clause-a_bit_bucket_of_a_read_discards : goal.returns-clause-a_bit_bucket_of_a_read_discards
unfolding number_at dword qword bits bytes_of_dwords completion everywhere bytes_from stored in_memory and_then read_array read_sgl move_units judge
returns-clause-a_bit_bucket_of_a_read_discards c = refl

pub returns-clause-a_bit_bucket_of_a_write_names_no_bytes : goal.returns-clause-a_bit_bucket_of_a_write_names_no_bytes
unfolding number_at dword qword bits bytes_of_dwords completion everywhere bytes_from stored in_memory and_then read_array read_sgl move_units judge
returns-clause-a_bit_bucket_of_a_write_names_no_bytes c = refl

pub returns-clause-a_bit_bucket_of_a_compare_names_no_bytes : goal.returns-clause-a_bit_bucket_of_a_compare_names_no_bytes
unfolding number_at dword qword bits bytes_of_dwords completion everywhere bytes_from stored in_memory and_then read_array read_sgl move_units judge
returns-clause-a_bit_bucket_of_a_compare_names_no_bytes c = refl

pub returns-clause-a_bit_bucket_beside_the_source_of_a_write_is_nothing : goal.returns-clause-a_bit_bucket_beside_the_source_of_a_write_is_nothing
unfolding number_at dword qword bits bytes_of_dwords completion everywhere bytes_from stored in_memory and_then read_array read_sgl move_units judge
returns-clause-a_bit_bucket_beside_the_source_of_a_write_is_nothing c = refl

pub returns-clause-write_zeroes_has_no_buffer : goal.returns-clause-write_zeroes_has_no_buffer
unfolding number_at dword qword bits bytes_of_dwords completion everywhere bytes_from stored in_memory and_then read_array read_sgl move_units clear_units judge
returns-clause-write_zeroes_has_no_buffer c = refl

pub returns-clause-a_flush_has_one_unit : goal.returns-clause-a_flush_has_one_unit
unfolding number_at dword qword bits bytes_of_dwords completion everywhere bytes_from stored in_memory and_then read_array read_sgl move_units judge
returns-clause-a_flush_has_one_unit c = refl
