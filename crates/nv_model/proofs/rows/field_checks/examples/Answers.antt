use Rattle.std.proofs.Common.{refl}
use Rattle.nv_entry.specs.Layout.{number_at, dword, qword, bits, bytes_of_dwords}
use Rattle.nv_entry.specs.Completion.{completion}
use Rattle.nv_mem.specs.GuestMap.{everywhere}
use Rattle.nv_model.specs.Memory.{bytes_from, stored}
use Rattle.nv_model.specs.Dialogue.{in_memory, and_then}
use Rattle.nv_model.specs.Sgl.{read_array, read_sgl}
use Rattle.nv_model.specs.Judge.{move_units, judge, clear_units}
use Rattle.nv_model.proofs.rows.field_checks.examples.Goals as goal

pub returns-clause-the_first_example_goes : goal.returns-clause-the_first_example_goes
unfolding number_at dword qword bits bytes_of_dwords completion everywhere bytes_from stored in_memory and_then read_array read_sgl move_units judge
returns-clause-the_first_example_goes c = refl

pub returns-clause-psdt_three : goal.returns-clause-psdt_three
unfolding number_at dword qword bits bytes_of_dwords completion everywhere bytes_from stored in_memory and_then read_array read_sgl move_units judge
returns-clause-psdt_three c = refl

pub returns-clause-psdt_two_is_as_one : goal.returns-clause-psdt_two_is_as_one
unfolding number_at dword qword bits bytes_of_dwords completion everywhere bytes_from stored in_memory and_then read_array read_sgl move_units judge
returns-clause-psdt_two_is_as_one c = refl

pub returns-clause-more_blocks_than_a_transfer_may_have : goal.returns-clause-more_blocks_than_a_transfer_may_have
unfolding number_at dword qword bits bytes_of_dwords completion everywhere bytes_from stored in_memory and_then read_array read_sgl move_units judge
returns-clause-more_blocks_than_a_transfer_may_have c = refl

pub returns-clause-as_many_blocks_as_a_transfer_may_have : goal.returns-clause-as_many_blocks_as_a_transfer_may_have
unfolding number_at dword qword bits bytes_of_dwords completion everywhere bytes_from stored in_memory and_then read_array read_sgl move_units judge
returns-clause-as_many_blocks_as_a_transfer_may_have c = refl

pub returns-clause-another_namespace : goal.returns-clause-another_namespace
unfolding number_at dword qword bits bytes_of_dwords completion everywhere bytes_from stored in_memory and_then read_array read_sgl move_units judge
returns-clause-another_namespace c = refl

pub returns-clause-an_unknown_opcode : goal.returns-clause-an_unknown_opcode
unfolding number_at dword qword bits bytes_of_dwords completion everywhere bytes_from stored in_memory and_then read_array read_sgl move_units judge
returns-clause-an_unknown_opcode c = refl

pub returns-clause-an_unknown_opcode_that_is_fused : goal.returns-clause-an_unknown_opcode_that_is_fused
unfolding number_at dword qword bits bytes_of_dwords completion everywhere bytes_from stored in_memory and_then read_array read_sgl move_units judge
returns-clause-an_unknown_opcode_that_is_fused c = refl

pub returns-clause-an_unknown_opcode_in_another_namespace : goal.returns-clause-an_unknown_opcode_in_another_namespace
unfolding number_at dword qword bits bytes_of_dwords completion everywhere bytes_from stored in_memory and_then read_array read_sgl move_units judge
returns-clause-an_unknown_opcode_in_another_namespace c = refl

pub returns-clause-psdt_three_in_another_namespace : goal.returns-clause-psdt_three_in_another_namespace
unfolding number_at dword qword bits bytes_of_dwords completion everywhere bytes_from stored in_memory and_then read_array read_sgl move_units judge
returns-clause-psdt_three_in_another_namespace c = refl

pub returns-clause-psdt_three_out_of_range : goal.returns-clause-psdt_three_out_of_range
unfolding number_at dword qword bits bytes_of_dwords completion everywhere bytes_from stored in_memory and_then read_array read_sgl move_units judge
returns-clause-psdt_three_out_of_range c = refl

pub returns-clause-a_data_block_outside_the_memory_out_of_range : goal.returns-clause-a_data_block_outside_the_memory_out_of_range
unfolding number_at dword qword bits bytes_of_dwords completion everywhere bytes_from stored in_memory and_then read_array read_sgl move_units judge
returns-clause-a_data_block_outside_the_memory_out_of_range c = refl

pub returns-clause-the_last_block : goal.returns-clause-the_last_block
unfolding number_at dword qword bits bytes_of_dwords completion everywhere bytes_from stored in_memory and_then read_array read_sgl move_units judge
returns-clause-the_last_block c = refl

pub returns-clause-the_last_block_and_one_more : goal.returns-clause-the_last_block_and_one_more
unfolding number_at dword qword bits bytes_of_dwords completion everywhere bytes_from stored in_memory and_then read_array read_sgl move_units judge
returns-clause-the_last_block_and_one_more c = refl

pub returns-clause-a_range_whose_end_would_wrap : goal.returns-clause-a_range_whose_end_would_wrap
unfolding number_at dword qword bits bytes_of_dwords completion everywhere bytes_from stored in_memory and_then read_array read_sgl move_units judge
returns-clause-a_range_whose_end_would_wrap c = refl

pub returns-clause-a_range_beyond_32_bits : goal.returns-clause-a_range_beyond_32_bits
unfolding number_at dword qword bits bytes_of_dwords completion everywhere bytes_from stored in_memory and_then read_array read_sgl move_units judge
returns-clause-a_range_beyond_32_bits c = refl

pub returns-clause-write_zeroes_with_psdt_three : goal.returns-clause-write_zeroes_with_psdt_three
unfolding number_at dword qword bits bytes_of_dwords completion everywhere bytes_from stored in_memory and_then read_array read_sgl move_units clear_units judge
returns-clause-write_zeroes_with_psdt_three c = refl

pub returns-clause-write_zeroes_of_more_blocks_than_a_transfer_may_have : goal.returns-clause-write_zeroes_of_more_blocks_than_a_transfer_may_have
unfolding number_at dword qword bits bytes_of_dwords completion everywhere bytes_from stored in_memory and_then read_array read_sgl move_units judge
returns-clause-write_zeroes_of_more_blocks_than_a_transfer_may_have c = refl

pub returns-clause-write_zeroes_of_300_blocks : goal.returns-clause-write_zeroes_of_300_blocks
unfolding number_at dword qword bits bytes_of_dwords completion everywhere bytes_from stored in_memory and_then read_array read_sgl move_units judge
returns-clause-write_zeroes_of_300_blocks c = refl

pub returns-clause-a_flush_with_psdt_three : goal.returns-clause-a_flush_with_psdt_three
unfolding number_at dword qword bits bytes_of_dwords completion everywhere bytes_from stored in_memory and_then read_array read_sgl move_units judge
returns-clause-a_flush_with_psdt_three c = refl

pub returns-clause-a_flush_of_all_namespaces : goal.returns-clause-a_flush_of_all_namespaces
unfolding number_at dword qword bits bytes_of_dwords completion everywhere bytes_from stored in_memory and_then read_array read_sgl move_units judge
returns-clause-a_flush_of_all_namespaces c = refl

pub returns-clause-a_compare_out_of_range : goal.returns-clause-a_compare_out_of_range
unfolding number_at dword qword bits bytes_of_dwords completion everywhere bytes_from stored in_memory and_then read_array read_sgl move_units judge
returns-clause-a_compare_out_of_range c = refl

pub returns-clause-dataset_management_with_psdt_three : goal.returns-clause-dataset_management_with_psdt_three
unfolding number_at dword qword bits bytes_of_dwords completion everywhere bytes_from stored in_memory and_then read_array read_sgl move_units judge
returns-clause-dataset_management_with_psdt_three c = refl

pub returns-clause-the_identifier_has_no_bearing : goal.returns-clause-the_identifier_has_no_bearing
unfolding number_at dword qword bits bytes_of_dwords completion everywhere bytes_from stored in_memory and_then read_array read_sgl move_units judge
returns-clause-the_identifier_has_no_bearing c = refl

pub returns-clause-a_second_fused_command : goal.returns-clause-a_second_fused_command
unfolding number_at dword qword bits bytes_of_dwords completion everywhere bytes_from stored in_memory and_then read_array read_sgl move_units judge
returns-clause-a_second_fused_command c = refl

pub returns-clause-a_command_fused_otherwise : goal.returns-clause-a_command_fused_otherwise
unfolding number_at dword qword bits bytes_of_dwords completion everywhere bytes_from stored in_memory and_then read_array read_sgl move_units judge
returns-clause-a_command_fused_otherwise c = refl
