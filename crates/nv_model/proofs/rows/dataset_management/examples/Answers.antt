use Rattle.std.proofs.Common.{refl}
use Rattle.nv_entry.specs.Layout.{number_at, dword, qword, bits, bytes_of_dwords}
use Rattle.nv_entry.specs.Completion.{completion}
use Rattle.nv_mem.specs.GuestMap.{everywhere}
use Rattle.nv_model.specs.Memory.{bytes_from, stored}
use Rattle.nv_model.specs.Dialogue.{in_memory, and_then}
use Rattle.nv_model.specs.Sgl.{read_array, read_sgl}
use Rattle.nv_model.specs.Judge.{read_source, ranges_in, move_units, clear_units, range_units, judge}
use Rattle.nv_model.proofs.rows.dataset_management.examples.Goals as goal

pub returns-clause-the_last_of_256_ranges_is_out_of_range : goal.returns-clause-the_last_of_256_ranges_is_out_of_range
unfolding number_at dword qword bits bytes_of_dwords completion everywhere bytes_from stored in_memory and_then read_array read_sgl read_source ranges_in move_units clear_units range_units judge
returns-clause-the_last_of_256_ranges_is_out_of_range c = refl

pub returns-clause-all_of_256_ranges_are_in_range : goal.returns-clause-all_of_256_ranges_are_in_range
unfolding number_at dword qword bits bytes_of_dwords completion everywhere bytes_from stored in_memory and_then read_array read_sgl read_source ranges_in move_units clear_units range_units judge
returns-clause-all_of_256_ranges_are_in_range c = refl

pub returns-clause-a_range_of_blocks_that_would_wrap : goal.returns-clause-a_range_of_blocks_that_would_wrap
unfolding number_at dword qword bits bytes_of_dwords completion everywhere bytes_from stored in_memory and_then read_array read_sgl read_source ranges_in move_units clear_units range_units judge
returns-clause-a_range_of_blocks_that_would_wrap c = refl

pub returns-clause-no_blocks_at_the_end : goal.returns-clause-no_blocks_at_the_end
unfolding number_at dword qword bits bytes_of_dwords completion everywhere bytes_from stored in_memory and_then read_array read_sgl read_source ranges_in move_units clear_units range_units judge
returns-clause-no_blocks_at_the_end c = refl

pub returns-clause-no_blocks_behind_the_end : goal.returns-clause-no_blocks_behind_the_end
unfolding number_at dword qword bits bytes_of_dwords completion everywhere bytes_from stored in_memory and_then read_array read_sgl read_source ranges_in move_units clear_units range_units judge
returns-clause-no_blocks_behind_the_end c = refl

pub returns-clause-a_unit_for_each_block_of_each_range : goal.returns-clause-a_unit_for_each_block_of_each_range
unfolding number_at dword qword bits bytes_of_dwords completion everywhere bytes_from stored in_memory and_then read_array read_sgl read_source ranges_in move_units clear_units range_units judge
returns-clause-a_unit_for_each_block_of_each_range c = refl

pub returns-clause-deallocate_clear_leaves_each_block : goal.returns-clause-deallocate_clear_leaves_each_block
unfolding number_at dword qword bits bytes_of_dwords completion everywhere bytes_from stored in_memory and_then read_array read_sgl read_source ranges_in move_units clear_units range_units judge
returns-clause-deallocate_clear_leaves_each_block c = refl

pub returns-clause-a_range_in_two_data_blocks : goal.returns-clause-a_range_in_two_data_blocks
unfolding number_at dword qword bits bytes_of_dwords completion everywhere bytes_from stored in_memory and_then read_array read_sgl read_source ranges_in move_units clear_units range_units judge
returns-clause-a_range_in_two_data_blocks c = refl

pub returns-clause-a_list_of_one_range_for_two : goal.returns-clause-a_list_of_one_range_for_two
unfolding number_at dword qword bits bytes_of_dwords completion everywhere bytes_from stored in_memory and_then read_array read_sgl read_source ranges_in move_units clear_units range_units judge
returns-clause-a_list_of_one_range_for_two c = refl
