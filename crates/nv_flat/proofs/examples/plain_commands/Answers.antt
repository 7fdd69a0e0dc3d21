use Rattle.std.proofs.Common.{refl}
use Rattle.nv_entry.specs.Layout.{bits, dword, number_at}
use Rattle.nv_flat.proofs.examples.plain_commands.Goals as goal

pub returns-clause-the_first_example : goal.returns-clause-the_first_example
unfolding number_at dword bits
returns-clause-the_first_example c = refl

pub returns-clause-a_write : goal.returns-clause-a_write
unfolding number_at dword bits
returns-clause-a_write c = refl

pub returns-clause-eight_blocks : goal.returns-clause-eight_blocks
unfolding number_at dword bits
returns-clause-eight_blocks c = refl

pub returns-clause-eight_blocks_kept : goal.returns-clause-eight_blocks_kept
unfolding number_at dword bits
returns-clause-eight_blocks_kept c = refl

pub returns-clause-a_read_that_keeps : goal.returns-clause-a_read_that_keeps
unfolding number_at dword bits
returns-clause-a_read_that_keeps c = refl

pub returns-clause-nine_blocks : goal.returns-clause-nine_blocks
unfolding number_at dword bits
returns-clause-nine_blocks c = refl

pub returns-clause-nine_blocks_kept : goal.returns-clause-nine_blocks_kept
unfolding number_at dword bits
returns-clause-nine_blocks_kept c = refl

pub returns-clause-most_blocks : goal.returns-clause-most_blocks
unfolding number_at dword bits
returns-clause-most_blocks c = refl

pub returns-clause-a_compare : goal.returns-clause-a_compare
unfolding number_at dword bits
returns-clause-a_compare c = refl

pub returns-clause-a_write_zeroes : goal.returns-clause-a_write_zeroes
unfolding number_at dword bits
returns-clause-a_write_zeroes c = refl

pub returns-clause-a_flush : goal.returns-clause-a_flush
unfolding number_at dword bits
returns-clause-a_flush c = refl

pub returns-clause-a_dataset_management : goal.returns-clause-a_dataset_management
unfolding number_at dword bits
returns-clause-a_dataset_management c = refl

pub returns-clause-an_unknown_opcode : goal.returns-clause-an_unknown_opcode
unfolding number_at dword bits
returns-clause-an_unknown_opcode c = refl

pub returns-clause-by_region_pages : goal.returns-clause-by_region_pages
unfolding number_at dword bits
returns-clause-by_region_pages c = refl

pub returns-clause-by_two_region_pages : goal.returns-clause-by_two_region_pages
unfolding number_at dword bits
returns-clause-by_two_region_pages c = refl

pub returns-clause-a_segment : goal.returns-clause-a_segment
unfolding number_at dword bits
returns-clause-a_segment c = refl

pub returns-clause-a_last_segment : goal.returns-clause-a_last_segment
unfolding number_at dword bits
returns-clause-a_last_segment c = refl

pub returns-clause-a_bit_bucket : goal.returns-clause-a_bit_bucket
unfolding number_at dword bits
returns-clause-a_bit_bucket c = refl

pub returns-clause-a_reserved_type : goal.returns-clause-a_reserved_type
unfolding number_at dword bits
returns-clause-a_reserved_type c = refl

pub returns-clause-no_bytes : goal.returns-clause-no_bytes
unfolding number_at dword bits
returns-clause-no_bytes c = refl

pub returns-clause-bytes_that_are_too_many : goal.returns-clause-bytes_that_are_too_many
unfolding number_at dword bits
returns-clause-bytes_that_are_too_many c = refl

pub returns-clause-bytes_beyond_every_memory : goal.returns-clause-bytes_beyond_every_memory
unfolding number_at dword bits
returns-clause-bytes_beyond_every_memory c = refl

pub returns-clause-a_subtype : goal.returns-clause-a_subtype
unfolding number_at dword bits
returns-clause-a_subtype c = refl

pub returns-clause-metadata_by_list : goal.returns-clause-metadata_by_list
unfolding number_at dword bits
returns-clause-metadata_by_list c = refl

pub returns-clause-a_reserved_data_pointer : goal.returns-clause-a_reserved_data_pointer
unfolding number_at dword bits
returns-clause-a_reserved_data_pointer c = refl

pub returns-clause-another_namespace : goal.returns-clause-another_namespace
unfolding number_at dword bits
returns-clause-another_namespace c = refl

pub returns-clause-a_fused_command : goal.returns-clause-a_fused_command
unfolding number_at dword bits
returns-clause-a_fused_command c = refl

pub returns-clause-another_identifier : goal.returns-clause-another_identifier
unfolding number_at dword bits
returns-clause-another_identifier c = refl
