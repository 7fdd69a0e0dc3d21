use Rattle.std.proofs.Common.{refl}
use Rattle.nv_entry.specs.Layout.{number_at, dword, qword, bits, bytes_of_dwords}
use Rattle.nv_entry.specs.Completion.{completion}
use Rattle.nv_mem.specs.GuestMap.{everywhere}
use Rattle.nv_model.specs.Memory.{bytes_from, stored}
use Rattle.nv_model.specs.Dialogue.{in_memory, and_then}
use Rattle.nv_model.specs.Prp.{read_entries}
use Rattle.nv_model.specs.Judge.{judge}
use Rattle.nv_model.specs.Rows.{pages_from}
use Rattle.nv_model.proofs.rows.prp_refusals.examples.Goals as goal

pub returns-clause-prp1_at_a_multiple_of_two : goal.returns-clause-prp1_at_a_multiple_of_two
unfolding number_at dword qword bits bytes_of_dwords completion everywhere bytes_from stored in_memory and_then read_entries judge pages_from
returns-clause-prp1_at_a_multiple_of_two c = refl

pub returns-clause-prp1_at_a_multiple_of_two_that_is_not_mapped : goal.returns-clause-prp1_at_a_multiple_of_two_that_is_not_mapped
unfolding number_at dword qword bits bytes_of_dwords completion everywhere bytes_from stored in_memory and_then read_entries judge pages_from
returns-clause-prp1_at_a_multiple_of_two_that_is_not_mapped c = refl

pub returns-clause-prp1_that_is_not_mapped : goal.returns-clause-prp1_that_is_not_mapped
unfolding number_at dword qword bits bytes_of_dwords completion everywhere bytes_from stored in_memory and_then read_entries judge pages_from
returns-clause-prp1_that_is_not_mapped c = refl

pub returns-clause-a_page_entry_with_an_offset : goal.returns-clause-a_page_entry_with_an_offset
unfolding number_at dword qword bits bytes_of_dwords completion everywhere bytes_from stored in_memory and_then read_entries judge pages_from
returns-clause-a_page_entry_with_an_offset c = refl

pub returns-clause-a_page_entry_that_is_not_mapped : goal.returns-clause-a_page_entry_that_is_not_mapped
unfolding number_at dword qword bits bytes_of_dwords completion everywhere bytes_from stored in_memory and_then read_entries judge pages_from
returns-clause-a_page_entry_that_is_not_mapped c = refl

pub returns-clause-prp1_that_is_not_mapped_before_a_page_entry_with_an_offset : goal.returns-clause-prp1_that_is_not_mapped_before_a_page_entry_with_an_offset
unfolding number_at dword qword bits bytes_of_dwords completion everywhere bytes_from stored in_memory and_then read_entries judge pages_from
returns-clause-prp1_that_is_not_mapped_before_a_page_entry_with_an_offset c = refl

pub returns-clause-a_list_pointer_at_a_multiple_of_four : goal.returns-clause-a_list_pointer_at_a_multiple_of_four
unfolding number_at dword qword bits bytes_of_dwords completion everywhere bytes_from stored in_memory and_then read_entries judge pages_from
returns-clause-a_list_pointer_at_a_multiple_of_four c = refl

pub returns-clause-a_list_that_is_not_mapped : goal.returns-clause-a_list_that_is_not_mapped
unfolding number_at dword qword bits bytes_of_dwords completion everywhere bytes_from stored in_memory and_then read_entries judge pages_from
returns-clause-a_list_that_is_not_mapped c = refl

pub returns-clause-a_later_list_pointer_with_an_offset : goal.returns-clause-a_later_list_pointer_with_an_offset
unfolding number_at dword qword bits bytes_of_dwords completion everywhere bytes_from stored in_memory and_then read_entries judge pages_from
returns-clause-a_later_list_pointer_with_an_offset c = refl

pub returns-clause-a_later_list_page_that_is_not_mapped : goal.returns-clause-a_later_list_page_that_is_not_mapped
unfolding number_at dword qword bits bytes_of_dwords completion everywhere bytes_from stored in_memory and_then read_entries judge pages_from
returns-clause-a_later_list_page_that_is_not_mapped c = refl

pub returns-clause-a_list_of_an_unmapped_page_and_an_offset : goal.returns-clause-a_list_of_an_unmapped_page_and_an_offset
unfolding number_at dword qword bits bytes_of_dwords completion everywhere bytes_from stored in_memory and_then read_entries judge pages_from
returns-clause-a_list_of_an_unmapped_page_and_an_offset c = refl

pub returns-clause-a_list_of_an_offset_and_an_unmapped_page : goal.returns-clause-a_list_of_an_offset_and_an_unmapped_page
unfolding number_at dword qword bits bytes_of_dwords completion everywhere bytes_from stored in_memory and_then read_entries judge pages_from
returns-clause-a_list_of_an_offset_and_an_unmapped_page c = refl

pub returns-clause-the_largest_transfer_by_prp_goes : goal.returns-clause-the_largest_transfer_by_prp_goes
unfolding number_at dword qword bits bytes_of_dwords completion everywhere bytes_from stored in_memory and_then read_entries judge pages_from
returns-clause-the_largest_transfer_by_prp_goes c = refl
