use Rattle.std.proofs.Common.{refl}
use Rattle.nv_entry.specs.Layout.{number_at}
use Rattle.nv_mem.specs.GuestMap.{everywhere}
use Rattle.nv_model.specs.Memory.{bytes_from, stored}
use Rattle.nv_model.specs.Dialogue.{in_memory}
use Rattle.nv_model.specs.Prp.{read_entries}
use Rattle.nv_model.specs.Rows.{pages_from}
use Rattle.nv_model.proofs.rows.prp_lists.examples.Goals as goal

pub returns-clause-one_page_by_prp1 : goal.returns-clause-one_page_by_prp1
unfolding number_at everywhere bytes_from stored in_memory read_entries pages_from
returns-clause-one_page_by_prp1 c = refl

pub returns-clause-the_rest_of_the_first_page_is_not_looked_at : goal.returns-clause-the_rest_of_the_first_page_is_not_looked_at
unfolding number_at everywhere bytes_from stored in_memory read_entries pages_from
returns-clause-the_rest_of_the_first_page_is_not_looked_at c = refl

pub returns-clause-prp1_at_a_multiple_of_four : goal.returns-clause-prp1_at_a_multiple_of_four
unfolding number_at everywhere bytes_from stored in_memory read_entries pages_from
returns-clause-prp1_at_a_multiple_of_four c = refl

pub returns-clause-two_pages_by_prp1_and_prp2 : goal.returns-clause-two_pages_by_prp1_and_prp2
unfolding number_at everywhere bytes_from stored in_memory read_entries pages_from
returns-clause-two_pages_by_prp1_and_prp2 c = refl

pub returns-clause-the_rest_of_the_last_page_is_not_looked_at : goal.returns-clause-the_rest_of_the_last_page_is_not_looked_at
unfolding number_at everywhere bytes_from stored in_memory read_entries pages_from
returns-clause-the_rest_of_the_last_page_is_not_looked_at c = refl

pub returns-clause-two_whole_pages : goal.returns-clause-two_whole_pages
unfolding number_at everywhere bytes_from stored in_memory read_entries pages_from
returns-clause-two_whole_pages c = refl

pub returns-clause-three_pages_by_a_list : goal.returns-clause-three_pages_by_a_list
unfolding number_at everywhere bytes_from stored in_memory read_entries pages_from
returns-clause-three_pages_by_a_list c = refl

pub returns-clause-three_pages_by_a_list_that_goes_on : goal.returns-clause-three_pages_by_a_list_that_goes_on
unfolding number_at everywhere bytes_from stored in_memory read_entries pages_from
returns-clause-three_pages_by_a_list_that_goes_on c = refl

pub returns-clause-four_pages_by_a_list_that_goes_on : goal.returns-clause-four_pages_by_a_list_that_goes_on
unfolding number_at everywhere bytes_from stored in_memory read_entries pages_from
returns-clause-four_pages_by_a_list_that_goes_on c = refl

pub returns-clause-thirty_three_pages_from_an_offset_of_four : goal.returns-clause-thirty_three_pages_from_an_offset_of_four
unfolding number_at everywhere bytes_from stored in_memory read_entries pages_from
returns-clause-thirty_three_pages_from_an_offset_of_four c = refl
