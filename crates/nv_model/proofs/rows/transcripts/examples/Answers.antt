use Rattle.std.proofs.Common.{refl}
use Rattle.nv_entry.specs.Layout.{number_at, dword, qword, bits}
use Rattle.nv_mem.specs.GuestMap.{everywhere}
use Rattle.nv_model.specs.Dialogue.{and_then}
use Rattle.nv_model.specs.Sgl.{read_array, read_sgl}
use Rattle.nv_model.specs.Prp.{read_entries}
use Rattle.nv_model.specs.Judge.{read_source, ranges_in, move_units, clear_units, range_units, judge}
use Rattle.nv_model.specs.Transcript.{first_read, in_transcript}
use Rattle.nv_model.proofs.rows.transcripts.examples.Goals as goal

pub returns-clause-with_no_reads_the_array_is_wanted : goal.returns-clause-with_no_reads_the_array_is_wanted
unfolding number_at dword qword bits everywhere and_then read_array read_sgl read_entries read_source ranges_in move_units clear_units range_units judge first_read in_transcript
returns-clause-with_no_reads_the_array_is_wanted c = refl

pub returns-clause-a_read_of_half_the_array_does_not_meet_it : goal.returns-clause-a_read_of_half_the_array_does_not_meet_it
unfolding number_at dword qword bits everywhere and_then read_array read_sgl read_entries read_source ranges_in move_units clear_units range_units judge first_read in_transcript
returns-clause-a_read_of_half_the_array_does_not_meet_it c = refl

pub returns-clause-the_read_that_is_wanted_settles_the_verdict : goal.returns-clause-the_read_that_is_wanted_settles_the_verdict
unfolding number_at dword qword bits everywhere and_then read_array read_sgl read_entries read_source ranges_in move_units clear_units range_units judge first_read in_transcript
returns-clause-the_read_that_is_wanted_settles_the_verdict c = refl

pub returns-clause-a_read_that_is_not_wanted_is_skipped : goal.returns-clause-a_read_that_is_not_wanted_is_skipped
unfolding number_at dword qword bits everywhere and_then read_array read_sgl read_entries read_source ranges_in move_units clear_units range_units judge first_read in_transcript
returns-clause-a_read_that_is_not_wanted_is_skipped c = refl

pub returns-clause-the_first_read_of_an_array_counts : goal.returns-clause-the_first_read_of_an_array_counts
unfolding number_at dword qword bits everywhere and_then read_array read_sgl read_entries read_source ranges_in move_units clear_units range_units judge first_read in_transcript
returns-clause-the_first_read_of_an_array_counts c = refl

pub returns-clause-a_half_read_first_is_skipped : goal.returns-clause-a_half_read_first_is_skipped
unfolding number_at dword qword bits everywhere and_then read_array read_sgl read_entries read_source ranges_in move_units clear_units range_units judge first_read in_transcript
returns-clause-a_half_read_first_is_skipped c = refl

pub returns-clause-of_300_descriptors_256_are_wanted_first : goal.returns-clause-of_300_descriptors_256_are_wanted_first
unfolding number_at dword qword bits everywhere and_then read_array read_sgl read_entries read_source ranges_in move_units clear_units range_units judge first_read in_transcript
returns-clause-of_300_descriptors_256_are_wanted_first c = refl

pub returns-clause-of_300_descriptors_44_are_wanted_then : goal.returns-clause-of_300_descriptors_44_are_wanted_then
unfolding number_at dword qword bits everywhere and_then read_array read_sgl read_entries read_source ranges_in move_units clear_units range_units judge first_read in_transcript
returns-clause-of_300_descriptors_44_are_wanted_then c = refl

pub returns-clause-both_parts_of_300_descriptors_settle_the_verdict : goal.returns-clause-both_parts_of_300_descriptors_settle_the_verdict
unfolding number_at dword qword bits everywhere and_then read_array read_sgl read_entries read_source ranges_in move_units clear_units range_units judge first_read in_transcript
returns-clause-both_parts_of_300_descriptors_settle_the_verdict c = refl

pub returns-clause-behind_a_fault_nothing_is_wanted : goal.returns-clause-behind_a_fault_nothing_is_wanted
unfolding number_at dword qword bits everywhere and_then read_array read_sgl read_entries read_source ranges_in move_units clear_units range_units judge first_read in_transcript
returns-clause-behind_a_fault_nothing_is_wanted c = refl

pub returns-clause-a_part_in_which_the_limit_falls_is_wanted_whole : goal.returns-clause-a_part_in_which_the_limit_falls_is_wanted_whole
unfolding number_at dword qword bits everywhere and_then read_array read_sgl read_entries read_source ranges_in move_units clear_units range_units judge first_read in_transcript
returns-clause-a_part_in_which_the_limit_falls_is_wanted_whole c = refl

pub returns-clause-a_part_behind_the_limit_is_not_wanted : goal.returns-clause-a_part_behind_the_limit_is_not_wanted
unfolding number_at dword qword bits everywhere and_then read_array read_sgl read_entries read_source ranges_in move_units clear_units range_units judge first_read in_transcript
returns-clause-a_part_behind_the_limit_is_not_wanted c = refl

pub returns-clause-the_needed_slots_of_a_list_are_wanted : goal.returns-clause-the_needed_slots_of_a_list_are_wanted
unfolding number_at dword qword bits everywhere and_then read_array read_sgl read_entries read_source ranges_in move_units clear_units range_units judge first_read in_transcript
returns-clause-the_needed_slots_of_a_list_are_wanted c = refl

pub returns-clause-the_slots_behind_the_needed_ones_are_not_wanted : goal.returns-clause-the_slots_behind_the_needed_ones_are_not_wanted
unfolding number_at dword qword bits everywhere and_then read_array read_sgl read_entries read_source ranges_in move_units clear_units range_units judge first_read in_transcript
returns-clause-the_slots_behind_the_needed_ones_are_not_wanted c = refl

pub returns-clause-the_slots_to_the_end_of_the_page_are_wanted : goal.returns-clause-the_slots_to_the_end_of_the_page_are_wanted
unfolding number_at dword qword bits everywhere and_then read_array read_sgl read_entries read_source ranges_in move_units clear_units range_units judge first_read in_transcript
returns-clause-the_slots_to_the_end_of_the_page_are_wanted c = refl

pub returns-clause-the_needed_slots_of_the_next_page_are_wanted : goal.returns-clause-the_needed_slots_of_the_next_page_are_wanted
unfolding number_at dword qword bits everywhere and_then read_array read_sgl read_entries read_source ranges_in move_units clear_units range_units judge first_read in_transcript
returns-clause-the_needed_slots_of_the_next_page_are_wanted c = refl

pub returns-clause-the_entries_and_the_pointer_of_a_page_are_one_want : goal.returns-clause-the_entries_and_the_pointer_of_a_page_are_one_want
unfolding number_at dword qword bits everywhere and_then read_array read_sgl read_entries read_source ranges_in move_units clear_units range_units judge first_read in_transcript
returns-clause-the_entries_and_the_pointer_of_a_page_are_one_want c = refl

pub returns-clause-the_next_page_is_wanted_behind_the_entries_and_the_pointer : goal.returns-clause-the_next_page_is_wanted_behind_the_entries_and_the_pointer
unfolding number_at dword qword bits everywhere and_then read_array read_sgl read_entries read_source ranges_in move_units clear_units range_units judge first_read in_transcript
returns-clause-the_next_page_is_wanted_behind_the_entries_and_the_pointer c = refl

pub returns-clause-the_ranges_are_wanted : goal.returns-clause-the_ranges_are_wanted
unfolding number_at dword qword bits everywhere and_then read_array read_sgl read_entries read_source ranges_in move_units clear_units range_units judge first_read in_transcript
returns-clause-the_ranges_are_wanted c = refl

pub returns-clause-the_ranges_settle_the_verdict : goal.returns-clause-the_ranges_settle_the_verdict
unfolding number_at dword qword bits everywhere and_then read_array read_sgl read_entries read_source ranges_in move_units clear_units range_units judge first_read in_transcript
returns-clause-the_ranges_settle_the_verdict c = refl
