use Rattle.std.proofs.Common.{refl}
use Rattle.nv_entry.specs.Layout.{number_at, dword, qword, bits, bytes_of_dwords}
use Rattle.nv_mem.specs.GuestMap.{everywhere}
use Rattle.nv_mem.specs.Places.{addresses}
use Rattle.nv_model.specs.Memory.{gathered}
use Rattle.nv_model.specs.Dialogue.{in_memory, and_then}
use Rattle.nv_model.specs.Transcript.{first_read, in_transcript}
use Rattle.nv_model.specs.Sgl.{read_array, read_sgl}
use Rattle.nv_model.specs.Prp.{read_entries}
use Rattle.nv_model.specs.Judge.{read_source, ranges_in, move_units, clear_units, range_units, judge}
use Rattle.nv_prp.specs.Fits.{hosts_of, fit_behind}
use Rattle.nv_prp.specs.Built.{built}
use Rattle.nv_world_model.specs.Plan.{plan_over}
use Rattle.nv_world_model.proofs.rows.shares.examples.Goals as goal

pub returns-clause-a_read_over_the_join : goal.returns-clause-a_read_over_the_join
unfolding number_at dword qword bits bytes_of_dwords everywhere addresses gathered in_memory and_then first_read in_transcript read_array read_sgl read_entries
    read_source ranges_in move_units clear_units range_units judge hosts_of fit_behind built plan_over
returns-clause-a_read_over_the_join c = refl

pub returns-clause-its_units_one_by_one : goal.returns-clause-its_units_one_by_one
unfolding number_at dword qword bits bytes_of_dwords everywhere addresses gathered in_memory and_then first_read in_transcript read_array read_sgl read_entries
    read_source ranges_in move_units clear_units range_units judge hosts_of fit_behind built plan_over
returns-clause-its_units_one_by_one c = refl

pub returns-clause-a_bounced_read_over_the_join : goal.returns-clause-a_bounced_read_over_the_join
unfolding number_at dword qword bits bytes_of_dwords everywhere addresses gathered in_memory and_then first_read in_transcript read_array read_sgl read_entries
    read_source ranges_in move_units clear_units range_units judge hosts_of fit_behind built plan_over
returns-clause-a_bounced_read_over_the_join c = refl

pub returns-clause-a_read_up_to_the_join : goal.returns-clause-a_read_up_to_the_join
unfolding number_at dword qword bits bytes_of_dwords everywhere addresses gathered in_memory and_then first_read in_transcript read_array read_sgl read_entries
    read_source ranges_in move_units clear_units range_units judge hosts_of fit_behind built plan_over
returns-clause-a_read_up_to_the_join c = refl

pub returns-clause-a_read_of_the_last_block : goal.returns-clause-a_read_of_the_last_block
unfolding number_at dword qword bits bytes_of_dwords everywhere addresses gathered in_memory and_then first_read in_transcript read_array read_sgl read_entries
    read_source ranges_in move_units clear_units range_units judge hosts_of fit_behind built plan_over
returns-clause-a_read_of_the_last_block c = refl

pub returns-clause-past_the_last_block : goal.returns-clause-past_the_last_block
unfolding number_at dword qword bits bytes_of_dwords everywhere addresses gathered in_memory and_then first_read in_transcript read_array read_sgl read_entries
    read_source ranges_in move_units clear_units range_units judge hosts_of fit_behind built plan_over
returns-clause-past_the_last_block c = refl

pub returns-clause-a_write_zeroes_over_three : goal.returns-clause-a_write_zeroes_over_three
unfolding number_at dword qword bits bytes_of_dwords everywhere addresses gathered in_memory and_then first_read in_transcript read_array read_sgl read_entries
    read_source ranges_in move_units clear_units range_units judge hosts_of fit_behind built plan_over
returns-clause-a_write_zeroes_over_three c = refl

pub returns-clause-a_flush_is_one : goal.returns-clause-a_flush_is_one
unfolding number_at dword qword bits bytes_of_dwords everywhere addresses gathered in_memory and_then first_read in_transcript read_array read_sgl read_entries
    read_source ranges_in move_units clear_units range_units judge hosts_of fit_behind built plan_over
returns-clause-a_flush_is_one c = refl

pub returns-clause-ranges_over_the_join : goal.returns-clause-ranges_over_the_join
unfolding number_at dword qword bits bytes_of_dwords everywhere addresses gathered in_memory and_then first_read in_transcript read_array read_sgl read_entries
    read_source ranges_in move_units clear_units range_units judge hosts_of fit_behind built plan_over
returns-clause-ranges_over_the_join c = refl

pub returns-clause-as_the_disk_has_them : goal.returns-clause-as_the_disk_has_them
unfolding number_at dword qword bits bytes_of_dwords everywhere addresses gathered in_memory and_then first_read in_transcript read_array read_sgl read_entries
    read_source ranges_in move_units clear_units range_units judge hosts_of fit_behind built plan_over
returns-clause-as_the_disk_has_them c = refl

pub returns-clause-and_their_units : goal.returns-clause-and_their_units
unfolding number_at dword qword bits bytes_of_dwords everywhere addresses gathered in_memory and_then first_read in_transcript read_array read_sgl read_entries
    read_source ranges_in move_units clear_units range_units judge hosts_of fit_behind built plan_over
returns-clause-and_their_units c = refl

pub returns-clause-a_range_of_no_blocks : goal.returns-clause-a_range_of_no_blocks
unfolding number_at dword qword bits bytes_of_dwords everywhere addresses gathered in_memory and_then first_read in_transcript read_array read_sgl read_entries
    read_source ranges_in move_units clear_units range_units judge hosts_of fit_behind built plan_over
returns-clause-a_range_of_no_blocks c = refl

pub returns-clause-has_no_units : goal.returns-clause-has_no_units
unfolding number_at dword qword bits bytes_of_dwords everywhere addresses gathered in_memory and_then first_read in_transcript read_array read_sgl read_entries
    read_source ranges_in move_units clear_units range_units judge hosts_of fit_behind built plan_over
returns-clause-has_no_units c = refl

pub returns-clause-a_range_over_three : goal.returns-clause-a_range_over_three
unfolding number_at dword qword bits bytes_of_dwords everywhere addresses gathered in_memory and_then first_read in_transcript read_array read_sgl read_entries
    read_source ranges_in move_units clear_units range_units judge hosts_of fit_behind built plan_over
returns-clause-a_range_over_three c = refl

pub returns-clause-goes_on_in_the_next : goal.returns-clause-goes_on_in_the_next
unfolding number_at dword qword bits bytes_of_dwords everywhere addresses gathered in_memory and_then first_read in_transcript read_array read_sgl read_entries
    read_source ranges_in move_units clear_units range_units judge hosts_of fit_behind built plan_over
returns-clause-goes_on_in_the_next c = refl

pub returns-clause-a_share_without_ranges : goal.returns-clause-a_share_without_ranges
unfolding number_at dword qword bits bytes_of_dwords everywhere addresses gathered in_memory and_then first_read in_transcript read_array read_sgl read_entries
    read_source ranges_in move_units clear_units range_units judge hosts_of fit_behind built plan_over
returns-clause-a_share_without_ranges c = refl

pub returns-clause-tags_over_the_join : goal.returns-clause-tags_over_the_join
unfolding number_at dword qword bits bytes_of_dwords everywhere addresses gathered in_memory and_then first_read in_transcript read_array read_sgl read_entries
    read_source ranges_in move_units clear_units range_units judge hosts_of fit_behind built plan_over
returns-clause-tags_over_the_join c = refl

pub returns-clause-tags_up_to_the_join : goal.returns-clause-tags_up_to_the_join
unfolding number_at dword qword bits bytes_of_dwords everywhere addresses gathered in_memory and_then first_read in_transcript read_array read_sgl read_entries
    read_source ranges_in move_units clear_units range_units judge hosts_of fit_behind built plan_over
returns-clause-tags_up_to_the_join c = refl

pub returns-clause-tags_over_three : goal.returns-clause-tags_over_three
unfolding number_at dword qword bits bytes_of_dwords everywhere addresses gathered in_memory and_then first_read in_transcript read_array read_sgl read_entries
    read_source ranges_in move_units clear_units range_units judge hosts_of fit_behind built plan_over
returns-clause-tags_over_three c = refl

pub returns-clause-tags_of_ranges : goal.returns-clause-tags_of_ranges
unfolding number_at dword qword bits bytes_of_dwords everywhere addresses gathered in_memory and_then first_read in_transcript read_array read_sgl read_entries
    read_source ranges_in move_units clear_units range_units judge hosts_of fit_behind built plan_over
returns-clause-tags_of_ranges c = refl

pub returns-clause-tags_of_a_flush : goal.returns-clause-tags_of_a_flush
unfolding number_at dword qword bits bytes_of_dwords everywhere addresses gathered in_memory and_then first_read in_transcript read_array read_sgl read_entries
    read_source ranges_in move_units clear_units range_units judge hosts_of fit_behind built plan_over
returns-clause-tags_of_a_flush c = refl

pub returns-clause-tags_past_the_last_block : goal.returns-clause-tags_past_the_last_block
unfolding number_at dword qword bits bytes_of_dwords everywhere addresses gathered in_memory and_then first_read in_transcript read_array read_sgl read_entries
    read_source ranges_in move_units clear_units range_units judge hosts_of fit_behind built plan_over
returns-clause-tags_past_the_last_block c = refl

pub returns-clause-tags_in_another_namespace : goal.returns-clause-tags_in_another_namespace
unfolding number_at dword qword bits bytes_of_dwords everywhere addresses gathered in_memory and_then first_read in_transcript read_array read_sgl read_entries
    read_source ranges_in move_units clear_units range_units judge hosts_of fit_behind built plan_over
returns-clause-tags_in_another_namespace c = refl

pub returns-clause-tags_of_an_unknown_opcode : goal.returns-clause-tags_of_an_unknown_opcode
unfolding number_at dword qword bits bytes_of_dwords everywhere addresses gathered in_memory and_then first_read in_transcript read_array read_sgl read_entries
    read_source ranges_in move_units clear_units range_units judge hosts_of fit_behind built plan_over
returns-clause-tags_of_an_unknown_opcode c = refl
