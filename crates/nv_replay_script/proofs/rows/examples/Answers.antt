use Rattle.std.proofs.Common.{refl}
use Rattle.hex.specs.Hex.{decode_pairs}
use Rattle.nv_once_script.specs.OnceNumber.{number_of, spelled, written}
use Rattle.nv_once_script.specs.OnceWords.{lines_of, without_last_feed, words_in, words_of}
use Rattle.nv_once_script.specs.OnceFold.{after_lines, after_words, script_by}
use Rattle.nv_replay_script.specs.ReplayScript.{script_of}
use Rattle.nv_replay_script.specs.ReplayVocabulary.{keyword_of, vocabulary}
use Rattle.nv_replay_script.proofs.rows.examples.Goals as goal

pub returns-clause-set_up_alone : goal.returns-clause-set_up_alone
unfolding script_of script_by lines_of without_last_feed words_of words_in after_lines after_words keyword_of vocabulary number_of written spelled decode_pairs
returns-clause-set_up_alone c = refl

pub returns-clause-no_guest : goal.returns-clause-no_guest
unfolding script_of script_by lines_of without_last_feed words_of words_in after_lines after_words keyword_of vocabulary number_of written spelled decode_pairs
returns-clause-no_guest c = refl

pub returns-clause-nothing : goal.returns-clause-nothing
unfolding script_of script_by lines_of without_last_feed words_of words_in after_lines after_words keyword_of vocabulary number_of written spelled decode_pairs
returns-clause-nothing c = refl

pub returns-clause-a_size_missing : goal.returns-clause-a_size_missing
unfolding script_of script_by lines_of without_last_feed words_of words_in after_lines after_words keyword_of vocabulary number_of written spelled decode_pairs
returns-clause-a_size_missing c = refl

pub returns-clause-an_end_without_sizes : goal.returns-clause-an_end_without_sizes
unfolding script_of script_by lines_of without_last_feed words_of words_in after_lines after_words keyword_of vocabulary number_of written spelled decode_pairs
returns-clause-an_end_without_sizes c = refl

pub returns-clause-a_second_size : goal.returns-clause-a_second_size
unfolding script_of script_by lines_of without_last_feed words_of words_in after_lines after_words keyword_of vocabulary number_of written spelled decode_pairs
returns-clause-a_second_size c = refl

pub returns-clause-a_late_map : goal.returns-clause-a_late_map
unfolding script_of script_by lines_of without_last_feed words_of words_in after_lines after_words keyword_of vocabulary number_of written spelled decode_pairs
returns-clause-a_late_map c = refl

pub returns-clause-a_guest_too_far : goal.returns-clause-a_guest_too_far
unfolding script_of script_by lines_of without_last_feed words_of words_in after_lines after_words keyword_of vocabulary number_of written spelled decode_pairs
returns-clause-a_guest_too_far c = refl

pub returns-clause-a_map_too_early : goal.returns-clause-a_map_too_early
unfolding script_of script_by lines_of without_last_feed words_of words_in after_lines after_words keyword_of vocabulary number_of written spelled decode_pairs
returns-clause-a_map_too_early c = refl

pub returns-clause-no_heap : goal.returns-clause-no_heap
unfolding script_of script_by lines_of without_last_feed words_of words_in after_lines after_words keyword_of vocabulary number_of written spelled decode_pairs
returns-clause-no_heap c = refl

pub returns-clause-a_small_heap : goal.returns-clause-a_small_heap
unfolding script_of script_by lines_of without_last_feed words_of words_in after_lines after_words keyword_of vocabulary number_of written spelled decode_pairs
returns-clause-a_small_heap c = refl

pub returns-clause-odd_digits : goal.returns-clause-odd_digits
unfolding script_of script_by lines_of without_last_feed words_of words_in after_lines after_words keyword_of vocabulary number_of written spelled decode_pairs
returns-clause-odd_digits c = refl

pub returns-clause-store_without_a_guest : goal.returns-clause-store_without_a_guest
unfolding script_of script_by lines_of without_last_feed words_of words_in after_lines after_words keyword_of vocabulary number_of written spelled decode_pairs
returns-clause-store_without_a_guest c = refl

pub returns-clause-a_foreign_line : goal.returns-clause-a_foreign_line
unfolding script_of script_by lines_of without_last_feed words_of words_in after_lines after_words keyword_of vocabulary number_of written spelled decode_pairs
returns-clause-a_foreign_line c = refl

pub returns-clause-stores : goal.returns-clause-stores
unfolding script_of script_by lines_of without_last_feed words_of words_in after_lines after_words keyword_of vocabulary number_of written spelled decode_pairs
returns-clause-stores c = refl

pub returns-clause-a_doorbell : goal.returns-clause-a_doorbell
unfolding script_of script_by lines_of without_last_feed words_of words_in after_lines after_words keyword_of vocabulary number_of written spelled decode_pairs
returns-clause-a_doorbell c = refl

pub returns-clause-a_large_value : goal.returns-clause-a_large_value
unfolding script_of script_by lines_of without_last_feed words_of words_in after_lines after_words keyword_of vocabulary number_of written spelled decode_pairs
returns-clause-a_large_value c = refl

pub returns-clause-a_take : goal.returns-clause-a_take
unfolding script_of script_by lines_of without_last_feed words_of words_in after_lines after_words keyword_of vocabulary number_of written spelled decode_pairs
returns-clause-a_take c = refl

pub returns-clause-a_failure : goal.returns-clause-a_failure
unfolding script_of script_by lines_of without_last_feed words_of words_in after_lines after_words keyword_of vocabulary number_of written spelled decode_pairs
returns-clause-a_failure c = refl

pub returns-clause-a_large_status : goal.returns-clause-a_large_status
unfolding script_of script_by lines_of without_last_feed words_of words_in after_lines after_words keyword_of vocabulary number_of written spelled decode_pairs
returns-clause-a_large_status c = refl

pub returns-clause-a_limit : goal.returns-clause-a_limit
unfolding script_of script_by lines_of without_last_feed words_of words_in after_lines after_words keyword_of vocabulary number_of written spelled decode_pairs
returns-clause-a_limit c = refl

pub returns-clause-a_second_limit : goal.returns-clause-a_second_limit
unfolding script_of script_by lines_of without_last_feed words_of words_in after_lines after_words keyword_of vocabulary number_of written spelled decode_pairs
returns-clause-a_second_limit c = refl

pub returns-clause-a_limit_too_early : goal.returns-clause-a_limit_too_early
unfolding script_of script_by lines_of without_last_feed words_of words_in after_lines after_words keyword_of vocabulary number_of written spelled decode_pairs
returns-clause-a_limit_too_early c = refl

pub returns-clause-a_late_limit : goal.returns-clause-a_late_limit
unfolding script_of script_by lines_of without_last_feed words_of words_in after_lines after_words keyword_of vocabulary number_of written spelled decode_pairs
returns-clause-a_late_limit c = refl

pub returns-clause-a_limit_of_letters : goal.returns-clause-a_limit_of_letters
unfolding script_of script_by lines_of without_last_feed words_of words_in after_lines after_words keyword_of vocabulary number_of written spelled decode_pairs
returns-clause-a_limit_of_letters c = refl

pub returns-clause-extents : goal.returns-clause-extents
unfolding script_of script_by lines_of without_last_feed words_of words_in after_lines after_words keyword_of vocabulary number_of written spelled decode_pairs
returns-clause-extents c = refl

pub returns-clause-an_extent_too_early : goal.returns-clause-an_extent_too_early
unfolding script_of script_by lines_of without_last_feed words_of words_in after_lines after_words keyword_of vocabulary number_of written spelled decode_pairs
returns-clause-an_extent_too_early c = refl

pub returns-clause-a_late_extent : goal.returns-clause-a_late_extent
unfolding script_of script_by lines_of without_last_feed words_of words_in after_lines after_words keyword_of vocabulary number_of written spelled decode_pairs
returns-clause-a_late_extent c = refl

pub returns-clause-an_extent_of_letters : goal.returns-clause-an_extent_of_letters
unfolding script_of script_by lines_of without_last_feed words_of words_in after_lines after_words keyword_of vocabulary number_of written spelled decode_pairs
returns-clause-an_extent_of_letters c = refl

pub returns-clause-an_extent_cut_short : goal.returns-clause-an_extent_cut_short
unfolding script_of script_by lines_of without_last_feed words_of words_in after_lines after_words keyword_of vocabulary number_of written spelled decode_pairs
returns-clause-an_extent_cut_short c = refl
