use Rattle.std.proofs.Common.{refl}
use Rattle.hex.specs.Hex.{decode_pairs}
use Rattle.nv_once_script.specs.OnceNumber.{number_of, spelled, written}
use Rattle.nv_once_script.specs.OnceWords.{lines_of, without_last_feed, words_in, words_of}
use Rattle.nv_once_script.specs.OnceFold.{after_lines, after_words, script_by}
use Rattle.nv_run_script.specs.RunScript.{script_of}
use Rattle.nv_replay_script.specs.ReplayVocabulary.{keyword_of, vocabulary}
use Rattle.nv_run_script.proofs.rows.examples.Goals as goal

pub returns-clause-set_up_alone : goal.returns-clause-set_up_alone
unfolding script_of script_by lines_of without_last_feed words_of words_in after_lines after_words keyword_of vocabulary number_of written spelled decode_pairs
returns-clause-set_up_alone c = refl

pub returns-clause-nothing : goal.returns-clause-nothing
unfolding script_of script_by lines_of without_last_feed words_of words_in after_lines after_words keyword_of vocabulary number_of written spelled decode_pairs
returns-clause-nothing c = refl

pub returns-clause-a_size_missing : goal.returns-clause-a_size_missing
unfolding script_of script_by lines_of without_last_feed words_of words_in after_lines after_words keyword_of vocabulary number_of written spelled decode_pairs
returns-clause-a_size_missing c = refl

pub returns-clause-a_late_map : goal.returns-clause-a_late_map
unfolding script_of script_by lines_of without_last_feed words_of words_in after_lines after_words keyword_of vocabulary number_of written spelled decode_pairs
returns-clause-a_late_map c = refl

pub returns-clause-lines : goal.returns-clause-lines
unfolding script_of script_by lines_of without_last_feed words_of words_in after_lines after_words keyword_of vocabulary number_of written spelled decode_pairs
returns-clause-lines c = refl

pub returns-clause-no_such_guest : goal.returns-clause-no_such_guest
unfolding script_of script_by lines_of without_last_feed words_of words_in after_lines after_words keyword_of vocabulary number_of written spelled decode_pairs
returns-clause-no_such_guest c = refl

pub returns-clause-no_such_waiting_guest : goal.returns-clause-no_such_waiting_guest
unfolding script_of script_by lines_of without_last_feed words_of words_in after_lines after_words keyword_of vocabulary number_of written spelled decode_pairs
returns-clause-no_such_waiting_guest c = refl

pub returns-clause-a_large_guest : goal.returns-clause-a_large_guest
unfolding script_of script_by lines_of without_last_feed words_of words_in after_lines after_words keyword_of vocabulary number_of written spelled decode_pairs
returns-clause-a_large_guest c = refl

pub returns-clause-a_word_missing : goal.returns-clause-a_word_missing
unfolding script_of script_by lines_of without_last_feed words_of words_in after_lines after_words keyword_of vocabulary number_of written spelled decode_pairs
returns-clause-a_word_missing c = refl

pub returns-clause-a_word_too_many : goal.returns-clause-a_word_too_many
unfolding script_of script_by lines_of without_last_feed words_of words_in after_lines after_words keyword_of vocabulary number_of written spelled decode_pairs
returns-clause-a_word_too_many c = refl

pub returns-clause-a_large_value : goal.returns-clause-a_large_value
unfolding script_of script_by lines_of without_last_feed words_of words_in after_lines after_words keyword_of vocabulary number_of written spelled decode_pairs
returns-clause-a_large_value c = refl

pub returns-clause-a_large_offset : goal.returns-clause-a_large_offset
unfolding script_of script_by lines_of without_last_feed words_of words_in after_lines after_words keyword_of vocabulary number_of written spelled decode_pairs
returns-clause-a_large_offset c = refl

pub returns-clause-odd_digits : goal.returns-clause-odd_digits
unfolding script_of script_by lines_of without_last_feed words_of words_in after_lines after_words keyword_of vocabulary number_of written spelled decode_pairs
returns-clause-odd_digits c = refl

pub returns-clause-a_line_of_replay : goal.returns-clause-a_line_of_replay
unfolding script_of script_by lines_of without_last_feed words_of words_in after_lines after_words keyword_of vocabulary number_of written spelled decode_pairs
returns-clause-a_line_of_replay c = refl

pub returns-clause-a_line_of_once : goal.returns-clause-a_line_of_once
unfolding script_of script_by lines_of without_last_feed words_of words_in after_lines after_words keyword_of vocabulary number_of written spelled decode_pairs
returns-clause-a_line_of_once c = refl

pub returns-clause-an_unknown_word : goal.returns-clause-an_unknown_word
unfolding script_of script_by lines_of without_last_feed words_of words_in after_lines after_words keyword_of vocabulary number_of written spelled decode_pairs
returns-clause-an_unknown_word c = refl

pub returns-clause-an_extent : goal.returns-clause-an_extent
unfolding script_of script_by lines_of without_last_feed words_of words_in after_lines after_words keyword_of vocabulary number_of written spelled decode_pairs
returns-clause-an_extent c = refl

pub returns-clause-a_late_extent : goal.returns-clause-a_late_extent
unfolding script_of script_by lines_of without_last_feed words_of words_in after_lines after_words keyword_of vocabulary number_of written spelled decode_pairs
returns-clause-a_late_extent c = refl
