use Rattle.std.proofs.Common.{◌∙◌, refl}
use Rattle.nv_replay_script.specs.ReplayVocabulary.{keyword_of, vocabulary}
use Rattle.nv_replay_script.proofs.vocabulary.look_up_any.Goals as goal

pub returns : goal.returns
unfolding keyword_of vocabulary
returns c = c.keyword_in.ensures ∙ refl
