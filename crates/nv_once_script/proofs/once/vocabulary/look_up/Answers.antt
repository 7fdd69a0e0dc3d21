use Rattle.std.proofs.Common.{◌∙◌, refl}
use Rattle.nv_once_script.specs.OnceVocabulary.{keyword_of, vocabulary}
use Rattle.nv_once_script.proofs.once.vocabulary.look_up.Goals as goal

pub returns : goal.returns
unfolding keyword_of vocabulary
returns c = c.keyword_in.ensures ∙ rw c.text.ensures refl
