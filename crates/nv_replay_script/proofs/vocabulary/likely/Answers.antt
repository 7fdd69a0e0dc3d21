use Rattle.std.proofs.Common.{refl}
use Rattle.nv_replay_script.specs.ReplayVocabulary.{keyword_of, vocabulary}
use Rattle.nv_replay_script.proofs.vocabulary.likely.Goals as goal

pub returns-in-97 : goal.returns-in-97
unfolding keyword_of vocabulary
returns-in-97 c = refl

pub returns-in-98 : goal.returns-in-98
unfolding keyword_of vocabulary
returns-in-98 c = refl

pub returns-in-100 : goal.returns-in-100
unfolding keyword_of vocabulary
returns-in-100 c = refl

pub returns-in-100-2 : goal.returns-in-100-2
unfolding keyword_of vocabulary
returns-in-100-2 c = refl

pub returns-in-100-3 : goal.returns-in-100-3
unfolding keyword_of vocabulary
returns-in-100-3 c = refl

pub returns-in-108 : goal.returns-in-108
unfolding keyword_of vocabulary
returns-in-108 c = refl

pub returns-in-108-2 : goal.returns-in-108-2
unfolding keyword_of vocabulary
returns-in-108-2 c = refl

pub returns-in-112 : goal.returns-in-112
unfolding keyword_of vocabulary
returns-in-112 c = refl

pub returns-in-114 : goal.returns-in-114
unfolding keyword_of vocabulary
returns-in-114 c = refl

pub returns-in-114-2 : goal.returns-in-114-2
unfolding keyword_of vocabulary
returns-in-114-2 c = refl

pub returns-in-114-3 : goal.returns-in-114-3
unfolding keyword_of vocabulary
returns-in-114-3 c = refl

pub returns-in-115 : goal.returns-in-115
unfolding keyword_of vocabulary
returns-in-115 c = refl

pub returns-in-116 : goal.returns-in-116
unfolding keyword_of vocabulary
returns-in-116 c = refl

pub returns-in_default : goal.returns-in_default
unfolding keyword_of vocabulary
returns-in_default c = refl
