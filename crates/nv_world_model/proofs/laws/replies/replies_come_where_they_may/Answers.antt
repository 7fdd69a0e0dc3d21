use Rattle.nv_world_model.proofs.Replies.{step-answers}
use Rattle.nv_world_model.proofs.laws.replies.replies_come_where_they_may.Goals as goal

pub returns-clause-may : goal.returns-clause-may
returns-clause-may c = λ geometry e w. (step-answers geometry e w).may

pub returns-clause-dull : goal.returns-clause-dull
returns-clause-dull c = λ geometry e w. (step-answers geometry e w).dull
