use Rattle.nv_world_model.proofs.TagCounts.{tags_of_entry-some}
use Rattle.nv_world_model.proofs.laws.shares.a_command_takes_no_more_tags_than_extents.Goals as goal

pub returns-clause-at_least_one : goal.returns-clause-at_least_one
returns-clause-at_least_one c = λ ns entry some. (tags_of_entry-some ns entry some).0

pub returns-clause-no_more : goal.returns-clause-no_more
returns-clause-no_more c = λ ns entry some. (tags_of_entry-some ns entry some).1
