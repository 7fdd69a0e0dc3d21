use Rattle.nv_examples.proofs.several_extents.StoryFacts.{moved-private, moved-world, moved-awaited}
use Rattle.nv_examples.proofs.extents.story.bytes_that_come_late.Goals as goal

pub returns-clause-they_have_moved : goal.returns-clause-they_have_moved
returns-clause-they_have_moved c = moved-private

pub returns-clause-they_have_not_come : goal.returns-clause-they_have_not_come
returns-clause-they_have_not_come c = moved-world

pub returns-clause-they_are_awaited : goal.returns-clause-they_are_awaited
returns-clause-they_are_awaited c = moved-awaited
