use Rattle.std.proofs.Common.{refl}
use Rattle.nv_examples.proofs.several_extents.StoryFacts.{replies-told, none-failed, disciplined, neighbours-failed, neighbour-is_not}
use Rattle.nv_examples.proofs.extents.story.premises.Goals as goal

pub returns-clause-the_log_is_a_replay : goal.returns-clause-the_log_is_a_replay
returns-clause-the_log_is_a_replay c = record { end = refl; told = replies-told }

pub returns-clause-no_command_of_its_own_failed : goal.returns-clause-no_command_of_its_own_failed
returns-clause-no_command_of_its_own_failed c = none-failed

pub returns-clause-the_guest_is_disciplined : goal.returns-clause-the_guest_is_disciplined
returns-clause-the_guest_is_disciplined c = disciplined

pub returns-clause-its_neighbours_failed : goal.returns-clause-its_neighbours_failed
returns-clause-its_neighbours_failed c = neighbours-failed

pub returns-clause-its_neighbour_is_not_disciplined : goal.returns-clause-its_neighbour_is_not_disciplined
returns-clause-its_neighbour_is_not_disciplined c = neighbour-is_not
