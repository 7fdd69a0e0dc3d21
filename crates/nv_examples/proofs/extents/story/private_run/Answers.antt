use Rattle.nv_examples.proofs.several_extents.StoryFacts.{the-steps, can-be-made, seen-logged, controller-private, controller-world, bytes-private, bytes-world, block-0, disk-2}
use Rattle.nv_examples.proofs.several_extents.StoryFacts.{block-1, disk-3, block-2, disk-9, block-3, disk-10, marks-private, marks-world}
use Rattle.nv_examples.proofs.extents.story.private_run.Goals as goal

pub returns-clause-the_steps : goal.returns-clause-the_steps
returns-clause-the_steps c = the-steps

pub returns-clause-they_can_be_made : goal.returns-clause-they_can_be_made
returns-clause-they_can_be_made c = can-be-made

pub returns-clause-the_guest_sees_what_was_logged : goal.returns-clause-the_guest_sees_what_was_logged
returns-clause-the_guest_sees_what_was_logged c = seen-logged

pub returns-clause-the_controller : goal.returns-clause-the_controller
returns-clause-the_controller c = controller-private

pub returns-clause-the_controller_in_the_world : goal.returns-clause-the_controller_in_the_world
returns-clause-the_controller_in_the_world c = controller-world

pub returns-clause-the_memory : goal.returns-clause-the_memory
returns-clause-the_memory c = bytes-private

pub returns-clause-the_memory_in_the_world : goal.returns-clause-the_memory_in_the_world
returns-clause-the_memory_in_the_world c = bytes-world

pub returns-clause-block_0 : goal.returns-clause-block_0
returns-clause-block_0 c = block-0

pub returns-clause-block_2_of_the_disk : goal.returns-clause-block_2_of_the_disk
returns-clause-block_2_of_the_disk c = disk-2

pub returns-clause-block_1 : goal.returns-clause-block_1
returns-clause-block_1 c = block-1

pub returns-clause-block_3_of_the_disk : goal.returns-clause-block_3_of_the_disk
returns-clause-block_3_of_the_disk c = disk-3

pub returns-clause-block_2 : goal.returns-clause-block_2
returns-clause-block_2 c = block-2

pub returns-clause-block_9_of_the_disk : goal.returns-clause-block_9_of_the_disk
returns-clause-block_9_of_the_disk c = disk-9

pub returns-clause-block_3 : goal.returns-clause-block_3
returns-clause-block_3 c = block-3

pub returns-clause-block_10_of_the_disk : goal.returns-clause-block_10_of_the_disk
returns-clause-block_10_of_the_disk c = disk-10

pub returns-clause-the_marks : goal.returns-clause-the_marks
returns-clause-the_marks c = marks-private

pub returns-clause-the_marks_of_the_disk : goal.returns-clause-the_marks_of_the_disk
returns-clause-the_marks_of_the_disk c = marks-world
