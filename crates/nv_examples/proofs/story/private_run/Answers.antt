use Rattle.nv_examples.proofs.StoryFacts.{the-steps, can-be-made, seen-logged, controller-private, controller-world, bytes-private, bytes-world, block-0, disk-2, block-1, disk-3, marks, disk_marks}
use Rattle.nv_examples.proofs.story.private_run.Goals as goal

pub returns-clause-the_steps : goal.returns-clause-the_steps
returns-clause-the_steps c = the-steps

pub returns-clause-they_can_be_made : goal.returns-clause-they_can_be_made
returns-clause-they_can_be_made c = can-be-made

pub returns-clause-the_guest_sees_what_was_logged : goal.returns-clause-the_guest_sees_what_was_logged
returns-clause-the_guest_sees_what_was_logged c = seen-logged

pub returns-clause-the_controller : goal.returns-clause-the_controller
returns-clause-the_controller c = controller-private

pub returns-clause-the_controller_in_the_world : goal.returns-clause-the_controller_in_the_world
returns-clause-the_controller_in_the_world c = controller-world

pub returns-clause-the_memory : goal.returns-clause-the_memory
returns-clause-the_memory c = bytes-private

pub returns-clause-the_memory_in_the_world : goal.returns-clause-the_memory_in_the_world
returns-clause-the_memory_in_the_world c = bytes-world

pub returns-clause-the_first_block : goal.returns-clause-the_first_block
returns-clause-the_first_block c = block-0

pub returns-clause-the_first_block_of_the_disk : goal.returns-clause-the_first_block_of_the_disk
returns-clause-the_first_block_of_the_disk c = disk-2

pub returns-clause-the_second_block : goal.returns-clause-the_second_block
returns-clause-the_second_block c = block-1

pub returns-clause-the_second_block_of_the_disk : goal.returns-clause-the_second_block_of_the_disk
returns-clause-the_second_block_of_the_disk c = disk-3

pub returns-clause-the_marks : goal.returns-clause-the_marks
returns-clause-the_marks c = marks

pub returns-clause-the_marks_of_the_disk : goal.returns-clause-the_marks_of_the_disk
returns-clause-the_marks_of_the_disk c = disk_marks
