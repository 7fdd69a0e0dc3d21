use Rattle.std.proofs.Common.{refl}
use Rattle.nv_examples_host.proofs.asking.allowed.Goals as goal

pub returns-clause-a_take_with_room : goal.returns-clause-a_take_with_room
returns-clause-a_take_with_room c = refl

pub returns-clause-a_take_without_room : goal.returns-clause-a_take_without_room
returns-clause-a_take_without_room c = refl

pub returns-clause-a_take_of_the_second_with_room : goal.returns-clause-a_take_of_the_second_with_room
returns-clause-a_take_of_the_second_with_room c = refl

pub returns-clause-a_take_of_the_second_without_room : goal.returns-clause-a_take_of_the_second_without_room
returns-clause-a_take_of_the_second_without_room c = refl

pub returns-clause-a_take_of_a_closed_lane : goal.returns-clause-a_take_of_a_closed_lane
returns-clause-a_take_of_a_closed_lane c = refl

pub returns-clause-a_post_without_room : goal.returns-clause-a_post_without_room
returns-clause-a_post_without_room c = refl

pub returns-clause-no_event_of_the_drive : goal.returns-clause-no_event_of_the_drive
returns-clause-no_event_of_the_drive c = refl
