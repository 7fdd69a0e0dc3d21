use Rattle.std.proofs.Common.{refl}
use Rattle.nv_examples_host.proofs.asking.owners.Goals as goal

pub returns-clause-of_an_admin_command : goal.returns-clause-of_an_admin_command
returns-clause-of_an_admin_command c = refl

pub returns-clause-of_a_take : goal.returns-clause-of_a_take
returns-clause-of_a_take c = refl

pub returns-clause-of_a_list : goal.returns-clause-of_a_list
returns-clause-of_a_list c = refl

pub returns-clause-of_a_submit : goal.returns-clause-of_a_submit
returns-clause-of_a_submit c = refl

pub returns-clause-of_one_given_up : goal.returns-clause-of_one_given_up
returns-clause-of_one_given_up c = refl

pub returns-clause-of_a_free_tag : goal.returns-clause-of_a_free_tag
returns-clause-of_a_free_tag c = refl

pub returns-clause-of_a_list_of_a_free_tag : goal.returns-clause-of_a_list_of_a_free_tag
returns-clause-of_a_list_of_a_free_tag c = refl

pub returns-clause-of_another_lane : goal.returns-clause-of_another_lane
returns-clause-of_another_lane c = refl

pub returns-clause-of_a_list_of_another_lane : goal.returns-clause-of_a_list_of_another_lane
returns-clause-of_a_list_of_another_lane c = refl

pub returns-clause-of_one_given_up_of_another_lane : goal.returns-clause-of_one_given_up_of_another_lane
returns-clause-of_one_given_up_of_another_lane c = refl

pub returns-clause-no_guests_is_a_reap : goal.returns-clause-no_guests_is_a_reap
returns-clause-no_guests_is_a_reap c = refl

pub returns-clause-no_guests_is_a_post : goal.returns-clause-no_guests_is_a_post
returns-clause-no_guests_is_a_post c = refl

pub returns-clause-a_lanes_is_a_reap : goal.returns-clause-a_lanes_is_a_reap
returns-clause-a_lanes_is_a_reap c = refl

pub returns-clause-a_lanes_is_a_post : goal.returns-clause-a_lanes_is_a_post
returns-clause-a_lanes_is_a_post c = refl

pub returns-clause-no_lanes_is_a_take : goal.returns-clause-no_lanes_is_a_take
returns-clause-no_lanes_is_a_take c = refl

pub returns-clause-no_lanes_is_a_submit : goal.returns-clause-no_lanes_is_a_submit
returns-clause-no_lanes_is_a_submit c = refl

pub returns-clause-no_lanes_is_the_drives : goal.returns-clause-no_lanes_is_the_drives
returns-clause-no_lanes_is_the_drives c = refl
