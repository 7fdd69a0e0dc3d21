use Rattle.std.proofs.Common.{refl}
use Rattle.nv_examples_host.proofs.asking.lanes.Goals as goal

pub returns-clause-the_first_is_open : goal.returns-clause-the_first_is_open
returns-clause-the_first_is_open c = refl

pub returns-clause-the_second_was_closed : goal.returns-clause-the_second_was_closed
returns-clause-the_second_was_closed c = refl

pub returns-clause-a_third_is_not_there : goal.returns-clause-a_third_is_not_there
returns-clause-a_third_is_not_there c = refl

pub returns-clause-none : goal.returns-clause-none
returns-clause-none c = refl

pub returns-clause-nothing_is_taken_for_a_closed_one : goal.returns-clause-nothing_is_taken_for_a_closed_one
returns-clause-nothing_is_taken_for_a_closed_one c = refl

pub returns-clause-something_is_for_an_open_one : goal.returns-clause-something_is_for_an_open_one
returns-clause-something_is_for_an_open_one c = refl

pub returns-clause-what_was_taken_goes_on : goal.returns-clause-what_was_taken_goes_on
returns-clause-what_was_taken_goes_on c = refl

pub returns-clause-completions_are_read : goal.returns-clause-completions_are_read
returns-clause-completions_are_read c = refl

pub returns-clause-no_event_of_the_drive : goal.returns-clause-no_event_of_the_drive
returns-clause-no_event_of_the_drive c = refl
