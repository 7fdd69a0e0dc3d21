use Rattle.std.proofs.Common.{refl}
use Rattle.nv_examples_host.proofs.asking.events.Goals as goal

pub returns-clause-acts : goal.returns-clause-acts
returns-clause-acts c = refl

pub returns-clause-admin : goal.returns-clause-admin
returns-clause-admin c = refl

pub returns-clause-takes : goal.returns-clause-takes
returns-clause-takes c = refl

pub returns-clause-reads : goal.returns-clause-reads
returns-clause-reads c = refl

pub returns-clause-submits : goal.returns-clause-submits
returns-clause-submits c = refl

pub returns-clause-gives_up : goal.returns-clause-gives_up
returns-clause-gives_up c = refl

pub returns-clause-reaps : goal.returns-clause-reaps
returns-clause-reaps c = refl

pub returns-clause-posts : goal.returns-clause-posts
returns-clause-posts c = refl

pub returns-clause-the_drive_takes : goal.returns-clause-the_drive_takes
returns-clause-the_drive_takes c = refl

pub returns-clause-the_drive_moves : goal.returns-clause-the_drive_moves
returns-clause-the_drive_moves c = refl

pub returns-clause-the_drive_posts : goal.returns-clause-the_drive_posts
returns-clause-the_drive_posts c = refl

pub returns-clause-the_drive_fails : goal.returns-clause-the_drive_fails
returns-clause-the_drive_fails c = refl

pub returns-clause-the_drive_keeps : goal.returns-clause-the_drive_keeps
returns-clause-the_drive_keeps c = refl

pub returns-clause-a_reap : goal.returns-clause-a_reap
returns-clause-a_reap c = refl

pub returns-clause-the_drives_take_is_none : goal.returns-clause-the_drives_take_is_none
returns-clause-the_drives_take_is_none c = refl

pub returns-clause-the_drives_move_is_none : goal.returns-clause-the_drives_move_is_none
returns-clause-the_drives_move_is_none c = refl

pub returns-clause-the_drives_post_is_none : goal.returns-clause-the_drives_post_is_none
returns-clause-the_drives_post_is_none c = refl

pub returns-clause-the_drives_failure_is_none : goal.returns-clause-the_drives_failure_is_none
returns-clause-the_drives_failure_is_none c = refl

pub returns-clause-the_drives_mark_is_none : goal.returns-clause-the_drives_mark_is_none
returns-clause-the_drives_mark_is_none c = refl

pub returns-clause-a_post_is_none : goal.returns-clause-a_post_is_none
returns-clause-a_post_is_none c = refl

pub returns-clause-a_take_is_none : goal.returns-clause-a_take_is_none
returns-clause-a_take_is_none c = refl

pub returns-clause-a_submit_is_none : goal.returns-clause-a_submit_is_none
returns-clause-a_submit_is_none c = refl

pub returns-clause-an_act_is_none : goal.returns-clause-an_act_is_none
returns-clause-an_act_is_none c = refl

pub returns-clause-an_admin_event_is_none : goal.returns-clause-an_admin_event_is_none
returns-clause-an_admin_event_is_none c = refl

pub returns-clause-a_list_is_none : goal.returns-clause-a_list_is_none
returns-clause-a_list_is_none c = refl

pub returns-clause-one_given_up_is_none : goal.returns-clause-one_given_up_is_none
returns-clause-one_given_up_is_none c = refl
