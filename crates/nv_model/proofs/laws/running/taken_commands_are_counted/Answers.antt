use Rattle.nv_model.proofs.Running.{along-running}
use Rattle.nv_model.proofs.RunningFacts.{admin-none, none-counted, none-taken, taken-io}
use Rattle.nv_model.proofs.laws.running.taken_commands_are_counted.Goals as goal

pub returns-clause-by_queue : goal.returns-clause-by_queue
returns-clause-by_queue c memory disk shape steps r is =
    let counted = (along-running memory disk shape steps r is).counted in (counted.bound, (counted.none_beyond, counted.count))

pub returns-clause-of_io_queues : goal.returns-clause-of_io_queues
returns-clause-of_io_queues c memory disk shape steps r is name t there =
    taken-io r.state.controller r.state.bag name t (along-running memory disk shape steps r is) there

pub returns-clause-no_admin_commands : goal.returns-clause-no_admin_commands
returns-clause-no_admin_commands c memory disk shape steps r is =
    admin-none r.state.controller r.state.bag (along-running memory disk shape steps r is)

pub returns-clause-lengths : goal.returns-clause-lengths
returns-clause-lengths c memory disk shape steps r is =
    let was = (along-running memory disk shape steps r is).together in (was.taken_count, was.submission_count, was.completion_count)

pub returns-clause-none : goal.returns-clause-none
returns-clause-none c memory disk shape steps r is =
    let was = along-running memory disk shape steps r is in
    (none-taken r.state.controller r.state.bag was, none-counted r.state.controller r.state.bag was)
