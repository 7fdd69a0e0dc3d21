use Rattle.nv_model.proofs.Running.{along-running}
use Rattle.nv_model.proofs.RunningFacts.{ready-taken, taken-ready}
use Rattle.nv_model.proofs.laws.running.ready_while_a_command_is_taken.Goals as goal

pub returns-clause-taken : goal.returns-clause-taken
returns-clause-taken c memory disk shape steps r is name t there =
    taken-ready r.state.controller r.state.bag name t (along-running memory disk shape steps r is) there

pub returns-clause-while_disabled : goal.returns-clause-while_disabled
returns-clause-while_disabled c memory disk shape steps r is out =
    ready-taken r.state.controller r.state.bag (along-running memory disk shape steps r is) out

pub returns-clause-admin_queues : goal.returns-clause-admin_queues
returns-clause-admin_queues c memory disk shape steps r is on up = (along-running memory disk shape steps r is).together.admin_there on up
