use Rattle.nv_laws.proofs.others.Containing.{contained-since, events-contained, logs-contained}
use Rattle.nv_laws.proofs.laws.others.containing.every_event_is_contained.Goals as goal

pub returns-clause-each : goal.returns-clause-each
returns-clause-each c = events-contained

pub returns-clause-along : goal.returns-clause-along
returns-clause-along c = logs-contained

pub returns-clause-from_start : goal.returns-clause-from_start
returns-clause-from_start c = contained-since
