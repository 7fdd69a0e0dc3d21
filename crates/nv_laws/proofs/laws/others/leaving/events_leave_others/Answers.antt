use Rattle.nv_laws.proofs.others.Every.{each-leaves-others, leaves-others-since}
use Rattle.nv_laws.proofs.laws.others.leaving.events_leave_others.Goals as goal

pub returns-clause-each : goal.returns-clause-each
returns-clause-each c = each-leaves-others

pub returns-clause-from_start : goal.returns-clause-from_start
returns-clause-from_start c = leaves-others-since
