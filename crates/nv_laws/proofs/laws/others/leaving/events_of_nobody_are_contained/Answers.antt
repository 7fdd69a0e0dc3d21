use Rattle.nv_laws.proofs.others.Every.{keep-raises, nobodys-contained}
use Rattle.nv_laws.proofs.laws.others.leaving.events_of_nobody_are_contained.Goals as goal

pub returns-clause-keep : goal.returns-clause-keep
returns-clause-keep c = keep-raises

pub returns-clause-contained : goal.returns-clause-contained
returns-clause-contained c = nobodys-contained
