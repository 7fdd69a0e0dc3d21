use Rattle.nv_laws.proofs.others.Containing.{events-alike}
use Rattle.nv_laws.proofs.laws.others.alike.events_keep_worlds_alike.Goals as goal

pub returns : goal.returns
returns c = events-alike
