use Rattle.nv_laws.proofs.others.Shown.{shown-at}
use Rattle.nv_laws.proofs.laws.others.showing.what_is_shown_is_of_own_tags.Goals as goal

pub returns : goal.returns
returns c = λ host_bytes geometry w number guest addr laid is given lies. shown-at host_bytes geometry w number guest addr laid is.of_tags given lies
