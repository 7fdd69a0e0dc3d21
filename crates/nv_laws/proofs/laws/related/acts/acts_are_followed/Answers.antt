use Rattle.nv_laws.proofs.related.Acts.{act-goes}
use Rattle.nv_laws.proofs.laws.related.acts.acts_are_followed.Goals as goal

pub returns : goal.returns
returns c = λ host_bytes geometry number guest w p a given reached related disciplined.
    act-goes host_bytes geometry number guest given w reached p related a disciplined
