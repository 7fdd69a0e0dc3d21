use Rattle.nv_laws.proofs.related.Others.{others-go}
use Rattle.nv_laws.proofs.laws.related.others.events_of_others_are_followed.Goals as goal

pub returns : goal.returns
returns c = λ host_bytes geometry number guest w p e given reached related apart.
    others-go host_bytes geometry number guest given w reached p related e apart
