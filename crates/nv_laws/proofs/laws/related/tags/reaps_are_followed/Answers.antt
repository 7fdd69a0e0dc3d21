use Rattle.nv_laws.proofs.related.Reaps.{reaps-go}
use Rattle.nv_laws.proofs.laws.related.tags.reaps_are_followed.Goals as goal

pub returns : goal.returns
returns c = λ host_bytes geometry number lane guest w p given reached related own.
    reaps-go host_bytes geometry number guest given w reached p related lane own
