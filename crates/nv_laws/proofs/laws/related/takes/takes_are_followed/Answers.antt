use Rattle.nv_laws.proofs.related.Takes.{takes-go}
use Rattle.nv_laws.proofs.laws.related.takes.takes_are_followed.Goals as goal

pub returns : goal.returns
returns c = λ host_bytes geometry number queue lane guest w p given reached related disciplined.
    takes-go host_bytes geometry number guest given w reached p related queue lane disciplined
