use Rattle.nv_laws.proofs.headline.Rings.{takes-go}
use Rattle.nv_laws.proofs.laws.headline.rings.takes_are_followed.Goals as goal

pub returns : goal.returns
returns c = λ host_bytes geometry number guest w p lane given reached related mine.
    takes-go host_bytes geometry number guest given w reached p related lane mine
