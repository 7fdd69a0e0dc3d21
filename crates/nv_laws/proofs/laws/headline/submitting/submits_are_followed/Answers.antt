use Rattle.nv_laws.proofs.headline.Submits.{submits-go}
use Rattle.nv_laws.proofs.laws.headline.submitting.submits_are_followed.Goals as goal

pub returns : goal.returns
returns c host_bytes geometry number guest lane tag given w p reached disciplined related own =
    submits-go host_bytes geometry number guest given w reached p related lane tag disciplined.before own
