use Rattle.nv_laws.proofs.headline.Each.{all-followed}
use Rattle.nv_laws.proofs.laws.headline.headline.each_event_is_followed.Goals as goal

pub returns : goal.returns
returns c = λ host_bytes number geometry guest given. all-followed host_bytes geometry number guest given
