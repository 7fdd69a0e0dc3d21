use Rattle.nv_laws.proofs.headline.Each.{promise-kept}
use Rattle.nv_laws.proofs.laws.headline.headline.logs_keep_the_promise.Goals as goal

pub returns : goal.returns
returns c = promise-kept
