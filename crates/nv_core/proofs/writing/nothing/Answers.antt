use Rattle.std.proofs.Common.{refl}
use Rattle.nv_prp.specs.Built.{built}
use Rattle.nv_core.proofs.writing.nothing.Goals as goal

pub returns : goal.returns
unfolding built
returns c = λ list. refl
