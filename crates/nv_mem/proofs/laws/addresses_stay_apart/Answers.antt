use Rattle.nv_mem.proofs.Memory.{host_of-injective}
use Rattle.nv_mem.proofs.laws.addresses_stay_apart.Goals as goal

pub returns : goal.returns
returns c = λ m a b host sound. host_of-injective m.regions a b host sound.apart
