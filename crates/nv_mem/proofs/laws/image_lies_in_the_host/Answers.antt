use Rattle.nv_mem.proofs.Images.{host_of-inside}
use Rattle.nv_mem.proofs.laws.image_lies_in_the_host.Goals as goal

pub returns : goal.returns
returns c = λ m addr host sound. host_of-inside m.host_len m.regions addr host sound.inside
