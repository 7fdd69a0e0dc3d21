use Rattle.nv_mem.proofs.Memory.{InMemory-image, get_or-after_store_image}
use Rattle.nv_mem.proofs.laws.store_in_an_image_stays_in_it.Goals as goal

pub returns-clause-inside : goal.returns-clause-inside
returns-clause-inside c = InMemory-image

pub returns-clause-others : goal.returns-clause-others
returns-clause-others c = get_or-after_store_image
