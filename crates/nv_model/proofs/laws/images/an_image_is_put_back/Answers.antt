use Rattle.nv_mem.proofs.Images.{guest_of-host}
use Rattle.nv_model.proofs.PutImages.{image-put_image, put_image-elsewhere}
use Rattle.nv_model.proofs.laws.images.an_image_is_put_back.Goals as goal

pub returns-clause-there : goal.returns-clause-there
returns-clause-there c = λ m memory host addr sound there. image-put_image m.regions memory host addr sound.apart there

pub returns-clause-others : goal.returns-clause-others
returns-clause-others c = put_image-elsewhere

pub returns-clause-inverse : goal.returns-clause-inverse
returns-clause-inverse c = λ m addr at sound e. guest_of-host m.regions addr at sound.apart e
