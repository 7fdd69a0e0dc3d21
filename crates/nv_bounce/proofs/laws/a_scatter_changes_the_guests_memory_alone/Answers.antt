use Rattle.std.proofs.Common.{length}
use Rattle.nv_model.specs.Memory.{bytes_from, image, scattered}
use Rattle.nv_model.proofs.PutImages.{bytes_from-put_image, image-put_image, put_image-elsewhere}
use Rattle.nv_bounce.proofs.laws.a_scatter_changes_the_guests_memory_alone.Goals as goal

pub returns-clause-guest : goal.returns-clause-guest
returns-clause-guest c = λ map places slot host addr sound there.
    image-put_image map.regions (scattered (image map.regions host) places (bytes_from host slot (length places))) host addr sound.apart there

pub returns-clause-others : goal.returns-clause-others
returns-clause-others c = λ regions places slot host at outside.
    put_image-elsewhere regions (scattered (image regions host) places (bytes_from host slot (length places))) host at outside

pub returns-clause-slot : goal.returns-clause-slot
returns-clause-slot c = λ regions places slot host clear.
    bytes_from-put_image regions (scattered (image regions host) places (bytes_from host slot (length places))) host slot (length places) clear
