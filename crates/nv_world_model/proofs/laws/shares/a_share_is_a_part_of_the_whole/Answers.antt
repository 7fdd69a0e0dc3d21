use Rattle.nv_ns.specs.Extents.{blocks_in}
use Rattle.nv_model.proofs.AnyAnswers.{end-sound}
use Rattle.nv_world_model.proofs.ShareWholes.{shares_of-parts}
use Rattle.nv_world_model.proofs.laws.shares.a_share_is_a_part_of_the_whole.Goals as goal

pub returns : goal.returns
returns c = λ regions mapped limit ns entry work goes.
    shares_of-parts regions mapped ns entry work (end-sound mapped limit (blocks_in ns) entry work goes)
