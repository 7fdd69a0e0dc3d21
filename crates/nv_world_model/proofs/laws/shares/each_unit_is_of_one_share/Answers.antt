use Rattle.nv_ns.specs.Extents.{blocks_in}
use Rattle.nv_model.proofs.AnyAnswers.{end-sound}
use Rattle.nv_world_model.proofs.AllShares.{shares_of-times}
use Rattle.nv_world_model.proofs.laws.shares.each_unit_is_of_one_share.Goals as goal

pub returns : goal.returns
returns c = λ regions mapped limit ns entry work number goes.
    shares_of-times number regions mapped ns entry work (end-sound mapped limit (blocks_in ns) entry work goes)
