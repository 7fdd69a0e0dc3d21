use Rattle.nv_model.proofs.AnyAnswers.{end-sound}
use Rattle.nv_world_model.proofs.OneExtent.{shares_of-one}
use Rattle.nv_world_model.proofs.laws.shares.one_extent_has_one_share.Goals as goal

pub returns : goal.returns
returns c = λ regions mapped limit extent entry work goes.
    shares_of-one regions mapped entry extent work (end-sound mapped limit extent.blocks entry work goes)
