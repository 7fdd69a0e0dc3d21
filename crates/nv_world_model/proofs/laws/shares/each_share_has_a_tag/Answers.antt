use Rattle.nv_world_model.proofs.TagCounts.{shares_of-tags}
use Rattle.nv_world_model.proofs.laws.shares.each_share_has_a_tag.Goals as goal

pub returns : goal.returns
returns c = λ regions mapped limit ns entry work goes. shares_of-tags regions mapped limit ns entry work goes
