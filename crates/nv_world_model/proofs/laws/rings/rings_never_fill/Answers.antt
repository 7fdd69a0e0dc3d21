use Rattle.nv_world_model.proofs.LaneCounts.{never-overrun}
use Rattle.nv_world_model.proofs.laws.rings.rings_never_fill.Goals as goal

pub returns : goal.returns
returns c = never-overrun
