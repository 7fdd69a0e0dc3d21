use Rattle.std.proofs.Common.{refl}
use Rattle.nv_examples.proofs.extents.contained.own_blocks.Goals as goal

pub returns : goal.returns
returns c = refl
