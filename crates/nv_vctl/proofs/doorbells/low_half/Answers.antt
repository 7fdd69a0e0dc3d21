use Rattle.nv_vctl.proofs.Fields.{low-half}
use Rattle.nv_vctl.proofs.doorbells.low_half.Goals as goal

pub returns : goal.returns
returns c = low-half c.args.value
