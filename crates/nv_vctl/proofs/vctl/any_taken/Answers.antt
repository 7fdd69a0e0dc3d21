use Rattle.std.proofs.Common.{◌∙◌}
use Rattle.nv_vctl.proofs.Fields.{any-sum}
use Rattle.nv_vctl.proofs.vctl.any_taken.Goals as goal

pub returns : goal.returns
returns c = c.any_nonzero.ensures ∙ any-sum c.args.taken.now
