use Rattle.std.proofs.Common.{◌∙◌, arith}
use Rattle.nv_core.proofs.CallReaps.{whole-is}
use Rattle.nv_core.proofs.reaping.completion_of.Goals as goal

pub returns : goal.returns
returns c = c.of.ensures ∙ whole-is c.args.first c.args.last (omega arith) (omega arith)
