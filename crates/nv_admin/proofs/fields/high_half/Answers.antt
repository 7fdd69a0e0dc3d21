use Rattle.std.proofs.Common.{arith}
use Rattle.nv_entry.specs.Layout.{bits}
use Rattle.nv_admin.proofs.fields.high_half.Goals as goal

pub returns : goal.returns
unfolding bits
returns c = omega arith
