use Rattle.std.proofs.Common.{◌==◌, ℕ, ap}
use Rattle.nv_vctl.proofs.Fields.{low-bit}
use Rattle.nv_vctl.proofs.registers.enables.Goals as goal

pub returns : goal.returns
returns c = ap (λ (n : ℕ). n == 1) (low-bit c.args.value)
