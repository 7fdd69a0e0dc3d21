use Rattle.std.proofs.Common.{◌+◌, ℕ, ap}
use Rattle.nv_vctl.proofs.Fields.{low-bits}
use Rattle.nv_vctl.proofs.registers.admin_size.Goals as goal

pub returns-clause-value : goal.returns-clause-value
returns-clause-value c = ap (λ (n : ℕ). n + 1) (low-bits c.args.sizes)
