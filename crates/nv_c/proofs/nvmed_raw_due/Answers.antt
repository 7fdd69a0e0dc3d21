use Rattle.std.proofs.Common.{inl, refl}
use Rattle.nv_c.proofs.nvmed_raw_due.Goals as goal

pub returns-in_default-clause-value : goal.returns-in_default-clause-value
returns-in_default-clause-value c = inl (c.in_default.ensures, refl, refl)
