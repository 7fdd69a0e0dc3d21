use Rattle.std.proofs.Common.{inl, refl}
use Rattle.nv_c.proofs.nvmed_raw_step.Goals as goal

pub returns-in-None-clause-value : goal.returns-in-None-clause-value
returns-in-None-clause-value c = inl (c.in-None.ensures, refl, refl)
