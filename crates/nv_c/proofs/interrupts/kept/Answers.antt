use Rattle.std.proofs.Common.{◌+◌, ◌∙◌, ℕ, ap, sym}
use Rattle.nv_c.specs.Serving.{vector_kept}
use Rattle.nv_c.proofs.interrupts.kept.Goals as goal

pub returns-in-None : goal.returns-in-None
returns-in-None c = sym (ap vector_kept c.in-None.is)

pub returns-in-Some : goal.returns-in-Some
returns-in-Some c = ap (λ (n : ℕ). n + 1) c.from.ensures ∙ sym (ap vector_kept c.in-Some.is)
