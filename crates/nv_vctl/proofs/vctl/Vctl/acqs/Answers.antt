use Rattle.std.proofs.Common.{ℕ, ◌+◌, ap, ◌∙◌}
use Rattle.nv_model.specs.Controller.{Controller, admin_completion_size}
use Rattle.nv_vctl.proofs.Fields.{high-bits}
use Rattle.nv_vctl.proofs.vctl.Vctl.acqs.Goals as goal

pub returns-clause-value : goal.returns-clause-value
returns-clause-value c =
    c.admin_size.ensures.value ∙ ap (λ (n : ℕ). n + 1) (high-bits c.self.inside.aqa) ∙ ap (λ (v : Controller). admin_completion_size v) c.self.view_is
