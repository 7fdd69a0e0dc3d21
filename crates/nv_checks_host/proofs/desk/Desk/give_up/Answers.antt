use Rattle.std.proofs.Common.{[], sym, ap, ◌∙◌}
use Rattle.nv_world_model.specs.SetUp.{SetUp}
use Rattle.nv_checks_host.proofs.desk.Desk.give_up.Goals as goal

-- the set-up is the same, whatever is in the memory
pub invariant_of-self : goal.invariant_of-self
invariant_of-self c = c.self.invariant ∙ sym (ap (λ (s : SetUp). s.host_bytes) (c.give_up.ensures []).next.setup)
