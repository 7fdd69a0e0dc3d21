use Rattle.std.proofs.Common.{◌≡◌, ◌+◌, ℕ, false, subst, sym, ap, ◌∙◌}
use Rattle.nv_model.specs.Queue.{ahead, is_empty}
use Rattle.nv_ring.specs.Ring.{Positions, waiting}
use Rattle.nv_ring.proofs.Waiting.{one-taken}
use Rattle.nv_ring.proofs.ring.Ring.take.Goals as goal

pub returns-clause-counted : goal.returns-clause-counted
returns-clause-counted c =
    let F : Positions → Type 0 = λ p. is_empty p.head p.tail ≡ false in
    ap (λ (head : ℕ). ahead c.self.inside.size head c.self.inside.tail + 1) c.next-self-inside.ensures.value
    ∙ one-taken c.self.inside.size c.self.inside.head c.self.inside.tail c.self.invariant (subst F (sym c.self.view_is) c.requires)
    ∙ ap waiting c.self.view_is
