use Rattle.std.proofs.Common.{◌≡◌, ◌+◌, false, subst, sym, ap, ◌∙◌}
use Rattle.nv_model.specs.Queue.{ahead, is_full}
use Rattle.nv_model.proofs.QueueOrder.{ahead-next}
use Rattle.nv_ring.specs.Ring.{Positions, waiting}
use Rattle.nv_ring.proofs.ring.Ring.put.Goals as goal

pub returns-clause-counted : goal.returns-clause-counted
returns-clause-counted c =
    let F : Positions → Type 0 = λ p. is_full p.size p.head p.tail ≡ false in
    ap (ahead c.self.inside.size c.self.inside.head) c.next-self-inside.ensures.value
    ∙ ahead-next c.self.inside.size c.self.inside.head c.self.inside.tail c.self.invariant (subst F (sym c.self.view_is) c.requires)
    ∙ ap (λ (p : Positions). waiting p + 1) c.self.view_is
