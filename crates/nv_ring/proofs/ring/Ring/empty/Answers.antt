use Rattle.std.proofs.Common.{◌≡◌, ◌↔◌, ◌==◌, IsTrue, subst}
use Rattle.nv_ring.specs.Ring.{Positions, waiting}
use Rattle.nv_ring.proofs.Waiting.{empty-counted}
use Rattle.nv_ring.proofs.ring.Ring.empty.Goals as goal

pub returns-clause-counted : goal.returns-clause-counted
returns-clause-counted c =
    let P : Positions → Type 0 = λ p. IsTrue (c.self.inside.head == c.self.inside.tail) ↔ (waiting p ≡ 0) in
    subst P c.self.view_is (empty-counted c.self.inside.size c.self.inside.head c.self.inside.tail c.self.invariant)
