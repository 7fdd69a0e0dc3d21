use Rattle.std.proofs.Common.{◌≡◌, ◌↔◌, ◌==◌, ◌+◌, ◌<◌, ℕ, IsTrue, not, subst, sym, ap, ◌∙◌}
use Rattle.nv_model.specs.Queue.{next_slot}
use Rattle.nv_ring.specs.Ring.{Positions, waiting}
use Rattle.nv_ring.proofs.Waiting.{room-tested}
use Rattle.nv_ring.proofs.ring.Ring.room.Goals as goal

pub returns-clause-counted : goal.returns-clause-counted
returns-clause-counted c =
    let P : Positions → Type 0 = λ p. IsTrue (not (c.self.inside.head == c.next.result)) ↔ (waiting p + 1 < p.size) in
    let N : ℕ → Type 0 = λ n. IsTrue (not (c.self.inside.head == n)) ↔
    (waiting (record { size = c.self.inside.size; head = c.self.inside.head; tail = c.self.inside.tail }) + 1 < c.self.inside.size) in
    let next : c.next.result ≡ next_slot c.self.inside.size c.self.inside.tail =
    c.next.ensures.value ∙ ap (λ (p : Positions). next_slot p.size c.self.inside.tail) (sym c.self.view_is) in
    subst P c.self.view_is (subst N (sym next) (room-tested c.self.inside.size c.self.inside.head c.self.inside.tail c.self.invariant))
