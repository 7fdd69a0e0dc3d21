use Rattle.std.proofs.Common.{◌≡◌, ◌∙◌, ◌||◌, ℕ, List, Bool, true, false, length, nat_lt, slice_get, ap, sym}
use Rattle.nv_core.proofs.MarkedLanes.{found}
use Rattle.nv_core.specs.Reaping.{waits_in}
use Rattle.nv_core.specs.Tags.{ended_in}
use Rattle.nv_core.proofs.front.Front.has_news.Goals as goal

pub returns-then-is_some : goal.returns-then-is_some
returns-then-is_some g c =
    let some : nat_lt 0 (length (ended_in (slice_get c.args.self.now.lanes c.args.lane))) ≡ true =
    sym (ap (λ (xs : List ℕ). nat_lt 0 (length xs)) c.ended-ended.ensures)
    ∙ found c.pop.result c.ended-ended.result c.pop.new.self c.pop.ensures.lowest ∙ sym c.is_some.ensures ∙ c.if-is_some.true in
    sym (ap (λ (b : Bool). b || waits_in c.args.layout.now c.args.lane (slice_get c.args.self.now.lanes c.args.lane) (g.C.MemoryCell.bytes c.args.host.now)) some)

pub returns : goal.returns
returns g c =
    let none : nat_lt 0 (length (ended_in (slice_get c.args.self.now.lanes c.args.lane))) ≡ false =
    sym (ap (λ (xs : List ℕ). nat_lt 0 (length xs)) c.ended-ended.ensures)
    ∙ found c.pop.result c.ended-ended.result c.pop.new.self c.pop.ensures.lowest ∙ sym c.is_some.ensures ∙ c.if-is_some.false in
    c.reap_due.ensures.answer
    ∙ sym (ap (λ (b : Bool). b || waits_in c.args.layout.now c.args.lane (slice_get c.args.self.now.lanes c.args.lane) (g.C.MemoryCell.bytes c.args.host.now)) none)
