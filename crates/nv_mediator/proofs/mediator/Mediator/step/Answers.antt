use Rattle.std.proofs.Common.{◌≡◌, subst, true}
use Rattle.std.specs.Prelude.{IfOk}
use Rattle.nv_mediator.proofs.Counts.{counts-more}
use Rattle.nv_mediator.proofs.Steps.{either-hosted, either-made, hosting, same-unchanged}
use Rattle.nv_mediator.specs.Hosted.{Hosted, IsMade, IsUnchanged, may_want}
use Rattle.nv_mediator.proofs.mediator.Mediator.step.Goals as goal

pub perform-requires-clause-can_count : goal.perform-requires-clause-can_count
perform-requires-clause-can_count c =
    let h : Hosted = record { geometry = c.self.inside.layout; state = c.self.inside.core } in
    λ guest. counts-more h guest c.self.invariant

pub invariant_of-self : goal.invariant_of-self
invariant_of-self c =
    let h : Hosted = record { geometry = c.self.inside.layout; state = c.self.inside.core } in
    either-hosted h c.perform.new.core c.args.event.now (λ r. r)
    ((c.perform.new.core ≡ c.self.inside.core) × (may_want c.args.event.now ≡ true)) c.self.invariant c.known.ensures c.perform.result
    c.perform.ensures.step c.perform.ensures.err (λ failed. same-unchanged c.self.inside.core c.perform.new.core failed.0)

pub returns-clause-ok : goal.returns-clause-ok
returns-clause-ok c =
    let h : Hosted = record { geometry = c.self.inside.layout; state = c.self.inside.core } in
    subst (λ (o : Hosted). IfOk c.perform.result (λ r. IsMade c.args.event.now o r (hosting h c.perform.new.core))) c.self.view_is
    (either-made h c.perform.new.core c.args.event.now (λ r. r) (IsUnchanged c.self.inside.core c.perform.new.core) c.self.invariant c.known.ensures c.perform.result c.perform.ensures.step)
